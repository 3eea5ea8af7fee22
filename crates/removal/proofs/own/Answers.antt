-- `own` meets its contract: without excluded vertices a plan is all that it lists.
use mathlib.Core.Path.{◌≡◌}
use mathlib.Core.Bool.{true}
use mathlib.Core.List.{List, [], ◌∷◌}
use Prim.Native.Nat.{ℕ}
use native.Mathlib.Omega.{arith}
use lib.ListN.{length}
use Rattle.connectivity.specs.Plan.{plan, entire, Limits, limits}
use Rattle.graph.specs.Admission.{told_by, lent}
use Rattle.graph.specs.declared.Answer as code
use Rattle.removal.proofs.own.Goals as goal

same : (most : Limits) (n : ℕ) (ends excluded : List ℕ) {a : code.Answer} → length excluded ≡ 0 → a ≡ told_by (lent most (entire n ends) true) → a ≡ told_by (lent most (plan n ends excluded) true)
same most n ends [] z h = h
same most n ends (v ∷ rest) z h = absurd (omega (arith, z))

pub returns-then-excluded-eq0 : goal.returns-then-excluded-eq0
returns-then-excluded-eq0 c = same limits c.args.vertices c.args.ends.now c.args.excluded.now c.if-excluded-eq0.true c.requires

pub returns : goal.returns
returns c = c.refusal.ensures
