-- `stars` meets its contract: one edge after the other.
use mathlib.Core.Path.{◌≡◌, subst}
use Prim.Native.Nat.{ℕ, ◌/◌}
use native.Mathlib.Omega.{arith}
use lib.ListN.{length}
use Rattle.connectivity.specs.Plan.{plan, graph}
use Rattle.components.specs.Stars.{Stars}
use Rattle.components.proofs.Turning.{working_on}
use Rattle.components.proofs.pairs.stars.Goals as goal

pub star-requires : goal.star-requires
star-requires c =
    let s = c.requires in
    let i = c.loop-e.invariant in
    (omega (arith, s.0, c.loop-e-test.true), working_on s.1 i.1, s.2, i.0)

pub returns : goal.returns
returns c =
    let i = c.loop-e.invariant in
    let q : c.loop-e.e ≡ length c.args.ends.now / 2 = omega (arith, c.loop-e.auto.e-end, c.loop-e-test.false, c.requires.0) in
    (subst (λ (k : ℕ). Stars (graph (plan c.args.vertices c.args.ends.now c.args.excluded.now)) c.args.vertices (length c.args.ends.now / 2) k 0 c.loop-e.claimed c.loop-e.table) q i.0, i.1)
