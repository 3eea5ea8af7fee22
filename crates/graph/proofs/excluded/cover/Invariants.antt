-- `cover` meets its contract. The loop's invariant: the first e edges have been judged.
use mathlib.Core.Path.{◌≡◌}
use mathlib.Core.List.{List}
use Prim.Native.Nat.{ℕ}
use lib.ListN.{length}
use Rattle.connectivity.specs.Plan.{limits}
use Rattle.graph.specs.Excluded.{Barring}
use Rattle.graph.proofs.Barring.{Covering}
use Rattle.graph.proofs.excluded.cover.Given as goal

abbrev pub invariant-loop-e : goal.invariant-loop-e
invariant-loop-e l = (length l.dead ≡ length l.initial.dead) × ((excluded : List ℕ) → Barring limits excluded l.barred → Covering limits l.ends excluded l.initial.dead l.dead l.e)
