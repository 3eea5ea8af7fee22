-- `rises` meets its contract. The loop's invariant: the answer is the one from number i on, where `low` is one more than the number before.
use mathlib.Core.Path.{◌≡◌}
use mathlib.Core.Bool.{not}
use Prim.Native.Nat.{ℕ}
use lib.ListN.{drop}
use Rattle.connectivity.specs.Graph.{Graph, is_edge}
use Rattle.connectivity.specs.Judge.{ascending}
use Rattle.verify_weak.specs.Weak.{is_missing}
use Rattle.verify_weak.proofs.rises.Given as goal

abbrev pub invariant-loop-i : goal.invariant-loop-i
invariant-loop-i l = (g : Graph) → ((e : ℕ) → is_edge g e ≡ not (is_missing l.ends l.excluded e)) → ascending g 0 0 l.list ≡ ascending g l.i l.low (drop l.i l.list)
