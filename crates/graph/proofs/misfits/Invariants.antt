-- `misfits` meets its contract. The loop's invariant: where the sum is 0, the answer is the one from edge e on.
use mathlib.Core.Path.{◌≡◌}
use Prim.Native.Nat.{◌*◌, ◌/◌, ◌≤◌}
use lib.ListN.{length, drop}
use Rattle.connectivity.specs.Plan.{limits}
use Rattle.connectivity.specs.Admission.{ends_answer}
use Rattle.graph.proofs.misfits.Given as goal

abbrev pub invariant-loop-e : goal.invariant-loop-e
invariant-loop-e l =
    (length l.ends / 2 ≤ limits.edges) × (l.sum ≤ 5 * l.e) × (l.sum ≡ 0 → ends_answer l.vertices 0 l.ends ≡ ends_answer l.vertices l.e (drop (2 * l.e) l.ends))
