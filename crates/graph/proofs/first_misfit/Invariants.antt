-- `first_misfit` meets its contract. The loop's invariant: the answer is the one from edge e on.
use mathlib.Core.Path.{◌≡◌}
use Prim.Native.Nat.{◌*◌, ◌/◌, ◌≤◌}
use lib.ListN.{length, drop}
use Rattle.connectivity.specs.Plan.{limits}
use Rattle.connectivity.specs.Admission.{ends_answer}
use Rattle.graph.proofs.first_misfit.Given as goal

abbrev pub invariant-loop-e : goal.invariant-loop-e
invariant-loop-e l = (length l.ends / 2 ≤ limits.edges) × (ends_answer l.vertices 0 l.ends ≡ ends_answer l.vertices l.e (drop (2 * l.e) l.ends))
