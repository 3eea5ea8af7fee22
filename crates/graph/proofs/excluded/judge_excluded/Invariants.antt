-- `judge_excluded` meets its contract. The loop's invariant: the answer is the one from place k on, and no place is above the number that comes next.
use mathlib.Core.Path.{◌≡◌}
use Prim.Native.Nat.{◌≤◌}
use lib.ListN.{length, drop}
use Rattle.connectivity.specs.Admission.{excluded_answer}
use Rattle.graph.proofs.excluded.judge_excluded.Given as goal

abbrev pub invariant-loop-k : goal.invariant-loop-k
invariant-loop-k l = (l.k ≤ length l.excluded) × (l.k ≤ l.low) × (l.low ≤ l.vertices) × (excluded_answer l.vertices 0 0 l.excluded ≡ excluded_answer l.vertices l.k l.low (drop l.k l.excluded))
