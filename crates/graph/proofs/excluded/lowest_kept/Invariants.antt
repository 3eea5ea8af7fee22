-- `lowest_kept` meets its contract. The loop's invariant: the gap is the one from place k on.
use mathlib.Core.Path.{◌≡◌}
use Prim.Native.Nat.{◌≤◌}
use lib.ListN.{length, drop}
use Rattle.graph.specs.Excluded.{first_gap}
use Rattle.graph.proofs.excluded.lowest_kept.Given as goal

abbrev pub invariant-loop-k : goal.invariant-loop-k
invariant-loop-k l = (l.k ≤ length l.excluded) × (first_gap 0 l.excluded ≡ first_gap l.k (drop l.k l.excluded))
