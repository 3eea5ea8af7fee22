-- `split` meets its contract: the pass over all vertices.
use mathlib.Core.Path.{◌≡◌}
use lib.ListN.{length}
use Rattle.components.specs.Splitting.{Placing}
use Rattle.components.proofs.split.split.Given as goal

abbrev pub invariant-loop-v : goal.invariant-loop-v
invariant-loop-v l = (length l.other ≡ length l.initial.other) × Placing l.vertices l.v l.marks l.other l.initial.table l.table
