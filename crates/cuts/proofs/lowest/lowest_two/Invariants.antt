-- `lowest_two` meets its contract: no pair whose first edge is lower than the one that is tried disconnects.
use mathlib.Core.Path.{◌≡◌}
use Rattle.connectivity.specs.Plan.{plan, graph}
use Rattle.connectivity.specs.Cut.{pairs, first_of}
use Rattle.cuts.specs.Lowest.{cut_by, first_two}
use Rattle.cuts.specs.Tries.{Restored}
use Rattle.cuts.proofs.First.{from}
use Rattle.cuts.proofs.lowest.lowest_two.Given as goal

abbrev pub invariant-loop-e : goal.invariant-loop-e
invariant-loop-e l =
    (first_two (graph (plan l.vertices l.ends l.excluded)) l.edges ≡ first_of (cut_by (graph (plan l.vertices l.ends l.excluded))) (pairs (from l.e l.edges)))
    × Restored l.initial.dead l.initial.marks l.initial.order l.initial.cursor l.dead l.marks l.order l.cursor
