-- `lowest_one` meets its contract: every edge before the one that is tried has been tried or passed over.
use mathlib.Core.Path.{◌≡◌}
use Rattle.connectivity.specs.Plan.{plan, graph}
use Rattle.connectivity.specs.Cut.{singles, first_of}
use Rattle.cuts.specs.Lowest.{cut_by, first_one}
use Rattle.cuts.specs.Tries.{Restored}
use Rattle.cuts.proofs.First.{from}
use Rattle.cuts.proofs.lowest.lowest_one.Given as goal

abbrev pub invariant-loop-e : goal.invariant-loop-e
invariant-loop-e l =
    (first_one (graph (plan l.vertices l.ends l.excluded)) l.edges ≡ first_of (cut_by (graph (plan l.vertices l.ends l.excluded))) (singles (from l.e l.edges)))
    × Restored l.initial.dead l.initial.marks l.initial.order l.initial.cursor l.dead l.marks l.order l.cursor
