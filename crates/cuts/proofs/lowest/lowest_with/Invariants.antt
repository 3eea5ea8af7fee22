-- `lowest_with` meets its contract: every edge between the two has been tried or passed over.
use Rattle.connectivity.specs.Plan.{plan, graph}
use Rattle.cuts.specs.Tries.{Restored}
use Rattle.cuts.proofs.Likes.{Reaching, rest}
use Rattle.cuts.proofs.lowest.lowest_with.Given as goal

abbrev pub invariant-loop-other : goal.invariant-loop-other
invariant-loop-other l =
    Reaching (graph (plan l.vertices l.ends l.excluded)) l.labels l.dead l.edges l.e l.other
    × Restored l.initial.dead l.initial.marks l.initial.order l.initial.cursor l.dead l.marks l.order l.cursor

abbrev pub decreases-loop-other : goal.decreases-loop-other
decreases-loop-other l = rest l.edges l.other
