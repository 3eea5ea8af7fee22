-- `first_marked` meets its contract. The loop's invariant: the first marked vertex is still ahead.
use Rattle.connectivity.specs.Plan.{limits}
use Rattle.record.proofs.Meeting.{HeadingAll, toward}
use Rattle.record.proofs.walk.first_marked.Given as goal

abbrev pub invariant-loop-at : goal.invariant-loop-at
invariant-loop-at l = HeadingAll limits l.ends l.first l.marks l.v l.at

abbrev pub decreases-loop-at : goal.decreases-loop-at
decreases-loop-at l = toward limits l.ends l.first l.marks l.at
