-- `mark_up` meets its contract. The loop's invariant: the vertices that were left have the mark.
use Rattle.connectivity.specs.Plan.{limits}
use Rattle.record.proofs.Paths.{left}
use Rattle.record.proofs.Rising.{MarksAll}
use Rattle.record.proofs.walk.mark_up.Given as goal

abbrev pub invariant-loop-at : goal.invariant-loop-at
invariant-loop-at l = MarksAll limits l.ends l.first l.v l.stop l.mark l.initial.marks l.marks l.at

abbrev pub decreases-loop-at : goal.decreases-loop-at
decreases-loop-at l = left limits l.ends l.first l.stop l.at
