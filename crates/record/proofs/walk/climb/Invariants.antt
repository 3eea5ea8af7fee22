-- `climb` meets its contract. The loop's invariant: the legs that are done have their rows.
use Rattle.connectivity.specs.Plan.{limits}
use Rattle.record.proofs.Paths.{left}
use Rattle.record.proofs.Rising.{RisingAll}
use Rattle.record.proofs.walk.climb.Given as goal

abbrev pub invariant-loop-at : goal.invariant-loop-at
invariant-loop-at l = RisingAll limits l.ends l.first l.v l.stop l.step l.initial.rows l.rows l.at l.count

abbrev pub decreases-loop-at : goal.decreases-loop-at
decreases-loop-at l = left limits l.ends l.first l.stop l.at
