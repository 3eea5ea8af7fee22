-- `next_door` meets its contract. The loop's invariant: no place passed is that of a door.
use Rattle.record.proofs.Doors.{Passed}
use Rattle.record.proofs.theta.next_door.Given as goal

abbrev pub invariant-loop-k : goal.invariant-loop-k
invariant-loop-k l = Passed l.ends l.incident l.first l.number l.end l.r l.from l.k
