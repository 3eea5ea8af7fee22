-- `next_open` meets its contract. The loop's invariant: all that was passed is built.
use Rattle.connectivity.specs.Plan.{limits}
use Rattle.record.specs.Cursors.{ScannedTo}
use Rattle.record.proofs.open.next_open.Given as goal

abbrev pub invariant-loop-i : goal.invariant-loop-i
invariant-loop-i l = ScannedTo limits l.incident l.begins l.order l.over l.at l.slot l.i l.from
