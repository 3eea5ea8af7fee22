-- `finish` meets its contract: after each turn the rows so far are those of Mader's steps.
use Rattle.std.proofs.Common.{◌≡◌, ◌-◌, length}
use Rattle.connectivity.specs.Plan.{plan, limits}
use Rattle.record.specs.Progress.{Finishing, Going}
use Rattle.record.proofs.build.finish.Given as goal

abbrev pub invariant-loop-done : goal.invariant-loop-done
invariant-loop-done l =
    (length l.places ≡ length l.initial.places) × (length l.below ≡ length l.initial.below) × (length l.tips ≡ length l.initial.tips) × (length l.over ≡ length l.initial.over)
    × ((c : Finishing limits l.ends l.edges l.incident l.begins l.first l.order l.number l.last l.initial.places l.initial.below l.initial.tips l.initial.over l.initial.rows l.initial.done.row l.initial.done.step l.initial.done.next)
    → Going limits (plan c.n l.ends c.excluded) l.incident l.begins l.first l.order l.number l.last c.whole c.before l.rows l.places l.below l.tips l.over l.done.row l.done.step l.done.next
    l.stage.empty l.stage.at l.stage.slot)

abbrev pub decreases-loop-done : goal.decreases-loop-done
decreases-loop-done l = l.edges - l.done.row
