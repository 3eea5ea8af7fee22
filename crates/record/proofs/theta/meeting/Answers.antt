-- `meeting` meets its contract: the first way's vertices are marked, the second is followed to the first mark, and the marks are taken back.
use Rattle.std.proofs.Common.{arith}
use Rattle.record.proofs.TwoWays.{marking, toward, meeting_at, unmarked}
use Rattle.record.proofs.theta.meeting.Goals as goal

pub mark_up-requires : goal.mark_up-requires
mark_up-requires c = marking c.requires _ c.requires.room

pub first_marked-x-requires : goal.first_marked-x-requires
first_marked-x-requires c =
    toward c.requires _ (c.mark_up.ensures.1 (marking c.requires _ c.requires.room)) (omega (arith, c.mark_up.ensures.0, c.requires.room))

pub mark_up-requires-2 : goal.mark_up-requires-2
mark_up-requires-2 c =
    marking c.requires _ (omega (arith, c.mark_up.ensures.0, c.requires.room))

pub returns : goal.returns
returns c =
    let found = c.mark_up.new.marks in (
      omega (arith, c.mark_up-2.ensures.0, c.mark_up.ensures.0),
      λ d.
          let m = c.mark_up.ensures.1 (marking d _ d.room) in (
            unmarked d found m c.mark_up-2.new.marks (c.mark_up-2.ensures.1 (marking d _ (omega (arith, c.mark_up.ensures.0, d.room)))),
            meeting_at d found m (c.first_marked-x.ensures (toward d found m (omega (arith, c.mark_up.ensures.0, d.room)))),
          ),
    )
