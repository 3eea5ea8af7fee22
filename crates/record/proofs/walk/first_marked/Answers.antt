-- `first_marked` meets its contract. The loop's invariant: the first marked vertex is still ahead.
use Rattle.std.proofs.Common.{arith}
use Rattle.record.proofs.Paths.{onward_start}
use Rattle.record.proofs.Meeting.{heading_below, heading_rises, heading_step, heading_less, heading_end}
use Rattle.record.proofs.walk.first_marked.Goals as goal

pub loop-at-init : goal.loop-at-init
loop-at-init c = λ d. onward_start d.way

pub overflow_cast-at : goal.overflow_cast-at
overflow_cast-at c =
    let pre = c.requires in
    omega (arith, heading_below pre (c.loop-at.invariant pre))

pub offset_bounds-marks-at : goal.offset_bounds-marks-at
offset_bounds-marks-at c =
    let pre = c.requires in
    omega (arith, heading_below pre (c.loop-at.invariant pre))

pub bounds-marks-at : goal.bounds-marks-at
bounds-marks-at c =
    let pre = c.requires in
    heading_below pre (c.loop-at.invariant pre)

pub above-at-requires : goal.above-at-requires
above-at-requires c =
    let pre = c.requires in
    heading_rises pre (c.loop-at.invariant pre) c.loop-at-test.true

pub loop-at-smaller : goal.loop-at-smaller
loop-at-smaller c =
    let pre = c.requires in
    rw c.above-at.ensures (heading_less pre (c.loop-at.invariant pre) c.loop-at-test.true)

pub loop-at-preserved : goal.loop-at-preserved
loop-at-preserved c =
    λ d. rw c.above-at.ensures (heading_step d (c.loop-at.invariant d) c.loop-at-test.true)

pub returns : goal.returns
returns c = λ d. heading_end d (c.loop-at.invariant d) c.loop-at-test.false
