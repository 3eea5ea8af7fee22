-- `mark_up` meets its contract. The loop's invariant: the vertices that were left have the mark.
use Rattle.std.proofs.Common.{◌<◌, length, arith}
use Rattle.connectivity.specs.Plan.{limits}
use Rattle.record.proofs.Paths.{left_less, onward_below, onward_rises}
use Rattle.record.proofs.Rising.{marks_start, marks_room, marks_step, marks_long, marks_end}
use Rattle.record.proofs.walk.mark_up.Goals as goal

pub loop-at-init : goal.loop-at-init
loop-at-init c =
    let a = c.args in
    marks_start a.ends.now a.first.now a.marks.now a.v a.stop a.mark

pub overflow_cast-marks : goal.overflow_cast-marks
overflow_cast-marks c =
    let small : c.loop-at.at < limits.vertices = let pre = c.requires in
    omega (arith, onward_below (c.loop-at.invariant pre).on, pre.way.admitted.vertices) in
    omega (arith, small)

pub offset_bounds-marks-at : goal.offset_bounds-marks-at
offset_bounds-marks-at c =
    let small : c.loop-at.at < limits.vertices = let pre = c.requires in
    omega (arith, onward_below (c.loop-at.invariant pre).on, pre.way.admitted.vertices) in
    omega (arith, small)

pub bounds-marks-at : goal.bounds-marks-at
bounds-marks-at c =
    let room : c.loop-at.at < length c.loop-at.marks = let pre = c.requires in
    let m = c.loop-at.invariant pre in
    marks_room m pre.room (onward_below m.on) in
    room

pub above-at-requires : goal.above-at-requires
above-at-requires c =
    let pre = c.requires in
    onward_rises (c.loop-at.invariant pre).on c.loop-at-test.true

pub loop-at-smaller : goal.loop-at-smaller
loop-at-smaller c =
    let pre = c.requires in
    rw c.above-at.ensures (left_less (c.loop-at.invariant pre).on c.loop-at-test.true)

pub loop-at-preserved : goal.loop-at-preserved
loop-at-preserved c =
    λ d. rw c.above-at.ensures (marks_step (c.loop-at.invariant d) d.room c.loop-at-test.true)

pub offset_bounds-marks-stop : goal.offset_bounds-marks-stop
offset_bounds-marks-stop c =
    let last_room : c.args.stop < length c.loop-at.marks = let pre = c.requires in
    marks_room (c.loop-at.invariant pre) pre.room pre.way.to in
    omega (arith, last_room)

pub bounds-marks-stop : goal.bounds-marks-stop
bounds-marks-stop c =
    let last_room : c.args.stop < length c.loop-at.marks = let pre = c.requires in
    marks_room (c.loop-at.invariant pre) pre.room pre.way.to in
    last_room

pub shape_of-marks : goal.shape_of-marks
shape_of-marks c =
    let pre = c.requires in
    marks_long (c.loop-at.invariant pre) pre.room c.loop-at-test.false

pub returns : goal.returns
returns c =
    let pre = c.requires in
    (marks_long (c.loop-at.invariant pre) pre.room c.loop-at-test.false, λ d. marks_end (c.loop-at.invariant d) d.room c.loop-at-test.false)
