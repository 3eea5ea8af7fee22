-- `build_up` meets its contract. The loop's invariant: the legs that are done are built, and the top is the last vertex that was left.
use Rattle.std.proofs.Common.{◌/◌, ◌<◌, ◌≤◌, length, arith}
use Rattle.record.specs.Ways.{Rises, next_up}
use Rattle.record.proofs.Paths.{left_less, onward_next, onward_rises}
use Rattle.record.proofs.Rising.{lifts_start, lifts_step, lifts_end}
use Rattle.record.proofs.walk.build_up.Goals as goal

pub loop-at-init : goal.loop-at-init
loop-at-init c =
    let a = c.args in
    lifts_start a.ends.now a.first.now a.below.now a.over.now a.v a.stop

pub overflow_cast-e : goal.overflow_cast-e
overflow_cast-e c =
    let rises : let a = c.args in Rises a.ends.now a.first.now c.loop-at.at = let pre = c.requires in
    onward_rises (c.loop-at.invariant pre).on c.loop-at-test.true in
    omega (arith, rises.long)

pub offset_bounds-first-at : goal.offset_bounds-first-at
offset_bounds-first-at c =
    let rises : let a = c.args in Rises a.ends.now a.first.now c.loop-at.at = let pre = c.requires in
    onward_rises (c.loop-at.invariant pre).on c.loop-at-test.true in
    omega (arith, rises.long)

pub bounds-first-at : goal.bounds-first-at
bounds-first-at c =
    let rises : let a = c.args in Rises a.ends.now a.first.now c.loop-at.at = let pre = c.requires in
    onward_rises (c.loop-at.invariant pre).on c.loop-at-test.true in
    rises.long

pub overflow_sub-e : goal.overflow_sub-e
overflow_sub-e c =
    let rises : let a = c.args in Rises a.ends.now a.first.now c.loop-at.at = let pre = c.requires in
    onward_rises (c.loop-at.invariant pre).on c.loop-at-test.true in
    rises.seen

pub overflow_cast-over : goal.overflow_cast-over
overflow_cast-over c =
    let rises : let a = c.args in Rises a.ends.now a.first.now c.loop-at.at = let pre = c.requires in
    onward_rises (c.loop-at.invariant pre).on c.loop-at-test.true in
    let edge_room : length c.args.ends.now / 2 ≤ length c.loop-at.over = let pre = c.requires in
    omega (arith, pre.edges, (c.loop-at.invariant pre).sets.long) in
    omega (arith, rises.edge, edge_room)

pub offset_bounds-over-e : goal.offset_bounds-over-e
offset_bounds-over-e c =
    let rises : let a = c.args in Rises a.ends.now a.first.now c.loop-at.at = let pre = c.requires in
    onward_rises (c.loop-at.invariant pre).on c.loop-at-test.true in
    let edge_room : length c.args.ends.now / 2 ≤ length c.loop-at.over = let pre = c.requires in
    omega (arith, pre.edges, (c.loop-at.invariant pre).sets.long) in
    omega (arith, rises.edge, edge_room)

pub bounds-over-e : goal.bounds-over-e
bounds-over-e c =
    let rises : let a = c.args in Rises a.ends.now a.first.now c.loop-at.at = let pre = c.requires in
    onward_rises (c.loop-at.invariant pre).on c.loop-at-test.true in
    let edge_room : length c.args.ends.now / 2 ≤ length c.loop-at.over = let pre = c.requires in
    omega (arith, pre.edges, (c.loop-at.invariant pre).sets.long) in
    omega (arith, rises.edge, edge_room)

pub overflow_add-below : goal.overflow_add-below
overflow_add-below c =
    let pre = c.requires in
    omega (arith, (onward_next (c.loop-at.invariant pre).on c.loop-at-test.true).rises, pre.way.admitted.vertices)

pub overflow_cast-below : goal.overflow_cast-below
overflow_cast-below c =
    let next_room : let a = c.args in next_up a.ends.now a.first.now c.loop-at.at < length c.loop-at.below = let pre = c.requires in
    let r = c.loop-at.invariant pre in
    omega (arith, (onward_next r.on c.loop-at-test.true).leads, pre.room, r.long) in
    rw c.far_end-at.ensures (omega (arith, next_room))

pub offset_bounds-below-at : goal.offset_bounds-below-at
offset_bounds-below-at c =
    let next_room : let a = c.args in next_up a.ends.now a.first.now c.loop-at.at < length c.loop-at.below = let pre = c.requires in
    let r = c.loop-at.invariant pre in
    omega (arith, (onward_next r.on c.loop-at-test.true).leads, pre.room, r.long) in
    rw c.far_end-at.ensures (omega (arith, next_room))

pub bounds-below-at : goal.bounds-below-at
bounds-below-at c =
    let next_room : let a = c.args in next_up a.ends.now a.first.now c.loop-at.at < length c.loop-at.below = let pre = c.requires in
    let r = c.loop-at.invariant pre in
    omega (arith, (onward_next r.on c.loop-at-test.true).leads, pre.room, r.long) in
    rw c.far_end-at.ensures next_room

pub loop-at-smaller : goal.loop-at-smaller
loop-at-smaller c =
    let pre = c.requires in
    rw c.far_end-at.ensures (left_less (c.loop-at.invariant pre).on c.loop-at-test.true)

pub loop-at-preserved : goal.loop-at-preserved
loop-at-preserved c =
    λ d. rw c.far_end-at.ensures (lifts_step (c.loop-at.invariant d) c.loop-at-test.true d.room d.edges)

pub shape_of-below : goal.shape_of-below
shape_of-below c = (c.loop-at.invariant c.requires).long

pub shape_of-over : goal.shape_of-over
shape_of-over c = (c.loop-at.invariant c.requires).sets.long

pub returns : goal.returns
returns c =
    let r = c.loop-at.invariant c.requires in
    (r.long, r.sets.long, λ d. lifts_end (c.loop-at.invariant d) c.loop-at-test.false)
