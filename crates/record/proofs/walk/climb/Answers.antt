-- `climb` meets its contract. The loop's invariant: the legs that are done have their rows.
use Rattle.std.proofs.Common.{arith}
use Rattle.record.specs.Ways.{Rises}
use Rattle.record.proofs.Paths.{left_less, onward_rises}
use Rattle.record.proofs.Rising.{rising_start, rising_length, rising_end, rising_few, rising_step}
use Rattle.record.proofs.walk.climb.Goals as goal

pub loop-at-init : goal.loop-at-init
loop-at-init c =
    let a = c.args in
    rising_start a.ends.now a.first.now a.rows.now a.v a.stop a.step

pub overflow_cast-e : goal.overflow_cast-e
overflow_cast-e c =
    let rises : let a = c.args in Rises a.ends.now a.first.now c.loop-at.at = let pre = c.requires in onward_rises (c.loop-at.invariant pre).on c.loop-at-test.true in
    omega (arith, rises.long)

pub offset_bounds-first-at : goal.offset_bounds-first-at
offset_bounds-first-at c =
    let rises : let a = c.args in Rises a.ends.now a.first.now c.loop-at.at = let pre = c.requires in onward_rises (c.loop-at.invariant pre).on c.loop-at-test.true in
    omega (arith, rises.long)

pub bounds-first-at : goal.bounds-first-at
bounds-first-at c =
    let rises : let a = c.args in Rises a.ends.now a.first.now c.loop-at.at = let pre = c.requires in onward_rises (c.loop-at.invariant pre).on c.loop-at-test.true in
    rises.long

pub overflow_sub-e : goal.overflow_sub-e
overflow_sub-e c =
    let rises : let a = c.args in Rises a.ends.now a.first.now c.loop-at.at = let pre = c.requires in onward_rises (c.loop-at.invariant pre).on c.loop-at-test.true in
    rises.seen

pub write_row-requires : goal.write_row-requires
write_row-requires c =
    let pre = c.requires in
    let r = c.loop-at.invariant pre in
    omega (arith, rising_few r c.loop-at-test.true, rising_length r pre.fits, pre.fits)

pub overflow_add-count : goal.overflow_add-count
overflow_add-count c =
    let pre = c.requires in
    omega (arith, rising_few (c.loop-at.invariant pre) c.loop-at-test.true, pre.way.short)

pub loop-at-smaller : goal.loop-at-smaller
loop-at-smaller c =
    let pre = c.requires in
    rw c.far_end-at.ensures (left_less (c.loop-at.invariant pre).on c.loop-at-test.true)

pub loop-at-preserved : goal.loop-at-preserved
loop-at-preserved c =
    λ d. rw c.write_row.ensures (rw c.far_end-at.ensures (rising_step (c.loop-at.invariant d) c.loop-at-test.true d.fits))

pub shape_of-rows : goal.shape_of-rows
shape_of-rows c =
    let pre = c.requires in
    rising_length (c.loop-at.invariant pre) pre.fits

pub returns : goal.returns
returns c = λ d. rising_end (c.loop-at.invariant d) c.loop-at-test.false
