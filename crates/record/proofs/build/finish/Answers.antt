-- `finish` meets its contract: after each turn the rows so far are those of Mader's steps.
use Rattle.std.proofs.Common.{sym, refl, ◌∙◌, arith}
use Rattle.record.proofs.Progress.{now_long, order_room, begins_room, going_first, going_long, nexting, adding, going_then, recorded}
use Rattle.record.proofs.build.finish.Goals as goal

pub first_stage-stage-requires : goal.first_stage-stage-requires
first_stage-stage-requires c = (order_room c.requires, begins_room c.requires)

pub loop-done-init : goal.loop-done-init
loop-done-init c = let e = c.first_stage-stage.ensures in (refl, refl, refl, refl, λ d. going_first d e.0 e.1 e.2)

pub next_edge-stage-requires : goal.next_edge-stage-requires
next_edge-stage-requires c =
    let s = c.requires in
    nexting (c.loop-done.invariant.4 s) (omega (arith, c.loop-done-test.true, s.all))

pub add_path-done-requires : goal.add_path-done-requires
add_path-done-requires c =
    let s = c.requires in
    let r = c.loop-done.invariant.4 s in
    let h = c.loop-done-test.true in
    adding r (omega (arith, h, s.all)) (c.next_edge-stage.ensures (nexting r (omega (arith, h, s.all)))).1

pub loop-done-smaller : goal.loop-done-smaller
loop-done-smaller c =
    let s = c.requires in
    let r = c.loop-done.invariant.4 s in
    let h = c.loop-done-test.true in
    omega (arith, h, (c.add_path-done.ensures (adding r (omega (arith, h, s.all)) (c.next_edge-stage.ensures (nexting r (omega (arith, h, s.all)))).1)).more_rows)

pub loop-done-preserved : goal.loop-done-preserved
loop-done-preserved c =
    let i = c.loop-done.invariant in
    let h = c.loop-done-test.true in (
      c.add_path-done.auto.places ∙ i.0,
      c.add_path-done.auto.below ∙ i.1,
      c.add_path-done.auto.tips ∙ i.2,
      c.add_path-done.auto.over ∙ i.3,
      λ d.
          let r = i.4 d in
          let e = c.next_edge-stage.ensures (nexting r (omega (arith, h, d.all))) in
          going_then r (omega (arith, h, d.all)) c.add_path-done.new.below c.add_path-done.new.tips c.add_path-done.new.over c.add_path-done.new.rows e.0
          (c.add_path-done.ensures (adding r (omega (arith, h, d.all)) e.1)),
    )

pub shape_of-places : goal.shape_of-places
shape_of-places c = c.loop-done.invariant.0

pub shape_of-below : goal.shape_of-below
shape_of-below c = c.loop-done.invariant.1

pub shape_of-tips : goal.shape_of-tips
shape_of-tips c = c.loop-done.invariant.2

pub shape_of-over : goal.shape_of-over
shape_of-over c = c.loop-done.invariant.3

pub shape_of-rows : goal.shape_of-rows
shape_of-rows c =
    going_long (c.loop-done.invariant.4 c.requires) ∙ sym (now_long c.requires.ground.rooted c.requires.recording)

pub returns : goal.returns
returns c =
    λ d. let r = c.loop-done.invariant.4 d in (going_long r ∙ sym (now_long d.ground.rooted d.recording), recorded r (omega (arith, c.loop-done-test.false, d.all)))
