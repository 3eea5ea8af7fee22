-- `build_walk` meets its contract: the way up is built, and its vertices get the place `next`.
use Rattle.std.proofs.Common.{◌+◌, ◌<◌, refl, ◌∙◌, arith, length-set}
use Rattle.record.proofs.TwoTips.{tips_length}
use Rattle.record.proofs.NewWalk.{walked_none, raising, top_below, marking, next_room, walked}
use Rattle.record.proofs.link.build_walk.Goals as goal

pub returns-then-v-stop : goal.returns-then-v-stop
returns-then-v-stop c =
    (refl, refl, refl, length-set c.args.over.now c.args.e 0, λ d. (walked_none d c.if-v-stop.true, omega arith))

pub build_up-top-requires : goal.build_up-top-requires
build_up-top-requires c = raising c.requires

pub mark_up-requires : goal.mark_up-requires
mark_up-requires c =
    marking c.requires c.if-v-stop.false c.build_up-top.new.below c.build_up-top.new.over c.build_up-top.result c.build_up-top.ensures

pub overflow_add-top : goal.overflow_add-top
overflow_add-top c =
    omega (
      arith,
      top_below c.requires c.if-v-stop.false c.build_up-top.new.below c.build_up-top.new.over c.build_up-top.result c.build_up-top.ensures,
    )

pub set_tips-requires : goal.set_tips-requires
set_tips-requires c =
    let room : c.args.next < c.requires.n + 2 = next_room c.requires c.if-v-stop.false c.build_up-top.new.below c.build_up-top.new.over c.build_up-top.result c.build_up-top.ensures
    c.mark_up.new.marks c.mark_up.ensures in
    omega (arith, room, c.requires.filing.roomy.tips_long)

pub overflow_add-result : goal.overflow_add-result
overflow_add-result c =
    let room : c.args.next < c.requires.n + 2 = next_room c.requires c.if-v-stop.false c.build_up-top.new.below c.build_up-top.new.over c.build_up-top.result c.build_up-top.ensures
    c.mark_up.new.marks c.mark_up.ensures in
    omega (arith, room, c.requires.filing.rooted.admitted.vertices)

pub shape_of-over : goal.shape_of-over
shape_of-over c =
    let a = c.args in
    c.build_up-top.ensures.1 ∙ length-set a.over.now a.e 0

pub returns : goal.returns
returns c =
    let a = c.args in
    rw c.set_tips.ensures (
      c.mark_up.ensures.0,
      c.build_up-top.ensures.0,
      tips_length a.tips.now a.next (c.build_up-top.result + 1) (a.v + 1),
      c.build_up-top.ensures.1 ∙ length-set a.over.now a.e 0,
      λ d. (
        walked d c.if-v-stop.false c.build_up-top.new.below c.build_up-top.new.over c.build_up-top.result c.build_up-top.ensures
            c.mark_up.new.marks c.mark_up.ensures,
        omega arith,
      ),
    )
