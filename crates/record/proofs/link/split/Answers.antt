-- `split` meets its contract: a vertex inside a link is cut out of it, and a part that is left over becomes a link.
use Rattle.std.proofs.Common.{◌+◌, ◌<◌, ◌≤◌, ◌∙◌, arith, length-set}
use Rattle.graph.specs.Marks.{read}
use Rattle.record.proofs.TwoTips.{tips_length}
use Rattle.record.proofs.Parts.{v_fits, own_room, own_small, next_small, split_cutting, split_new, split_already, split_old, split_more}
use Rattle.record.proofs.link.split.Goals as goal

pub bounds-places-v : goal.bounds-places-v
bounds-places-v c = v_fits c.requires

pub returns-then-own-eq1 : goal.returns-then-own-eq1
returns-then-own-eq1 c = split_already c.if-own-eq1.true

pub bounds-places-v-2 : goal.bounds-places-v-2
bounds-places-v-2 c = omega (arith, v_fits c.requires)

pub overflow_cast-k : goal.overflow_cast-k
overflow_cast-k c = omega (arith, own_small c.requires)

pub overflow_mul-k : goal.overflow_mul-k
overflow_mul-k c = omega (arith, own_small c.requires)

pub offset_bounds-tips-k : goal.offset_bounds-tips-k
offset_bounds-tips-k c = omega (arith, own_small c.requires)

pub bounds-tips-k : goal.bounds-tips-k
bounds-tips-k c = omega (arith, own_room c.requires)

pub overflow_add-k : goal.overflow_add-k
overflow_add-k c = omega (arith, own_small c.requires)

pub offset_bounds-tips-k-2 : goal.offset_bounds-tips-k-2
offset_bounds-tips-k-2 c = omega (arith, own_small c.requires)

pub bounds-tips-k-2 : goal.bounds-tips-k-2
bounds-tips-k-2 c = omega (arith, own_room c.requires)

pub cut-c-requires : goal.cut-c-requires
cut-c-requires c = split_cutting c.requires c.if-own-eq1.false

pub set_tips-requires : goal.set_tips-requires
set_tips-requires c = own_room c.requires

pub returns-then-c-eq0 : goal.returns-then-c-eq0
returns-then-c-eq0 c = let r = c.cut-c.result in
    rw c.set_tips.ensures (split_old r.top r.bottom r.high r.low c.if-own-eq1.false c.cut-c.ensures c.if-c-eq0.true)

pub overflow_sub-c : goal.overflow_sub-c
overflow_sub-c c =
    let new : (c.args.next < c.requires.n + 2) × (1 ≤ c.cut-c.result.low) = let k = split_new c.requires c.if-own-eq1.false c.cut-c.ensures c.if-c-eq0.false in (k.0, k.1) in
    new.1

pub mark_up-requires : goal.mark_up-requires
mark_up-requires c = (split_new c.requires c.if-own-eq1.false c.cut-c.ensures c.if-c-eq0.false).2

pub set_tips-requires-2 : goal.set_tips-requires-2
set_tips-requires-2 c =
    let new : (c.args.next < c.requires.n + 2) × (1 ≤ c.cut-c.result.low) = let k = split_new c.requires c.if-own-eq1.false c.cut-c.ensures c.if-c-eq0.false in (k.0, k.1) in
    rw c.set_tips.ensures (omega (
      arith,
      tips_length c.args.tips.now (read c.args.places.now c.args.v) c.cut-c.result.top c.cut-c.result.bottom,
      new.0,
      c.requires.filing.roomy.tips_long,
    ))

pub overflow_add-result : goal.overflow_add-result
overflow_add-result c = omega (arith, next_small c.requires)

pub shape_of-places : goal.shape_of-places
shape_of-places c = c.mark_up.ensures.0 ∙ length-set c.args.places.now c.args.v 1

pub returns : goal.returns
returns c = let r = c.cut-c.result in
    rw c.set_tips-2.ensures (rw c.set_tips.ensures
    (split_more r.top r.bottom r.high r.low c.if-own-eq1.false c.cut-c.ensures c.mark_up.new.marks c.if-c-eq0.false c.mark_up.ensures))
