-- `cut` meets its contract: v is the top, the bottom, or lies between them.
use Rattle.std.proofs.Common.{ℕ, ◌+◌, arith}
use Rattle.record.specs.Ways.{next_up}
use Rattle.record.proofs.Parts.{cut_bottom, cut_between}
use Rattle.record.proofs.link.cut.Goals as goal

pub returns-then-v-top : goal.returns-then-v-top
returns-then-v-top c =
    let up : ℕ = next_up c.args.ends.now c.args.first.now c.args.v in
    c.cut_top.ensures (up + 1)

pub above-up-requires : goal.above-up-requires
above-up-requires c = c.requires.rises c.if-v-top.false

pub overflow_add-up : goal.overflow_add-up
overflow_add-up c = omega (arith, c.requires.up_small c.if-v-top.false, c.above-up.ensures)

pub returns-then-v-bottom : goal.returns-then-v-bottom
returns-then-v-bottom c =
    let up : ℕ = next_up c.args.ends.now c.args.first.now c.args.v in
    cut_bottom up c.above-up.result c.above-up.ensures c.if-v-top.false c.if-v-bottom.true

pub is_upper_shorter-requires : goal.is_upper_shorter-requires
is_upper_shorter-requires c = c.requires.between c.if-v-top.false c.if-v-bottom.false

pub returns : goal.returns
returns c =
    let up : ℕ = next_up c.args.ends.now c.args.first.now c.args.v in
    let r = c.cut_inside.result in
    cut_between up c.above-up.result r.top r.bottom r.high r.low c.above-up.ensures c.cut_inside.ensures c.if-v-top.false c.if-v-bottom.false
