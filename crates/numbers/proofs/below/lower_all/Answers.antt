-- `lower_all` meets its contract. The loop's invariant: the places from k on are done.
use mathlib.Core.Path.{◌≡◌, ◌∙◌, ap}
use Prim.Native.Nat.{◌-◌}
use native.Mathlib.Omega.{arith}
use lib.ListN.{length}
use Rattle.numbers.specs.Tables.{lasts_down, overs_down}
use Rattle.numbers.proofs.Lengths.{lasts_long, overs_long}
use Rattle.numbers.proofs.Steps.{lasts_start, overs_start, lasts_next, overs_next}
use Rattle.numbers.proofs.below.lower_all.Goals as goal

pub loop-k-init : goal.loop-k-init
loop-k-init c =
    let a = c.args in (
      omega (arith, c.requires.0.owning.admitted.two),
      lasts_start a.vertices a.ends.now a.first.now a.order.now a.last.now,
      overs_start a.vertices a.ends.now a.first.now a.order.now a.number.now a.over.now,
    )

pub lower_one-requires : goal.lower_one-requires
lower_one-requires c =
    let last_long : length c.loop-k.last ≡ length c.args.last.now = let a = c.args in
    ap length c.loop-k.invariant.1 ∙ lasts_long a.vertices a.ends.now a.first.now a.order.now a.last.now (a.vertices - c.loop-k.k) in
    let over_long : length c.loop-k.over ≡ length c.args.over.now = let a = c.args in
    ap length c.loop-k.invariant.2 ∙ overs_long a.vertices a.ends.now a.first.now a.order.now a.number.now a.over.now (a.vertices - c.loop-k.k) in
    let pre = c.requires.0 in
    let o = pre.owning in
    record {
      owning = record { admitted = o.admitted; marks = o.marks; numbers = o.numbers; edges = omega (arith, o.edges, over_long) };
      lasts = omega (arith, pre.lasts, last_long);
    }

pub loop-k-preserved : goal.loop-k-preserved
loop-k-preserved c =
    let a = c.args in
    let w = c.loop-k.invariant in (
      omega arith,
      lasts_next a.vertices a.ends.now a.first.now a.order.now c.loop-k.k w.0 (omega arith) a.last.now c.loop-k.last _ w.1 c.lower_one.ensures.0,
      overs_next a.vertices a.ends.now a.first.now a.order.now c.loop-k.k w.0 (omega arith) a.number.now a.over.now c.loop-k.over _ w.2 c.lower_one.ensures.1,
    )

pub returns : goal.returns
returns c =
    let a = c.args in
    let w = c.loop-k.invariant in
    let end : a.vertices - c.loop-k.k ≡ a.vertices - 1 = omega (arith, w.0) in (
      w.1 ∙ ap (lasts_down a.vertices a.ends.now a.first.now a.order.now a.last.now) end,
      w.2 ∙ ap (overs_down a.vertices a.ends.now a.first.now a.order.now a.number.now a.over.now) end,
    )
