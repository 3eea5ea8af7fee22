-- `own_one` meets its contract: an edge that is not the first of its lower end is put at its own place, and handed to that first one, if there is one.
use native.Mathlib.Omega.{arith}
use mathlib.Core.Path.{◌∙◌}
use Prim.Native.Nat.{◌+◌, ◌/◌}
use lib.ListN.{length, length-set}
use Rattle.numbers.proofs.Steps.{ends_below, mark_edge, own_other, own_none, own_first}
use Rattle.numbers.proofs.below.own_one.Goals as goal

pub lower-w-requires : goal.lower-w-requires
lower-w-requires c = let pre = c.requires in (pre.1, ends_below pre.0)

pub hand-requires : goal.hand-requires
hand-requires c =
    let a = c.args in
    let pre = c.requires in (
      ends_below pre.0,
      omega (arith, c.mark-d.ensures, mark_edge a.vertices (length a.ends.now / 2) a.first.now c.lower-w.result, pre.0.edges, length-set a.over.now a.e (a.e + 1)),
    )

pub shape_of-over : goal.shape_of-over
shape_of-over c =
    let a = c.args in
    c.hand.auto.over ∙ length-set a.over.now a.e (a.e + 1)

pub returns-then-d-e : goal.returns-then-d-e
returns-then-d-e c =
    let a = c.args in
    own_other a.vertices a.ends.now a.first.now a.number.now a.over.now a.e c.mark-d.result c.lower-w.result c.lower-w.ensures c.mark-d.ensures _
    c.if-d-ne0.true c.if-d-e.true c.hand.ensures

pub returns-else-d-e : goal.returns-else-d-e
returns-else-d-e c =
    let a = c.args in
    own_first a.vertices a.ends.now a.first.now a.number.now a.over.now a.e c.mark-d.result c.lower-w.result c.lower-w.ensures c.mark-d.ensures c.if-d-e.false

pub returns-else-d-ne0 : goal.returns-else-d-ne0
returns-else-d-ne0 c =
    let a = c.args in
    own_none a.vertices a.ends.now a.first.now a.number.now a.over.now a.e c.mark-d.result c.lower-w.result c.lower-w.ensures c.mark-d.ensures c.if-d-ne0.false
