-- `lower_one` meets its contract: a vertex with a first edge hands to the other end of that edge what is last below it, and the edge of its place.
use mathlib.Core.Path.{◌∙◌}
use Prim.Native.Nat.{◌-◌, ◌/◌, ◌<◌}
use native.Mathlib.Omega.{arith}
use lib.ListN.{length}
use Rattle.numbers.proofs.Steps.{ends_below, mark_edge, mark_vertex, far_below, last_some, over_some, last_none, over_none}
use Rattle.numbers.proofs.below.lower_one.Goals as goal

pub raise-requires : goal.raise-requires
raise-requires c =
    let vertex : let a = c.args in a.v < a.vertices = let a = c.args in
    mark_vertex a.vertices (length a.ends.now / 2) a.first.now a.v (λ q. c.if-t-ne0.true (c.mark-t.ensures ∙ q)) in
    let edge : c.mark-t.result - 1 < length c.args.ends.now / 2 = let a = c.args in
    omega (arith, c.if-t-ne0.true, c.mark-t.ensures, mark_edge a.vertices (length a.ends.now / 2) a.first.now a.v) in
    let up_vertex : c.far_end-up.result < c.args.vertices = omega (arith, c.far_end-up.ensures, far_below c.requires.owning (c.mark-t.result - 1) c.args.v (edge)) in
    let pre = c.requires in
    (omega (arith, up_vertex, pre.lasts), omega (arith, vertex, pre.lasts))

pub bounds-over-t : goal.bounds-over-t
bounds-over-t c =
    let edge : c.mark-t.result - 1 < length c.args.ends.now / 2 = let a = c.args in
    omega (arith, c.if-t-ne0.true, c.mark-t.ensures, mark_edge a.vertices (length a.ends.now / 2) a.first.now a.v) in
    omega (arith, edge, c.requires.owning.edges)

pub hand-requires : goal.hand-requires
hand-requires c =
    let a = c.args in (
      ends_below c.requires.owning,
      omega (arith, c.mark-d.ensures, mark_edge a.vertices (length a.ends.now / 2) a.first.now c.far_end-up.result, c.requires.owning.edges),
    )

pub returns-then-t-ne0 : goal.returns-then-t-ne0
returns-then-t-ne0 c =
    let a = c.args in (
      last_some a.vertices a.ends.now a.first.now a.v c.mark-t.result c.mark-t.ensures c.far_end-up.result c.if-t-ne0.true c.far_end-up.ensures a.last.now _ c.raise.ensures,
      over_some a.vertices a.ends.now a.first.now a.v c.mark-t.result c.mark-t.ensures c.far_end-up.result c.if-t-ne0.true c.far_end-up.ensures a.number.now a.over.now _
          c.mark-d.result c.mark-d.ensures c.hand.ensures,
    )

pub returns-else-t-ne0 : goal.returns-else-t-ne0
returns-else-t-ne0 c =
    let a = c.args in (
      last_none a.vertices a.ends.now a.first.now a.v c.mark-t.result c.mark-t.ensures a.last.now c.if-t-ne0.false,
      over_none a.vertices a.ends.now a.first.now a.v c.mark-t.result c.mark-t.ensures a.number.now a.over.now c.if-t-ne0.false,
    )
