-- `search_all` meets its contract. The loop's invariant: the roots below v have been tried, and `seen` vertices stand in the order.
use native.Mathlib.Omega.{arith}
use Rattle.labels.proofs.Growing.{growing_start, growing_search, growing_all, growing_end, growing_rooms}
use Rattle.labels.proofs.forest.search_all.Goals as goal

pub loop-v-init : goal.loop-v-init
loop-v-init c = growing_start _ _ _ _ c.requires.2

pub search_from-seen-requires : goal.search_from-seen-requires
search_from-seen-requires c =
    let pre = c.requires in
    (pre.0, growing_rooms c.loop-v.invariant pre.1)

pub loop-v-preserved : goal.loop-v-preserved
loop-v-preserved c =
    let pre = c.requires in
    growing_search c.loop-v.invariant pre.0 (omega (arith, pre.0.tabled.admitted.edges)) (omega arith) c.search_from-seen.ensures

pub returns-then-vertices-seen : goal.returns-then-vertices-seen
returns-then-vertices-seen c = growing_end c.loop-v.invariant c.if-vertices-seen.true c.requires.1.cursor_room

pub returns : goal.returns
returns c =
    growing_end c.loop-v.invariant (growing_all c.loop-v.invariant (omega arith)) c.requires.1.cursor_room
