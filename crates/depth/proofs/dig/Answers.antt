-- `dig` meets its contract. The loop's invariant: `Digging`, for whatever the tables were before the root was entered.
use mathlib.Core.Path.{◌∙◌}
use native.Mathlib.Omega.{arith}
use Rattle.connectivity.specs.Plan.{entire}
use Rattle.depth.specs.Parts.{GoesOn}
use Rattle.depth.proofs.Digging.{Digging, digging_start, digging_rooms, digging_deep, at_entered, digging_turn, turn_less, digging_end}
use Rattle.depth.proofs.Walk.{walk_first_long, walk_order_long}
use Rattle.depth.proofs.dig.Goals as goal

pub enter-requires : goal.enter-requires
enter-requires c =
    let f = c.requires.2 in
    let r = c.requires.1 in
    (omega (arith, f.below, r.first_room), omega (arith, f.room, r.order_room), omega (arith, f.below, r.cursor_room))

pub overflow_add-s : goal.overflow_add-s
overflow_add-s c = omega (arith, c.requires.2.room, c.requires.0.few)

pub loop-first-init : goal.loop-first-init
loop-first-init c =
    let a = c.args in
    λ f o k p q r x y. rw (p, q, r) (digging_start (entire a.vertices a.ends.now) a.incident.now a.begins.now a.dead.now a.root a.seen f o k x y)

pub turn-s-requires : goal.turn-s-requires
turn-s-requires c =
    let digs : let a = c.args in Digging (entire a.vertices a.ends.now) a.incident.now a.begins.now a.dead.now a.root a.seen a.first.now a.order.now a.cursor.now c.loop-first.first c.loop-first.order c.loop-first.cursor c.loop-first.s.at c.loop-first.s.count c.loop-first.s.depth = let a = c.args in
    let e = c.enter.ensures in
    c.loop-first.invariant a.first.now a.order.now a.cursor.now e.0 e.1 e.2 c.requires.2 c.requires.1 in
    let going : GoesOn c.args.vertices c.loop-first.s.count c.loop-first.s.depth = rw c.loop-first-test.true at c.goes_on.ensures in
    let g = going in
    let a = c.args in
    let t = digs in
    let d = digging_deep (entire a.vertices a.ends.now) a.incident.now a.begins.now a.dead.now a.root a.seen a.first.now a.order.now a.cursor.now c.requires.2 c.requires.1 t in
    let i = at_entered (entire a.vertices a.ends.now) a.incident.now a.begins.now a.dead.now a.root a.seen a.first.now a.order.now a.cursor.now c.requires.2 c.requires.1 t g.0 in
    (c.requires.0, digging_rooms (entire a.vertices a.ends.now) a.incident.now a.begins.now a.dead.now a.root a.seen a.first.now a.order.now a.cursor.now c.requires.2 c.requires.1 t, record { vertex = i.below; marked = i.marked; free = g.1; deep = g.0; shallow = d })

pub loop-first-smaller : goal.loop-first-smaller
loop-first-smaller c =
    let going : GoesOn c.args.vertices c.loop-first.s.count c.loop-first.s.depth = rw c.loop-first-test.true at c.goes_on.ensures in
    let g = going in
    let a = c.args in
    turn_less (entire a.vertices a.ends.now) a.incident.now a.begins.now a.dead.now a.root a.seen a.first.now a.order.now a.cursor.now c.requires.2 c.requires.1 g.0 g.1 c.turn-s.ensures

pub loop-first-preserved : goal.loop-first-preserved
loop-first-preserved c =
    let going : GoesOn c.args.vertices c.loop-first.s.count c.loop-first.s.depth = rw c.loop-first-test.true at c.goes_on.ensures in
    let g = going in
    let a = c.args in
    λ f o k p q r x y. digging_turn (entire a.vertices a.ends.now) a.incident.now a.begins.now a.dead.now a.root a.seen f o k x y (c.loop-first.invariant f o k p q r x y) g.0 g.1 c.turn-s.ensures

pub shape_of-first : goal.shape_of-first
shape_of-first c =
    let digs : let a = c.args in Digging (entire a.vertices a.ends.now) a.incident.now a.begins.now a.dead.now a.root a.seen a.first.now a.order.now a.cursor.now c.loop-first.first c.loop-first.order c.loop-first.cursor c.loop-first.s.at c.loop-first.s.count c.loop-first.s.depth = let a = c.args in
    let e = c.enter.ensures in
    c.loop-first.invariant a.first.now a.order.now a.cursor.now e.0 e.1 e.2 c.requires.2 c.requires.1 in
    walk_first_long (digs).walk

pub shape_of-order : goal.shape_of-order
shape_of-order c =
    let digs : let a = c.args in Digging (entire a.vertices a.ends.now) a.incident.now a.begins.now a.dead.now a.root a.seen a.first.now a.order.now a.cursor.now c.loop-first.first c.loop-first.order c.loop-first.cursor c.loop-first.s.at c.loop-first.s.count c.loop-first.s.depth = let a = c.args in
    let e = c.enter.ensures in
    c.loop-first.invariant a.first.now a.order.now a.cursor.now e.0 e.1 e.2 c.requires.2 c.requires.1 in
    walk_order_long (digs).walk

pub shape_of-cursor : goal.shape_of-cursor
shape_of-cursor c =
    let digs : let a = c.args in Digging (entire a.vertices a.ends.now) a.incident.now a.begins.now a.dead.now a.root a.seen a.first.now a.order.now a.cursor.now c.loop-first.first c.loop-first.order c.loop-first.cursor c.loop-first.s.at c.loop-first.s.count c.loop-first.s.depth = let a = c.args in
    let e = c.enter.ensures in
    c.loop-first.invariant a.first.now a.order.now a.cursor.now e.0 e.1 e.2 c.requires.2 c.requires.1 in
    c.undo.ensures.long ∙ (digs).cursor_long

pub returns : goal.returns
returns c =
    let digs : let a = c.args in Digging (entire a.vertices a.ends.now) a.incident.now a.begins.now a.dead.now a.root a.seen a.first.now a.order.now a.cursor.now c.loop-first.first c.loop-first.order c.loop-first.cursor c.loop-first.s.at c.loop-first.s.count c.loop-first.s.depth = let a = c.args in
    let e = c.enter.ensures in
    c.loop-first.invariant a.first.now a.order.now a.cursor.now e.0 e.1 e.2 c.requires.2 c.requires.1 in
    let a = c.args in
    digging_end (entire a.vertices a.ends.now) a.incident.now a.begins.now a.dead.now a.root a.seen a.first.now a.order.now a.cursor.now c.requires.2 c.requires.1 (digs) (rw c.loop-first-test.false at c.goes_on.ensures) c.undo.ensures
