-- `next_open` meets its contract. The loop's invariant: all that was passed is built.
use Rattle.std.proofs.Common.{◌+◌, ◌<◌, ◌≤◌, length, get_or, arith}
use Rattle.connectivity.specs.Plan.{limits}
use Rattle.record.proofs.Scanning.{scanned_start, scanned_vertex, scanned_slots, scanned_end, scanned_more, scanned_next}
use Rattle.record.proofs.open.next_open.Goals as goal

pub loop-i-init : goal.loop-i-init
loop-i-init c = λ o. scanned_start o

pub overflow_cast-v : goal.overflow_cast-v
overflow_cast-v c =
    let few : c.requires.p.vertices ≤ limits.vertices = c.requires.admitted.vertices in
    omega (arith, few, (c.loop-i.invariant c.requires).most)

pub offset_bounds-order-i : goal.offset_bounds-order-i
offset_bounds-order-i c =
    let few : c.requires.p.vertices ≤ limits.vertices = c.requires.admitted.vertices in
    omega (arith, few, (c.loop-i.invariant c.requires).most)

pub bounds-order-i : goal.bounds-order-i
bounds-order-i c =
    let here : (get_or c.args.order.now c.loop-i.i 0 < c.requires.p.vertices) × (c.loop-i.i < length c.args.order.now) × (get_or c.args.order.now c.loop-i.i 0 + 1 < length c.args.begins.now) = scanned_vertex c.requires (c.loop-i.invariant c.requires) in
    here.1

pub overflow_cast-v-in-loop-i : goal.overflow_cast-v-in-loop-i
overflow_cast-v-in-loop-i c =
    let here : (get_or c.args.order.now c.loop-i.i 0 < c.requires.p.vertices) × (c.loop-i.i < length c.args.order.now) × (get_or c.args.order.now c.loop-i.i 0 + 1 < length c.args.begins.now) = scanned_vertex c.requires (c.loop-i.invariant c.requires) in
    let few : c.requires.p.vertices ≤ limits.vertices = c.requires.admitted.vertices in
    omega (arith, here.0, few)

pub overflow_add-end : goal.overflow_add-end
overflow_add-end c =
    let here : (get_or c.args.order.now c.loop-i.i 0 < c.requires.p.vertices) × (c.loop-i.i < length c.args.order.now) × (get_or c.args.order.now c.loop-i.i 0 + 1 < length c.args.begins.now) = scanned_vertex c.requires (c.loop-i.invariant c.requires) in
    let few : c.requires.p.vertices ≤ limits.vertices = c.requires.admitted.vertices in
    omega (arith, here.0, few)

pub offset_bounds-begins-v : goal.offset_bounds-begins-v
offset_bounds-begins-v c =
    let here : (get_or c.args.order.now c.loop-i.i 0 < c.requires.p.vertices) × (c.loop-i.i < length c.args.order.now) × (get_or c.args.order.now c.loop-i.i 0 + 1 < length c.args.begins.now) = scanned_vertex c.requires (c.loop-i.invariant c.requires) in
    let few : c.requires.p.vertices ≤ limits.vertices = c.requires.admitted.vertices in
    omega (arith, here.0, few)

pub bounds-begins-v : goal.bounds-begins-v
bounds-begins-v c =
    let here : (get_or c.args.order.now c.loop-i.i 0 < c.requires.p.vertices) × (c.loop-i.i < length c.args.order.now) × (get_or c.args.order.now c.loop-i.i 0 + 1 < length c.args.begins.now) = scanned_vertex c.requires (c.loop-i.invariant c.requires) in
    here.2

pub next_slot-k-requires : goal.next_slot-k-requires
next_slot-k-requires c =
    scanned_slots c.requires (c.loop-i.invariant c.requires)

pub returns-then-k-end : goal.returns-then-k-end
returns-then-k-end c = λ o. scanned_end o (c.loop-i.invariant o) c.next_slot-k.ensures (omega (arith, c.if-k-end.true))

pub overflow_cast-from : goal.overflow_cast-from
overflow_cast-from c =
    let more : c.loop-i.i + 1 < c.requires.p.vertices = scanned_more c.requires (c.loop-i.invariant c.requires) c.next_slot-k.ensures (omega (arith, c.if-k-end.false)) in
    let few : c.requires.p.vertices ≤ limits.vertices = c.requires.admitted.vertices in
    omega (arith, more, few)

pub offset_bounds-order-i-in-loop-i : goal.offset_bounds-order-i-in-loop-i
offset_bounds-order-i-in-loop-i c =
    let more : c.loop-i.i + 1 < c.requires.p.vertices = scanned_more c.requires (c.loop-i.invariant c.requires) c.next_slot-k.ensures (omega (arith, c.if-k-end.false)) in
    let few : c.requires.p.vertices ≤ limits.vertices = c.requires.admitted.vertices in
    omega (arith, more, few)

pub bounds-order-i-in-loop-i : goal.bounds-order-i-in-loop-i
bounds-order-i-in-loop-i c =
    let more : c.loop-i.i + 1 < c.requires.p.vertices = scanned_more c.requires (c.loop-i.invariant c.requires) c.next_slot-k.ensures (omega (arith, c.if-k-end.false)) in
    omega (arith, more, c.requires.order_long)

pub overflow_cast-from-in-loop-i : goal.overflow_cast-from-in-loop-i
overflow_cast-from-in-loop-i c = omega (arith, c.shared_slice_known-in-loop-i-3-1.given (c.loop-i.i + 1))

pub offset_bounds-begins-order : goal.offset_bounds-begins-order
offset_bounds-begins-order c = omega (arith, c.shared_slice_known-in-loop-i-3-1.given (c.loop-i.i + 1))

pub bounds-begins-order : goal.bounds-begins-order
bounds-begins-order c =
    let more : c.loop-i.i + 1 < c.requires.p.vertices = scanned_more c.requires (c.loop-i.invariant c.requires) c.next_slot-k.ensures (omega (arith, c.if-k-end.false)) in
    let p = c.requires in
    omega (arith, p.valid (c.loop-i.i + 1) more, p.grouped.room)

pub loop-i-preserved : goal.loop-i-preserved
loop-i-preserved c = λ o. scanned_next o (c.loop-i.invariant o) c.next_slot-k.ensures (omega (arith, c.if-k-end.false))

pub returns : goal.returns
returns c = λ o. absurd (omega (arith, (c.loop-i.invariant o).most, o.admitted.vertices, c.loop-i-test.false))
