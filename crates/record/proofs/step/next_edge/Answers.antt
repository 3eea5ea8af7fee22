-- `next_edge` meets its contract: out of the first link that has an inside, or over the first edge that is not built.
use Rattle.std.proofs.Common.{arith}
use Rattle.record.proofs.Choosing.{tips_room, next_large, has_top, has_bottom, leaving, exit_chosen, links_same, opening, opened_behind, opened_chosen, slot_room, slot_small, over_room}
use Rattle.record.proofs.step.next_edge.Goals as goal

pub next_link-m-requires : goal.next_link-m-requires
next_link-m-requires c = let s = c.requires in (tips_room s, next_large s)

pub bounds-tips-k : goal.bounds-tips-k
bounds-tips-k c = omega (arith, tips_room c.requires, c.if-m-next.true)

pub overflow_sub-top : goal.overflow_sub-top
overflow_sub-top c = has_top c.requires c.next_link-m.ensures c.if-m-next.true

pub bounds-tips-k-then-m-next : goal.bounds-tips-k-then-m-next
bounds-tips-k-then-m-next c = omega (arith, tips_room c.requires, c.if-m-next.true)

pub overflow_sub-bottom : goal.overflow_sub-bottom
overflow_sub-bottom c = has_bottom c.requires c.next_link-m.ensures c.if-m-next.true

pub leave_link-requires : goal.leave_link-requires
leave_link-requires c = leaving c.requires c.next_link-m.ensures c.if-m-next.true

pub returns-then-m-next : goal.returns-then-m-next
returns-then-m-next c = λ d.
    let l = c.next_link-m.ensures in
    let i = c.if-m-next.true in
    (links_same d l, exit_chosen d l i (c.leave_link.ensures (leaving d l i)))

pub next_open-o-requires : goal.next_open-o-requires
next_open-o-requires c = opening c.requires c.next_link-m.ensures c.if-m-next.false

pub bounds-incident-o : goal.bounds-incident-o
bounds-incident-o c = slot_room c.requires c.next_link-m.ensures c.if-m-next.false (c.next_open-o.ensures (opening c.requires c.next_link-m.ensures c.if-m-next.false))

pub overflow_cast-result : goal.overflow_cast-result
overflow_cast-result c = record { fits = omega (arith, (slot_small c.requires c.next_link-m.ensures c.if-m-next.false (c.next_open-o.ensures (opening c.requires c.next_link-m.ensures c.if-m-next.false)))) }

pub offset_bounds-over-e : goal.offset_bounds-over-e
offset_bounds-over-e c = record { fits = omega (arith, (slot_small c.requires c.next_link-m.ensures c.if-m-next.false (c.next_open-o.ensures (opening c.requires c.next_link-m.ensures c.if-m-next.false)))) }

pub bounds-over-e : goal.bounds-over-e
bounds-over-e c = over_room c.requires c.next_link-m.ensures c.if-m-next.false (c.next_open-o.ensures (opening c.requires c.next_link-m.ensures c.if-m-next.false))

pub overflow_sub-result : goal.overflow_sub-result
overflow_sub-result c = (c.next_open-o.ensures (opening c.requires c.next_link-m.ensures c.if-m-next.false)).new

pub returns : goal.returns
returns c = λ d.
    let l = c.next_link-m.ensures in
    let i = c.if-m-next.false in
    let o = c.next_open-o.ensures (opening d l i) in
    (opened_behind d l i o, opened_chosen d l i o)
