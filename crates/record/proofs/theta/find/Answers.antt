-- `find` meets its contract: two doors of the root's first child, and the place where their ways up meet.
use Rattle.std.proofs.Common.{◌+◌, arith}
use Rattle.connectivity.specs.Plan.{limits}
use Rattle.graph.specs.Marks.{read}
use Rattle.record.specs.Opening.{NextDoor, Finding}
use Rattle.record.proofs.Doors.{eldest_below, root_below, some_door, other_door}
use Rattle.record.proofs.Beginning.{one_place, other_place, find_meets, find_rises, forked}
use Rattle.record.proofs.theta.find.Goals as goal

pub overflow_cast-end : goal.overflow_cast-end
overflow_cast-end c = let p = c.requires in omega (arith, eldest_below p.ground p.listing, p.ground.rooted.admitted.vertices)

pub offset_bounds-last-order : goal.offset_bounds-last-order
offset_bounds-last-order c = let p = c.requires in omega (arith, eldest_below p.ground p.listing, p.ground.rooted.admitted.vertices)

pub bounds-last-order : goal.bounds-last-order
bounds-last-order c = let p = c.requires in omega (arith, eldest_below p.ground p.listing, p.ground.last_long)

pub bounds-begins-r : goal.bounds-begins-r
bounds-begins-r c = let p = c.requires in omega (arith, root_below p.ground p.listing, p.ground.grouped.room)

pub next_door-j-requires : goal.next_door-j-requires
next_door-j-requires c = let p = c.requires in some_door p.ground p.listing

pub overflow_add-j : goal.overflow_add-j
overflow_add-j c =
    let Given : Type 0 = let a = c.args in
    Finding limits a.ends.now a.incident.now a.begins.now a.first.now a.order.now a.number.now a.last.now a.r a.places.now in
    let one : (q : Given) → let a = c.args in NextDoor a.ends.now a.incident.now a.begins.now a.first.now a.number.now (read a.last.now (read a.order.now 1)) a.r (read a.begins.now a.r) c.next_door-j.result = λ q. c.next_door-j.ensures (some_door q.ground q.listing) in
    let p = c.requires in omega (arith, (one p).most, p.ground.grouped.inside _ (root_below p.ground p.listing), p.ground.rooted.admitted.edges, p.ground.rooted.admitted.even)

pub next_door-k-requires : goal.next_door-k-requires
next_door-k-requires c =
    let Given : Type 0 = let a = c.args in
    Finding limits a.ends.now a.incident.now a.begins.now a.first.now a.order.now a.number.now a.last.now a.r a.places.now in
    let one : (q : Given) → let a = c.args in NextDoor a.ends.now a.incident.now a.begins.now a.first.now a.number.now (read a.last.now (read a.order.now 1)) a.r (read a.begins.now a.r) c.next_door-j.result = λ q. c.next_door-j.ensures (some_door q.ground q.listing) in
    let p = c.requires in other_door p.ground p.listing (one p)

pub bounds-incident-j : goal.bounds-incident-j
bounds-incident-j c =
    let Given : Type 0 = let a = c.args in
    Finding limits a.ends.now a.incident.now a.begins.now a.first.now a.order.now a.number.now a.last.now a.r a.places.now in
    let one : (q : Given) → let a = c.args in NextDoor a.ends.now a.incident.now a.begins.now a.first.now a.number.now (read a.last.now (read a.order.now 1)) a.r (read a.begins.now a.r) c.next_door-j.result = λ q. c.next_door-j.ensures (some_door q.ground q.listing) in
    let other : (q : Given) → let a = c.args in NextDoor a.ends.now a.incident.now a.begins.now a.first.now a.number.now (read a.last.now (read a.order.now 1)) a.r (c.next_door-j.result + 1) c.next_door-k.result = λ q. c.next_door-k.ensures (other_door q.ground q.listing (one q)) in
    let p = c.requires in one_place p.ground p.listing (one p) (other p)

pub bounds-incident-k : goal.bounds-incident-k
bounds-incident-k c =
    let Given : Type 0 = let a = c.args in
    Finding limits a.ends.now a.incident.now a.begins.now a.first.now a.order.now a.number.now a.last.now a.r a.places.now in
    let one : (q : Given) → let a = c.args in NextDoor a.ends.now a.incident.now a.begins.now a.first.now a.number.now (read a.last.now (read a.order.now 1)) a.r (read a.begins.now a.r) c.next_door-j.result = λ q. c.next_door-j.ensures (some_door q.ground q.listing) in
    let other : (q : Given) → let a = c.args in NextDoor a.ends.now a.incident.now a.begins.now a.first.now a.number.now (read a.last.now (read a.order.now 1)) a.r (c.next_door-j.result + 1) c.next_door-k.result = λ q. c.next_door-k.ensures (other_door q.ground q.listing (one q)) in
    let p = c.requires in other_place p.ground p.listing (one p) (other p)

pub meeting-x-requires : goal.meeting-x-requires
meeting-x-requires c =
    let Given : Type 0 = let a = c.args in
    Finding limits a.ends.now a.incident.now a.begins.now a.first.now a.order.now a.number.now a.last.now a.r a.places.now in
    let one : (q : Given) → let a = c.args in NextDoor a.ends.now a.incident.now a.begins.now a.first.now a.number.now (read a.last.now (read a.order.now 1)) a.r (read a.begins.now a.r) c.next_door-j.result = λ q. c.next_door-j.ensures (some_door q.ground q.listing) in
    let other : (q : Given) → let a = c.args in NextDoor a.ends.now a.incident.now a.begins.now a.first.now a.number.now (read a.last.now (read a.order.now 1)) a.r (c.next_door-j.result + 1) c.next_door-k.result = λ q. c.next_door-k.ensures (other_door q.ground q.listing (one q)) in
    let p = c.requires in find_meets p (one p) (other p) c.far_end-w.ensures c.far_end-u.ensures

pub bounds-first-x : goal.bounds-first-x
bounds-first-x c =
    let Given : Type 0 = let a = c.args in
    Finding limits a.ends.now a.incident.now a.begins.now a.first.now a.order.now a.number.now a.last.now a.r a.places.now in
    let one : (q : Given) → let a = c.args in NextDoor a.ends.now a.incident.now a.begins.now a.first.now a.number.now (read a.last.now (read a.order.now 1)) a.r (read a.begins.now a.r) c.next_door-j.result = λ q. c.next_door-j.ensures (some_door q.ground q.listing) in
    let other : (q : Given) → let a = c.args in NextDoor a.ends.now a.incident.now a.begins.now a.first.now a.number.now (read a.last.now (read a.order.now 1)) a.r (c.next_door-j.result + 1) c.next_door-k.result = λ q. c.next_door-k.ensures (other_door q.ground q.listing (one q)) in
    let p = c.requires in (find_rises p (one p) (other p) c.far_end-w.ensures c.far_end-u.ensures c.meeting-x.new.marks c.meeting-x.ensures).long

pub overflow_sub-e : goal.overflow_sub-e
overflow_sub-e c =
    let Given : Type 0 = let a = c.args in
    Finding limits a.ends.now a.incident.now a.begins.now a.first.now a.order.now a.number.now a.last.now a.r a.places.now in
    let one : (q : Given) → let a = c.args in NextDoor a.ends.now a.incident.now a.begins.now a.first.now a.number.now (read a.last.now (read a.order.now 1)) a.r (read a.begins.now a.r) c.next_door-j.result = λ q. c.next_door-j.ensures (some_door q.ground q.listing) in
    let other : (q : Given) → let a = c.args in NextDoor a.ends.now a.incident.now a.begins.now a.first.now a.number.now (read a.last.now (read a.order.now 1)) a.r (c.next_door-j.result + 1) c.next_door-k.result = λ q. c.next_door-k.ensures (other_door q.ground q.listing (one q)) in
    let p = c.requires in (find_rises p (one p) (other p) c.far_end-w.ensures c.far_end-u.ensures c.meeting-x.new.marks c.meeting-x.ensures).seen

pub returns : goal.returns
returns c =
    let Given : Type 0 = let a = c.args in
    Finding limits a.ends.now a.incident.now a.begins.now a.first.now a.order.now a.number.now a.last.now a.r a.places.now in
    let one : (q : Given) → let a = c.args in NextDoor a.ends.now a.incident.now a.begins.now a.first.now a.number.now (read a.last.now (read a.order.now 1)) a.r (read a.begins.now a.r) c.next_door-j.result = λ q. c.next_door-j.ensures (some_door q.ground q.listing) in
    let other : (q : Given) → let a = c.args in NextDoor a.ends.now a.incident.now a.begins.now a.first.now a.number.now (read a.last.now (read a.order.now 1)) a.r (c.next_door-j.result + 1) c.next_door-k.result = λ q. c.next_door-k.ensures (other_door q.ground q.listing (one q)) in (
      c.meeting-x.ensures.0,
      λ p. forked p (one p) (other p) c.far_end-w.ensures c.far_end-u.ensures c.meeting-x.new.marks c.meeting-x.ensures
          c.far_end-p.ensures,
    )
