-- `next_door` meets its contract. The loop's invariant: no place passed is that of a door.
use Rattle.std.proofs.Common.{arith}
use Rattle.record.proofs.Doors.{passed_start, passed_step, passed_door, place_below, place_fits, door_fits}
use Rattle.record.proofs.theta.next_door.Goals as goal

pub loop-k-init : goal.loop-k-init
loop-k-init c = let a = c.args in
    passed_start a.ends.now a.incident.now a.first.now a.number.now a.end a.r a.from

pub overflow_cast-k-end : goal.overflow_cast-k-end
overflow_cast-k-end c = omega (arith, c.requires.admitted.edges, c.requires.admitted.even)

pub overflow_cast-e : goal.overflow_cast-e
overflow_cast-e c = omega (arith, place_below c.requires c.loop-k.invariant, c.requires.admitted.edges, c.requires.admitted.even)

pub offset_bounds-incident-k : goal.offset_bounds-incident-k
offset_bounds-incident-k c = omega (arith, place_below c.requires c.loop-k.invariant, c.requires.admitted.edges, c.requires.admitted.even)

pub bounds-incident-k : goal.bounds-incident-k
bounds-incident-k c = place_fits c.requires c.loop-k.invariant

pub is_door-requires : goal.is_door-requires
is_door-requires c = rw c.far_end.ensures (door_fits c.requires c.loop-k.invariant)

pub returns-then-is_door : goal.returns-then-is_door
returns-then-is_door c =
    λ d. passed_door d c.loop-k.invariant (rw (← c.far_end.ensures) (rw c.if-is_door.true at c.is_door.ensures))

pub loop-k-preserved : goal.loop-k-preserved
loop-k-preserved c =
    passed_step c.loop-k.invariant (rw (← c.far_end.ensures) (rw c.if-is_door.false at c.is_door.ensures))

pub returns : goal.returns
returns c = λ d. absurd (omega (arith, place_below d c.loop-k.invariant, c.loop-k-test.false))
