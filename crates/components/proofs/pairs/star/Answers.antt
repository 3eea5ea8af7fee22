-- `star` meets its contract: a turn for each edge on the chain.
use Prim.Native.Nat.{◌<◌}
use native.Mathlib.Omega.{arith}
use Rattle.components.proofs.Starring.{stars_pass, stars_head}
use Rattle.components.proofs.Turning.{worked_same, worked_more, worked_turn, working_on, working_setting, chain_start, chain_turn, chain_less, chain_end}
use Rattle.components.proofs.pairs.star.Goals as goal

pub bounds-claimed-e : goal.bounds-claimed-e
bounds-claimed-e c = let s = c.requires in omega (arith, s.0, s.1.claimed_room)

pub returns-then-claimed-e-ne0 : goal.returns-then-claimed-e-ne0
returns-then-claimed-e-ne0 c = let s = c.requires in (stars_pass (working_setting s.1) s.0 s.3 c.if-claimed-e-ne0.true, worked_same)

pub bounds-labels-e : goal.bounds-labels-e
bounds-labels-e c = let s = c.requires in omega (arith, s.0, s.1.labels_room)

pub bounds-next-e : goal.bounds-next-e
bounds-next-e c = let s = c.requires in omega (arith, s.0, s.2.room)

pub loop-x-init : goal.loop-x-init
loop-x-init c =
    let s = c.requires in
    let t = working_setting s.1 in
    ((chain_start t s.2 s.0 s.3).0.inside, worked_same, λ k. chain_start t k s.0 s.3)

pub turn-requires : goal.turn-requires
turn-requires c =
    let s = c.requires in
    let i = c.loop-x.invariant in
    let some : 0 < c.loop-x.x = omega (arith, c.loop-x-test.true) in
    (s.0, omega (arith, i.0, some), working_on s.1 i.1, (i.2 s.2).1.groups.classes)

pub overflow_cast-x-in-loop-x : goal.overflow_cast-x-in-loop-x
overflow_cast-x-in-loop-x c = omega (arith, c.loop-x.invariant.0, c.requires.1.tabled.admitted.edges)

pub offset_bounds-next-d : goal.offset_bounds-next-d
offset_bounds-next-d c = omega (arith, c.loop-x.invariant.0, c.requires.1.tabled.admitted.edges)

pub bounds-next-d : goal.bounds-next-d
bounds-next-d c =
    let s = c.requires in
    let i = c.loop-x.invariant in
    let some : 0 < c.loop-x.x = omega (arith, c.loop-x-test.true) in
    omega (arith, i.0, some, s.2.room)

pub loop-x-smaller : goal.loop-x-smaller
loop-x-smaller c =
    let s = c.requires in
    let i = c.loop-x.invariant in
    let some : 0 < c.loop-x.x = omega (arith, c.loop-x-test.true) in
    chain_less (working_setting s.1) s.2 s.0 (i.2 s.2).0 some

pub loop-x-preserved : goal.loop-x-preserved
loop-x-preserved c =
    let s = c.requires in
    let i = c.loop-x.invariant in
    let some : 0 < c.loop-x.x = omega (arith, c.loop-x-test.true) in
    let t = c.turn.ensures in
    let set = working_setting s.1 in
    let h = stars_head set s.0 s.3 c.if-claimed-e-ne0.false in
    let room = (working_on s.1 i.1).claimed_room in
    let edge = s.1.masking _ s.0 c.if-claimed-e-ne0.false in
    ((chain_turn set s.2 s.0 (i.2 s.2).0 some room edge h.0 h.1 (i.2 s.2).1 t).0.inside, worked_more i.1 (worked_turn t), λ k. chain_turn set k s.0 (i.2 k).0 some room edge h.0 h.1 (i.2 k).1 t)

pub shape_of-claimed : goal.shape_of-claimed
shape_of-claimed c = c.loop-x.invariant.1.claimed_long

pub shape_of-table : goal.shape_of-table
shape_of-table c = c.loop-x.invariant.1.kept.long

pub returns : goal.returns
returns c =
    let s = c.requires in
    let i = c.loop-x.invariant in
    (chain_end (working_setting s.1) s.2 s.0 c.loop-x.x (omega (arith, c.loop-x-test.false)) (i.2 s.2).1, i.1)
