-- `turn` meets its contract, by what `group_end` and `seek` tell.
use mathlib.Core.Path.{refl}
use native.Mathlib.Omega.{arith}
use Rattle.depth.specs.Parts.{down, up}
use Rattle.depth.proofs.turn.Goals as goal

pub overflow_cast-start : goal.overflow_cast-start
overflow_cast-start c = omega (arith, c.shared_slice_known-5-1.given c.args.s.at)

pub overflow_cast-from : goal.overflow_cast-from
overflow_cast-from c =
    omega (arith, c.slice_known-4-1.given c.args.s.at)

pub overflow_add-from : goal.overflow_add-from
overflow_add-from c =
    omega (arith, c.slice_known-4-1.given c.args.s.at, c.shared_slice_known-5-1.given c.args.s.at)

pub descend-requires : goal.descend-requires
descend-requires c =
    let l = c.if-k-to.true in
    let d = c.seek-k.ensures.found l in
    let g = c.group_end-to.ensures in
    record {
      rooms = c.requires.1;
      vertex = c.requires.2.vertex;
      free = c.requires.2.free;
      few = c.requires.0.few;
      shallow = c.requires.2.shallow;
      low = omega (arith, d.0);
      high = omega (arith, l, g.inside, c.requires.0.small);
      inside = omega (arith, l, g.inside, c.requires.0.incident_room);
      small = c.requires.0.small;
      dead_room = c.requires.0.dead_room;
      to = d.1.0;
      new = d.1.1;
    }

pub returns-then-k-to : goal.returns-then-k-to
returns-then-k-to c =
    let k = c.seek-k.ensures in
    let f = k.found c.if-k-to.true in
    down _ f.1.0 f.0 k.passed (c.group_end-to.ensures.right _ (omega (arith, f.0)) c.if-k-to.true) f.1.1 c.descend.ensures

pub returns : goal.returns
returns c =
    let k = c.seek-k.ensures in
    let g = c.group_end-to.ensures in
    up (λ i a j. k.passed i a (omega (arith, g.whole i j, c.if-k-to.false, k.inside (omega (arith, c.if-k-to.false))))) refl refl refl c.ascend.ensures
