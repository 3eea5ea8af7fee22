-- `is_cut` meets its contract: a search over what is left without the two edges.
use mathlib.Core.Path.{◌∙◌}
use native.Mathlib.Omega.{arith}
use Rattle.connectivity.proofs.Kept.{admitted_count}
use Rattle.cuts.proofs.Trying.{end_of, end_vertex, try_tables, tried}
use Rattle.cuts.proofs.tries.is_cut.Goals as goal

pub seen-count-requires : goal.seen-count-requires
seen-count-requires c =
    let s = c.requires in
    (try_tables s.0 s.1 s.2 c.mark.ensures, end_vertex _ s.1 (end_of c.args.ends.now c.args.first.now c.args.e c.lower_end-root.ensures))

pub overflow_cast-result : goal.overflow_cast-result
overflow_cast-result c = omega (arith, admitted_count c.requires.0.tables.tabled.admitted, c.ranges.vertices)

pub overflow_sub-result : goal.overflow_sub-result
overflow_sub-result c = omega (arith, admitted_count c.requires.0.tables.tabled.admitted)

pub shape_of-dead : goal.shape_of-dead
shape_of-dead c = c.mark-2.auto.dead ∙ c.mark.auto.dead

pub shape_of-marks : goal.shape_of-marks
shape_of-marks c = c.seen-count.auto.marks

pub shape_of-order : goal.shape_of-order
shape_of-order c = c.seen-count.auto.order

pub shape_of-cursor : goal.shape_of-cursor
shape_of-cursor c = c.seen-count.auto.cursor

pub returns : goal.returns
returns c =
    let s = c.requires in
    let n = c.seen-count in
    tried s.0 s.1 s.2 n.result _ (omega (arith, admitted_count s.0.tables.tabled.admitted)) c.mark.ensures n.ensures.0 n.ensures.1 c.mark-2.ensures (shape_of-order c) (shape_of-cursor c)
