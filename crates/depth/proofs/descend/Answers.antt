-- `descend` meets its contract: the edge leads to the vertex that has no mark.
use mathlib.Core.Path.{ap, ◌∙◌}
use Prim.Native.Nat.{◌+◌, ◌-◌}
use native.Mathlib.Omega.{arith}
use lib.ListN.{length, set, length-set}
use Rattle.graph.proofs.Joined.{joins_edge}
use Rattle.depth.proofs.Edges.{new_is}
use Rattle.connectivity.specs.Plan.{entire}
use Rattle.depth.proofs.descend.Goals as goal

pub overflow_add-e : goal.overflow_add-e
overflow_add-e c =
    let a = c.args in
    omega (arith, c.requires.small, joins_edge (entire a.vertices a.ends.now) c.requires.new.joins)

pub enter-requires : goal.enter-requires
enter-requires c =
    let a = c.args in
    let q = new_is (entire a.vertices a.ends.now) a.dead.now a.first.now _ _ _ c.lead-w.ensures c.requires.new in
    let r = c.requires.rooms in
    (omega (arith, q.0, q.1, r.first_room), omega (arith, r.order_room, c.requires.free), omega (arith, q.0, q.1, r.cursor_room, length-set a.cursor.now a.s.at (a.k + 1 - a.start)))

pub shape_of-cursor : goal.shape_of-cursor
shape_of-cursor c =
    let a = c.args in
    ap length c.enter.ensures.2 ∙ length-set (set a.cursor.now a.s.at (a.k + 1 - a.start)) _ 0 ∙ length-set a.cursor.now a.s.at (a.k + 1 - a.start)
