-- `search` meets its contract: the root can be entered, and with tables that are long enough an admitted plan is not refused.
use Rattle.connectivity.proofs.Kept.{vertex_size, admitted_entire}
use Rattle.depth.proofs.Left.{fresh_at}
use Rattle.depth.proofs.Masking.{found_kept}
use Rattle.depth.proofs.Outcomes.{not_refused, found_from, tabled_enough}
use Rattle.cuts.proofs.tries.search.Goals as goal

pub shape_of-marks-in-Ok : goal.shape_of-marks-in-Ok
shape_of-marks-in-Ok c = c.explore-found.auto.first

pub shape_of-order-in-Ok : goal.shape_of-order-in-Ok
shape_of-order-in-Ok c = c.explore-found.auto.order

pub shape_of-cursor-in-Ok : goal.shape_of-cursor-in-Ok
shape_of-cursor-in-Ok c = c.explore-found.auto.cursor

pub returns-in-Ok : goal.returns-in-Ok
returns-in-Ok c =
    let e = rw c.in-Ok.is at c.explore-found.ensures in
    let s = c.requires in
    found_kept _ s.0.masking (found_from _ _ _ _ _ _ _ _ _ _ _ _ _ (fresh_at _ _ _ (vertex_size _ s.1) s.0.fresh) e)

pub shape_of-marks-in-Err : goal.shape_of-marks-in-Err
shape_of-marks-in-Err c = c.explore-found.auto.first

pub shape_of-order-in-Err : goal.shape_of-order-in-Err
shape_of-order-in-Err c = c.explore-found.auto.order

pub shape_of-cursor-in-Err : goal.shape_of-cursor-in-Err
shape_of-cursor-in-Err c = c.explore-found.auto.cursor

pub returns-in-Err : goal.returns-in-Err
returns-in-Err c =
    let e = rw c.in-Err.is at c.explore-found.ensures in
    let t = c.requires.0 in
    absurd (not_refused _ _ _ _ _ _ _ _ _ _ _ _ _ (admitted_entire t.tabled.admitted) (tabled_enough t.tabled t.dead_room t.marks_room t.order_room t.cursor_room) e)
