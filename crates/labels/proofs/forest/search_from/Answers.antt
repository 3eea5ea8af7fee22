-- `search_from` meets its contract: over the tables of an admitted plan and with room for all, a search is not refused; it enters no excluded vertex but as its root.
use Rattle.connectivity.specs.Plan.{plan}
use Rattle.connectivity.proofs.Kept.{admitted_entire}
use Rattle.depth.proofs.Outcomes.{not_refused, searched, tabled_enough}
use Rattle.depth.proofs.Masking.{searched_kept}
use Rattle.labels.proofs.Masks.{masks_masking}
use Rattle.labels.proofs.forest.search_from.Goals as goal

pub returns-in_default : goal.returns-in_default
returns-in_default c =
    let o = c.requires.0 in
    let r = c.requires.1 in
    absurd (not_refused _ _ _ _ _ _ _ _ _ _ _ _ _ (admitted_entire o.tabled.admitted) (tabled_enough o.tabled o.masks.room r.first_room r.order_room r.cursor_room)
    (rw c.in_default.is at c.explore-found.ensures))

pub returns : goal.returns
returns c =
    let a = c.args in
    searched_kept (plan a.vertices a.ends.now a.excluded.now) (masks_masking c.requires.0.masks) (searched _ _ _ _ _ _ _ _ _ _ _ _ _ (rw c.in-Ok.is at c.explore-found.ensures))
