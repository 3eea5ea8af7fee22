-- `part` meets its contract: each edge alone, then with later ones.
use mathlib.Core.Path.{refl}
use Rattle.components.proofs.Starring.{stars_start}
use Rattle.components.proofs.Turning.{working_on, working_setting}
use Rattle.components.proofs.Serving.{stage_working, stage_singles, stage_found}
use Rattle.components.proofs.pairs.part.Goals as goal

pub singles-requires : goal.singles-requires
singles-requires c =
    let s = c.requires in
    let z = c.mask.ensures in
    (refl, stage_working s z, stage_singles s z)

pub stars-requires : goal.stars-requires
stars-requires c =
    let r = c.singles.ensures in
    let w = stage_working c.requires c.mask.ensures in
    (refl, working_on w r.1, c.chain.ensures, stars_start (working_setting w) r.0)

pub returns : goal.returns
returns c =
    stage_found c.requires c.mask.ensures c.singles.ensures.1 c.stars.ensures
