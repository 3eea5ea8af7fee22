-- `small_cut` meets its contract: the first single edge, else the first pair, else none.
use mathlib.Core.Path.{refl}
use Rattle.cuts.specs.Lowest.{one}
use Rattle.cuts.proofs.Filter.{shows_one, shows_both, lowest_one, lowest_two}
use Rattle.cuts.proofs.Trying.{ready_again}
use Rattle.cuts.proofs.lowest.small_cut.Goals as goal

pub lowest_one-single-requires : goal.lowest_one-single-requires
lowest_one-single-requires c = let s = c.requires in (shows_one s.0, s.1)

pub returns-in-Some : goal.returns-in-Some
returns-in-Some c =
    let w = c.requires.0 in
    rw (lowest_one _ _ refl w.connected _ c.in-Some.ensures.0, c.cut.ensures) (one _)

pub lowest_pair-requires : goal.lowest_pair-requires
lowest_pair-requires c =
    let s = c.requires in
    let l = c.in-None.ensures in
    (shows_both s.0 l.0, ready_again s.1 l.1)

pub returns-in-None : goal.returns-in-None
returns-in-None c =
    let w = c.requires.0 in
    rw (lowest_two _ _ refl w.connected c.in-None.ensures.0) c.lowest_pair.ensures
