-- `pack` meets its contract: the marks of the excluded vertices stand for their list, and each word has at most sixty-four ones.
use mathlib.Core.Path.{◌∙◌}
use Rattle.connectivity.specs.Plan.{limits}
use Rattle.connectivity.specs.Fallen.{words_for}
use Rattle.connectivity.proofs.Fallen.{words_same}
use Rattle.removal.proofs.Packing.{filled_room}
use Rattle.removal.proofs.Falling.{barred_is}
use Rattle.removal.proofs.pack.Goals as goal

pub total-count-requires : goal.total-count-requires
total-count-requires c = filled_room _ (words_for limits) c.fill.ensures

pub returns : goal.returns
returns c =
    record {
      words = c.fill.ensures ∙ words_same (barred_is limits c.args.vertices c.args.excluded.now c.args.first.now _ c.requires.0 c.mark.ensures) 0 (words_for limits);
      count = c.total-count.ensures;
    }
