-- `lowest_filled` meets its contract: its tables have room for every plan, and no mark is set but those of the edges of excluded vertices.
use Rattle.cuts.proofs.Answers.{filled_cut, filled_spaces, told-handed}
use Rattle.cuts.proofs.lowest_filled.Goals as goal

pub lowest_over-requires : goal.lowest_over-requires
lowest_over-requires c = let s = c.requires in filled_spaces _ s.0 c.mask.ensures s.1 s.2 c.clear.ensures

pub returns : goal.returns
returns c = let s = c.requires in let over = c.lowest_over.ensures in (told-handed over.0, record { cleared = _; clear = c.clear.ensures; dead = _; cutting = filled_cut _ s.0 c.mask.ensures; searched = over.1 })
