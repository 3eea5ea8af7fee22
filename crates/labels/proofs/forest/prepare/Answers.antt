-- `prepare` meets its contract: with room for them the tables of an admitted plan are filled.
use native.Mathlib.Omega.{arith}
use Rattle.incidence.proofs.Loops.{cleared_front}
use Rattle.labels.proofs.Growing.{prepared}
use Rattle.labels.proofs.forest.prepare.Goals as goal

pub returns : goal.returns
returns c =
    prepared c.requires.0 c.requires.1 c.fill.ensures (cleared_front (omega (arith, c.requires.1.dead_room)) (c.fill-2.ensures.after (λ _ h. h))) c.mask.ensures c.clear.ensures
