-- `if_fits` meets its contract, by its test.
use mathlib.Core.Path.{◌∙◌}
use Rattle.drawn.proofs.judge.if_fits.Goals as goal

pub returns-then-fits : goal.returns-then-fits
returns-then-fits c = rw c.if-fits.true

pub returns : goal.returns
returns c = c.number_alone.ensures ∙ rw c.if-fits.false
