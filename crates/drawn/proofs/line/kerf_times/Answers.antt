-- `kerf_times` meets its contract, by its tests.
use mathlib.Core.Path.{sym, ◌∙◌}
use Rattle.drawn.specs.Text.{letter_byte}
use Rattle.drawn.specs.Line.{times}
use Rattle.drawn.proofs.line.kerf_times.Goals as goal

pub returns-then-is_letter : goal.returns-then-is_letter
unfolding times letter_byte
returns-then-is_letter c = rw (sym c.is_letter.ensures ∙ c.if-is_letter.true)

pub returns-then-is_letter-2 : goal.returns-then-is_letter-2
unfolding times letter_byte
returns-then-is_letter-2 c = rw (sym c.is_letter.ensures ∙ c.if-is_letter.false, sym c.is_letter-2.ensures ∙ c.if-is_letter-2.true)

pub returns : goal.returns
unfolding times letter_byte
returns c = rw (sym c.is_letter.ensures ∙ c.if-is_letter.false, sym c.is_letter-2.ensures ∙ c.if-is_letter-2.false)
