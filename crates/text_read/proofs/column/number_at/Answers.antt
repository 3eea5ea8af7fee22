-- `number_at` meets its contract: the column is in the form, or it is not.
use mathlib.Core.Path.{sym, ◌∙◌}
use Rattle.text.specs.Column.{five, largest}
use Rattle.text_read.proofs.Columns.{at_unfit, at_fit}
use Rattle.text_read.proofs.column.number_at.Goals as goal

pub returns-in-Some : goal.returns-in-Some
returns-in-Some c = let a = c.args in let r = c.in-Some.ensures in r.is ∙ sym (at_fit five largest a.text.now a.at r.fits)

pub returns-in-None : goal.returns-in-None
returns-in-None c = let a = c.args in sym (at_unfit five largest a.text.now a.at c.in-None.ensures)
