-- `column_at` meets its contract: a column of which bytes are missing is not in the form, and any other is read.
use native.Mathlib.Omega.{arith}
use Rattle.text.specs.Column.{five, largest}
use Rattle.text_read.proofs.Columns.{short_unfit}
use Rattle.text_read.proofs.column.column_at.Goals as goal

pub returns-then-text-at : goal.returns-then-text-at
returns-then-text-at c = let a = c.args in short_unfit five largest a.text.now a.at (omega arith) (omega arith)

pub returns-then-text-at-lt-WIDTH : goal.returns-then-text-at-lt-WIDTH
returns-then-text-at-lt-WIDTH c = let a = c.args in short_unfit five largest a.text.now a.at (omega arith) (omega arith)
