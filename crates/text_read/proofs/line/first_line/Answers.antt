-- `first_line` meets its contract: a text that is too short has no line, and any other has one at its front.
use native.Mathlib.Omega.{arith}
use Rattle.text.specs.Column.{five, largest}
use Rattle.text.proofs.Laws.{line_short}
use Rattle.text_read.proofs.line.first_line.Goals as goal

pub returns-then-text-columns : goal.returns-then-text-columns
returns-then-text-columns c = let a = c.args in line_short five a.text.now largest a.columns (omega arith)
