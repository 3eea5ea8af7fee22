-- `read_line` meets its contract: the line is read of its part of the text.
use mathlib.Core.Path.{ap, ◌∙◌}
use native.Mathlib.Omega.{arith}
use lib.ListN.{length, drop, length-drop}
use lib.Seq.{length-take-le}
use Rattle.text.specs.Column.{five, largest, line_size}
use Rattle.text_read.proofs.Lines.{part-read}
use Rattle.text_read.proofs.line.read_line.Goals as goal

pub read_columns-requires : goal.read_columns-requires
read_columns-requires c =
    let a = c.args in
    (omega arith, omega arith, ap length c.take_line.ensures ∙ length-take-le (line_size five a.columns) (drop a.at a.text.now) (omega (arith, length-drop a.at a.text.now)))

pub returns : goal.returns
returns c =
    let a = c.args in
    part-read five largest a.columns (drop a.at a.text.now) c.read_columns.result (rw c.take_line.ensures at c.read_columns.ensures)
