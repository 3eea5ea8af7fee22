-- `store_line` meets its contract: the numbers are read of the line's part of the text.
use mathlib.Core.Path.{ap, ◌∙◌}
use native.Mathlib.Omega.{arith}
use lib.ListN.{length, drop, length-drop}
use lib.Seq.{sets, length-take-le}
use Rattle.text.specs.Column.{five, largest, line_size, line_fits, numbers}
use Rattle.text.proofs.Laws.{line_long, line-part, numbers-part}
use Rattle.text_read.proofs.line.store_line.Goals as goal

pub take_line-requires : goal.take_line-requires
take_line-requires c = let a = c.args in omega (arith, line_long five largest a.columns (drop a.at a.text.now) c.requires.3, length-drop a.at a.text.now)

pub store_columns-requires : goal.store_columns-requires
store_columns-requires c =
    let w = c.take_line in
    let a = c.args in
    let t = drop a.at a.text.now in (
      omega arith,
      ap length w.ensures ∙ length-take-le (line_size five a.columns) t (line_long five largest a.columns t c.requires.3),
      omega arith,
      ap (line_fits five largest a.columns) w.ensures ∙ line-part five largest a.columns t ∙ c.requires.3,
    )

pub returns : goal.returns
returns c =
    let w = c.take_line in
    let a = c.args in
    c.store_columns.ensures ∙ ap (sets a.list.now a.to) (ap (numbers five a.columns) w.ensures ∙ numbers-part five a.columns (drop a.at a.text.now))
