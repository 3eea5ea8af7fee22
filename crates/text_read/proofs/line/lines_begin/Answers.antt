-- `lines_begin` meets its contract: a line that is not in the form ends it, and after the last one nothing is left to be asked.
use mathlib.Core.Path.{◌≡◌, sym, ◌∙◌}
use Prim.Native.Nat.{◌+◌, ◌*◌, ◌-◌}
use native.Mathlib.Omega.{arith}
use lib.ListN.{drop}
use Rattle.text.specs.Column.{five, largest, line_size}
use Rattle.text.proofs.Laws.{lines_next, lines_last}
use Rattle.text_read.proofs.Lines.{fits_some}
use Rattle.text_read.proofs.line.lines_begin.Goals as goal

pub returns-then-is_none : goal.returns-then-is_none
returns-then-is_none c =
    let a = c.args in
    let k = c.loop-k.k in
    let q = fits_some five largest a.columns (drop (a.at + k * line_size five a.columns) a.text.now) c.read_line.result c.read_line.ensures ∙ c.if-is_none.ensures in
    sym (c.loop-k.invariant ∙ lines_next five a.columns (a.count - k) (a.at + k * line_size five a.columns) a.text.now (omega arith) largest ∙ rw q)

pub loop-k-preserved : goal.loop-k-preserved
loop-k-preserved c =
    let a = c.args in
    let k = c.loop-k.k in
    let size = line_size five a.columns in
    let q = fits_some five largest a.columns (drop (a.at + k * line_size five a.columns) a.text.now) c.read_line.result c.read_line.ensures ∙ c.if-is_none.ensures in
    let left : a.count - (k + 1) ≡ a.count - k - 1 = omega arith in
    let next : a.at + (k + 1) * size ≡ a.at + k * size + size = omega arith in
    rw (left, next) (c.loop-k.invariant ∙ lines_next five a.columns (a.count - k) (a.at + k * size) a.text.now (omega arith) largest ∙ rw q)

pub returns : goal.returns
returns c =
    let a = c.args in
    let k = c.loop-k.k in
    sym (c.loop-k.invariant ∙ lines_last five largest a.columns (a.count - k) (drop (a.at + k * line_size five a.columns) a.text.now) (omega arith))
