-- `write_lines` meets its contract: one line more is written, and after the last one nothing is left.
use mathlib.Core.Path.{◌≡◌, sym, ◌∙◌}
use Prim.Native.Nat.{◌+◌, ◌*◌, ◌-◌, ◌≤◌}
use native.Mathlib.Omega.{arith}
use native.Mathlib.Nat.{mul-le-mul_left}
use lib.ListN.{drop}
use Rattle.text.specs.Column.{five, line_size}
use Rattle.text.proofs.Laws.{write_lines_next, write_lines_last}
use Rattle.text_write.proofs.line.write_lines.Goals as goal

pub loop-k-preserved : goal.loop-k-preserved
loop-k-preserved c =
    let a = c.args in
    let l = c.loop-k in
    let size = line_size five a.columns in
    let some : l.k + 1 ≤ a.count = omega arith in
    let left : a.count - (l.k + 1) ≡ a.count - l.k - 1 = omega arith in
    let next : a.at + (l.k + 1) * size ≡ a.at + l.k * size + size = omega arith in
    let from : (l.k + 1) * a.columns ≡ l.k * a.columns + a.columns = omega arith in
    rw (left, next, from, c.write_line.ensures)
    (sym (write_lines_next five l.text a.list.now (a.at + l.k * size) (l.k * a.columns) a.columns (a.count - l.k) (omega arith) (omega (arith, mul-le-mul_left a.columns some))) ∙ l.invariant)

pub returns : goal.returns
returns c =
    let a = c.args in
    let l = c.loop-k in
    rw (write_lines_last five a.columns (a.count - l.k) (drop (l.k * a.columns) a.list.now) (omega arith)) at l.invariant
