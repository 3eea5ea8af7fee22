-- `write_line` meets its contract: the number of one column more is written, and behind the last one a line feed.
use mathlib.Core.Path.{◌≡◌, sym, ap, ◌∙◌}
use Prim.Native.Nat.{ℕ, ◌+◌, ◌*◌}
use native.Mathlib.Omega.{arith}
use lib.ListN.{length, drop, set}
use Rattle.text.specs.Column.{five}
use Rattle.text.proofs.Laws.{write_next, write_last}
use Rattle.text_write.proofs.line.write_line.Goals as goal

pub loop-k-preserved : goal.loop-k-preserved
loop-k-preserved c =
    let a = c.args in
    let l = c.loop-k in
    rw c.write_column.ensures (sym (write_next five l.text a.list.now a.at a.from a.columns l.k (omega arith) (omega arith)) ∙ l.invariant)

pub returns : goal.returns
returns c =
    let a = c.args in
    let l = c.loop-k in
    let p : a.columns ≡ l.k = omega arith in
    ap (λ (j : ℕ). set l.text (a.at + j * length five) 10) p
    ∙ sym (write_last five l.text (drop (a.from + l.k) a.list.now) (a.at + l.k * length five) a.columns l.k (omega arith))
    ∙ l.invariant
