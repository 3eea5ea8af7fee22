-- `store_lines` meets its contract: the numbers of one line more are stored. A line in the form is all there.
use mathlib.Core.Path.{◌≡◌, sym, ◌∙◌}
use mathlib.Core.Bool.{true}
use mathlib.Core.List.{List}
use Prim.Native.Nat.{ℕ, ◌+◌, ◌*◌, ◌-◌, ◌≤◌, ◌<◌}
use native.Mathlib.Omega.{arith}
use native.Mathlib.Nat.{mul-le-mul_left}
use lib.ListN.{length, drop, length-drop}
use Rattle.text.specs.Column.{five, largest, line_size, line_fits, lines_begin}
use Rattle.text.proofs.Laws.{lines_true, store_lines_next, lines-numbers_last}
use Rattle.text_read.proofs.line.store_lines.Goals as goal

-- line k of the text, and those behind it
turn : (columns count k at : ℕ) (text : List ℕ) → k < count → let size = line_size five columns in
    lines_begin five largest columns (count - k) (drop (at + k * size) text) ≡ true
    → (line_fits five largest columns (drop (at + k * size) text) ≡ true)
    × (lines_begin five largest columns (count - k - 1) (drop (at + k * size + size) text) ≡ true)
    × (at + k * size + size ≤ length text)
turn columns count k at text h p =
    let next = at + k * line_size five columns in
    let q = lines_true five columns (count - k) next text (omega arith) largest p in
    (q.0, q.1, omega (arith, q.2, length-drop next text))

pub overflow_mul-k : goal.overflow_mul-k
overflow_mul-k c = let a = c.args in let l = c.loop-k in omega (arith, (turn a.columns a.count l.k a.at a.text.now (omega arith) l.invariant.begin).2)

pub overflow_add-at : goal.overflow_add-at
overflow_add-at c = let a = c.args in let l = c.loop-k in omega (arith, (turn a.columns a.count l.k a.at a.text.now (omega arith) l.invariant.begin).2)

pub store_line-requires : goal.store_line-requires
store_line-requires c =
    let a = c.args in
    let l = c.loop-k in
    let q = turn a.columns a.count l.k a.at a.text.now (omega arith) l.invariant.begin in
    let some : l.k + 1 ≤ a.count = omega arith in
    (omega (arith, q.2), omega arith, omega (arith, mul-le-mul_left a.columns some), q.0)

pub loop-k-preserved : goal.loop-k-preserved
loop-k-preserved c =
    let a = c.args in
    let l = c.loop-k in
    let size = line_size five a.columns in
    let left : a.count - (l.k + 1) ≡ a.count - l.k - 1 = omega arith in
    let next : a.at + (l.k + 1) * size ≡ a.at + l.k * size + size = omega arith in
    let place : a.to + (l.k + 1) * a.columns ≡ a.to + l.k * a.columns + a.columns = omega arith in record {
      begin = rw (left, next) (turn a.columns a.count l.k a.at a.text.now (omega arith) l.invariant.begin).1;
      whole = rw (left, next, place, c.store_line.ensures)
          (sym (store_lines_next five l.list a.text.now (a.to + l.k * a.columns) (a.at + l.k * size) a.columns (a.count - l.k) (omega arith)) ∙ l.invariant.whole);
    }

pub returns : goal.returns
returns c =
    let a = c.args in
    let l = c.loop-k in
    rw (lines-numbers_last five a.columns (a.count - l.k) (drop (a.at + l.k * line_size five a.columns) a.text.now) (omega arith)) at l.invariant.whole
