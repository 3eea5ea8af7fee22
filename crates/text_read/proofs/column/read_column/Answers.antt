-- `read_column` meets its contract: the number is above the largest, or the column fits exactly if none of its bytes is another.
use mathlib.Core.Path.{◌≡◌, sym, ap, ◌∙◌}
use mathlib.Core.List.{List}
use Prim.Native.Nat.{ℕ, ◌+◌, ◌≤◌}
use native.Mathlib.Omega.{arith}
use lib.Dec.{eqb}
use lib.ListN.{length, take, drop, length-take, length-drop}
use borrow.Author.Tests.{eq-eqb, ne_eqb}
use Rattle.text.specs.Column.{worths, five, largest, value, column_fits}
use Rattle.text_read.specs.Line.{misfits}
use Rattle.text_read.proofs.Columns.{column-told, column_over}
use Rattle.text_read.proofs.column.read_column.Goals as goal

-- five bytes of a line, whose number is not above the largest
module _ (at : ℕ) (line : List ℕ) (h : at + length five ≤ length line) where
  abbrev bytes : List ℕ
  bytes = take (length five) (drop at line)

  judged : (x n : ℕ) → x ≤ largest → x ≡ value five bytes → n ≡ misfits five x bytes → column_fits five largest bytes ≡ eqb n 0
  unfolding worths
  judged x n k p q =
      let long : length bytes ≡ 5 = omega (arith, length-take (length five) (drop at line), length-drop at line, h) in
      column-told 5 largest bytes long (omega (arith, k, p)) ∙ sym (ap (λ (m : ℕ). eqb m 0) (q ∙ ap (λ (y : ℕ). misfits five y bytes) p))

pub returns-then-x-gt-LARGEST : goal.returns-then-x-gt-LARGEST
returns-then-x-gt-LARGEST c = let a = c.args in column_over five largest (take (length five) (drop a.at a.line.now)) (omega (arith, c.number-x.ensures))

pub returns-then-misfits-ne0 : goal.returns-then-misfits-ne0
returns-then-misfits-ne0 c =
    let a = c.args in
    judged a.at a.line.now (omega arith) c.number-x.result c.misfits.result (omega arith) c.number-x.ensures c.misfits.ensures ∙ ne_eqb c.misfits.result 0 c.if-misfits-ne0.true

pub returns : goal.returns
returns c =
    let a = c.args in
    let x = c.number-x in
    let p = judged a.at a.line.now (omega arith) x.result c.misfits.result (omega arith) x.ensures c.misfits.ensures in
    record { fits = p ∙ eq-eqb c.misfits.result 0 c.if-misfits-ne0.false; is = x.ensures }
