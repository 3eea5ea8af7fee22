-- `read_length` meets its contract: the length is in the form exactly if none of its bytes is another.
use mathlib.Core.Path.{◌≡◌, sym, ap, ◌∙◌}
use mathlib.Core.List.{List}
use Prim.Native.Nat.{ℕ, ◌+◌, ◌≤◌}
use native.Mathlib.Omega.{arith}
use lib.Dec.{eqb}
use lib.ListN.{length, take, drop, length-take, length-drop}
use borrow.Author.Tests.{eq-eqb, ne_eqb}
use Rattle.text.specs.Column.{worths, value}
use Rattle.drawn.specs.Length.{eight, thousand, length_worths, length_fits}
use Rattle.drawn.specs.Line.{misfits}
use Rattle.drawn.proofs.Lengths.{length-told}
use Rattle.drawn.proofs.length.read_length.Goals as goal

-- eight bytes of a line
module _ (at : ℕ) (line : List ℕ) (h : at + length eight ≤ length line) where
  abbrev bytes : List ℕ
  bytes = take (length eight) (drop at line)

  judged : (x n : ℕ) → x ≡ value eight bytes → n ≡ misfits thousand eight x bytes → length_fits thousand eight bytes ≡ eqb n 0
  unfolding worths length_worths
  judged x n p q =
      let long : length bytes ≡ 8 = omega (arith, length-take (length eight) (drop at line), length-drop at line, h) in
      length-told 4 3 bytes long ∙ sym (ap (λ (k : ℕ). eqb k 0) (q ∙ ap (λ (k : ℕ). misfits thousand eight k bytes) p))

pub returns-then-misfits-ne0 : goal.returns-then-misfits-ne0
returns-then-misfits-ne0 c =
    let a = c.args in
    let p = judged a.at a.line.now (omega arith) c.thousandths-x.result c.misfits.result c.thousandths-x.ensures c.misfits.ensures in
    p ∙ ne_eqb c.misfits.result 0 c.if-misfits-ne0.true

pub returns : goal.returns
returns c =
    let a = c.args in
    let x = c.thousandths-x in
    let p = judged a.at a.line.now (omega arith) x.result c.misfits.result x.ensures c.misfits.ensures in
    record { fits = p ∙ eq-eqb c.misfits.result 0 c.if-misfits-ne0.false; is = x.ensures }
