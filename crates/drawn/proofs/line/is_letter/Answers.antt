-- `is_letter` meets its contract. The loop's invariant: the column is the letter's exactly if it is from byte i on.
use mathlib.Core.Path.{sym, ◌∙◌}
use native.Mathlib.Omega.{arith}
use lib.ListN.{length, take, drop, get_or, length-take}
use Prim.Native.Nat.{ℕ, ◌+◌}
use mathlib.Core.Bool.{cond}
use lib.Dec.{ltb}
use borrow.Author.Tests.{eq-eqb, ne_eqb}
use Rattle.text.specs.Column.{five}
use Rattle.drawn.specs.Text.{letter_column}
use Rattle.drawn.proofs.Letters.{letter_long, letter_next, letter_done}
use Rattle.drawn.proofs.line.is_letter.Goals as goal

pub returns-then-line-at : goal.returns-then-line-at
returns-then-line-at c =
    let a = c.args in
    let i = c.loop-i.i in
    let b : ℕ = cond (ltb 1 (get_or five i 0)) 32 a.letter in
    sym (c.loop-i.invariant ∙ letter_next five a.line.now a.at a.letter i (omega arith) (omega arith)
    ∙ rw (ne_eqb b (get_or a.line.now (a.at + i) 0) (λ z. c.if-line-at.true (sym z ∙ sym c.byte_of.ensures))))

pub loop-i-preserved : goal.loop-i-preserved
loop-i-preserved c =
    let a = c.args in
    let i = c.loop-i.i in
    let b : ℕ = cond (ltb 1 (get_or five i 0)) 32 a.letter in
    c.loop-i.invariant ∙ letter_next five a.line.now a.at a.letter i (omega arith) (omega arith)
    ∙ rw (eq-eqb b (get_or a.line.now (a.at + i) 0) (sym (c.if-line-at.false ∙ c.byte_of.ensures)))

pub returns : goal.returns
returns c =
    let a = c.args in
    sym (c.loop-i.invariant ∙ letter_done (letter_column five a.letter) (take (length five) (drop a.at a.line.now)) c.loop-i.i
    (omega (arith, letter_long five a.letter)) (omega (arith, length-take (length five) (drop a.at a.line.now))))
