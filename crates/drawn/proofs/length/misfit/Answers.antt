-- `misfit` meets its contract, by its test.
use mathlib.Core.Path.{◌≡◌}
use Prim.Native.Nat.{◌+◌}
use native.Mathlib.Omega.{arith}
use borrow.Author.Tests.{eq-eqb, ne_eqb}
use Rattle.text.specs.Column.{digit}
use Rattle.text.proofs.Laws.{digit_most}
use Rattle.drawn.specs.Length.{thousand}
use Rattle.drawn.specs.Line.{zero_at, misfit}
use Rattle.drawn.proofs.Lengths.{zero_most}
use Rattle.drawn.proofs.length.misfit.Goals as goal

pub overflow_add-zero_at : goal.overflow_add-zero_at
overflow_add-zero_at c = omega (arith, c.digit_of.ensures, c.zero_at.ensures, zero_most thousand c.args.worth c.args.x, digit_most c.args.b)

pub returns-then-zero_at-digit_of : goal.returns-then-zero_at-digit_of
unfolding misfit
returns-then-zero_at-digit_of c =
    let sum : let a = c.args in c.zero_at.result + c.digit_of.result ≡ zero_at thousand a.worth a.x + digit a.b = rw (c.zero_at.ensures, c.digit_of.ensures) in
    let a = c.args in rw (eq-eqb (zero_at thousand a.worth a.x + digit a.b) a.b (omega (arith, sum, c.if-zero_at-digit_of.true)))

pub returns-else-zero_at-digit_of : goal.returns-else-zero_at-digit_of
unfolding misfit
returns-else-zero_at-digit_of c =
    let sum : let a = c.args in c.zero_at.result + c.digit_of.result ≡ zero_at thousand a.worth a.x + digit a.b = rw (c.zero_at.ensures, c.digit_of.ensures) in
    let a = c.args in rw (ne_eqb (zero_at thousand a.worth a.x + digit a.b) a.b (λ z. c.if-zero_at-digit_of.false (omega (arith, sum))))
