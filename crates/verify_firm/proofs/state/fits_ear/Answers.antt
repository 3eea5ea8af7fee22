-- `fits_ear` meets its contract: it is refused by the first part that fails.
use mathlib.Core.Path.{sym, ◌∙◌}
use mathlib.Core.Bool.{true≢false}
use native.Mathlib.Omega.{arith}
use Rattle.verify_firm.specs.Marks.{FitsEar}
use Rattle.verify_firm.proofs.Tests.{tells_most}
use Rattle.verify_firm.proofs.state.fits_ear.Goals as goal

pub returns-then-not-fresh : goal.returns-then-not-fresh
returns-then-not-fresh c p = true≢false (sym p.0 ∙ c.if-not-fresh.true)

pub returns-then-start-at : goal.returns-then-start-at
returns-then-start-at c = (c.if-not-fresh.false, omega arith, omega arith, λ p. absurd (c.if-start-at.true p))

pub returns : goal.returns
returns c =
    let a = c.args in
    tells_most {P = FitsEar a.degree.now a.run} 3 _
    (λ h. (c.if-not-fresh.false, omega arith, omega arith, λ p. h))
    (λ p. p.3 c.if-start-at.false)
