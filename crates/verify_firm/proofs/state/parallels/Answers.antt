-- `parallels` meets its contract: the ends are compared one way, then the other.
use mathlib.Core.Path.{◌≡◌, sym, ◌∙◌}
use mathlib.Core.Bool.{true≢false}
use mathlib.Core.Logic.{inl, inr, ⊎_elim}
use Rattle.verify_firm.specs.Marks.{Parallels}
use Rattle.verify_firm.proofs.Tests.{tells_same}
use Rattle.verify_firm.proofs.state.parallels.Goals as goal
use Rattle.verify_firm.proofs.state.parallels.Goals.{then-start-low+else-at-high, else-start-low}

pub returns-then-not-fresh : goal.returns-then-not-fresh
returns-then-not-fresh c p = true≢false (sym p.0 ∙ c.if-not-fresh.true)

pub returns-then-at-high : goal.returns-then-at-high
returns-then-at-high c = (c.if-not-fresh.false, inl (c.if-start-low.true, c.if-at-high.true))

pub returns-then-start-high : goal.returns-then-start-high
returns-then-start-high c q =
    let other : (c.args.run.start ≡ c.args.low) × (c.args.run.at ≡ c.args.high) → ⊥ = λ p. elim c.if-start-low.branch [
      | then-start-low+else-at-high w ↦ w.if-at-high.false p.1
      | else-start-low w ↦ w.if-start-low.false p.0
    ] in
    ⊎_elim other (λ w. c.if-start-high.true w.0) q.1

pub returns : goal.returns
returns c =
    let other : (c.args.run.start ≡ c.args.low) × (c.args.run.at ≡ c.args.high) → ⊥ = λ p. elim c.if-start-low.branch [
      | then-start-low+else-at-high w ↦ w.if-at-high.false p.1
      | else-start-low w ↦ w.if-start-low.false p.0
    ] in
    tells_same {P = Parallels c.args.run c.args.low c.args.high} _ _
    (λ e. (c.if-not-fresh.false, inr (c.if-start-high.false, e)))
    (λ p. ⊎_elim (λ w. absurd (other w)) (λ w. w.1) p.1)
