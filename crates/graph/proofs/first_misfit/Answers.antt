-- `first_misfit` meets its contract. The loop's invariant: the answer is the one from edge e on.
use mathlib.Core.Path.{refl, sym, ap, ◌∙◌}
use Prim.Native.Nat.{ℕ, ◌*◌}
use native.Mathlib.Omega.{arith}
use lib.ListN.{length-drop}
use Rattle.graph.specs.Admission.{told_by}
use Rattle.graph.proofs.Laws.{ends_next, ends_stop, ends_over}
use Rattle.graph.proofs.first_misfit.Goals as goal

pub loop-e-init : goal.loop-e-init
loop-e-init c = (omega arith, refl)

pub returns-then-number-ne0 : goal.returns-then-number-ne0
returns-then-number-ne0 c =
    let q = c.loop-e.invariant.1 ∙ ends_stop _ _ c.loop-e.e (omega arith) (λ p. c.if-number-ne0.true (c.judge_edge-number.ensures ∙ p)) in
    ap (λ (n : ℕ). record { number = n; place = c.loop-e.e }) c.judge_edge-number.ensures ∙ sym (ap told_by q)

pub loop-e-preserved : goal.loop-e-preserved
loop-e-preserved c =
    (omega arith, c.loop-e.invariant.1 ∙ ends_next _ _ c.loop-e.e (omega arith) (sym c.judge_edge-number.ensures ∙ c.if-number-ne0.false))

pub returns : goal.returns
returns c =
    sym (ap told_by (c.loop-e.invariant.1 ∙ ends_over _ _ _ (omega (arith, length-drop (2 * c.loop-e.e) c.args.ends.now))))
