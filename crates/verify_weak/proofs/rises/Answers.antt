-- `rises` meets its contract. The loop's invariant: the answer is the one from number i on, where `low` is one more than the number before.
use mathlib.Core.Path.{sym, ap, ◌∙◌}
use native.Mathlib.Omega.{arith}
use Rattle.graph.specs.Admission.{told_by}
use Rattle.verify_weak.proofs.Weak.{not_missing, turn_next, turn_none, turn_low, turn_over}
use Rattle.verify_weak.proofs.rises.Goals as goal

pub returns-then-is_missing : goal.returns-then-is_missing
returns-then-is_missing c g a =
    c.answer.ensures ∙ sym (ap told_by (c.loop-i.invariant g a ∙ turn_none _ _ g a _ c.loop-i.i c.loop-i.low (omega arith) (sym c.is_missing.ensures ∙ c.if-is_missing.true)))

pub returns-then-e-low : goal.returns-then-e-low
returns-then-e-low c g a =
    c.answer-then-e-low.ensures ∙ sym (ap told_by (c.loop-i.invariant g a ∙ turn_low _ _ g a _ c.loop-i.i c.loop-i.low (omega arith) (sym c.is_missing.ensures ∙ c.if-is_missing.false) (omega arith)))

pub overflow_add-low : goal.overflow_add-low
overflow_add-low c =
    omega (arith, not_missing _ _ _ (sym c.is_missing.ensures ∙ c.if-is_missing.false), c.requires.1)

pub loop-i-preserved : goal.loop-i-preserved
loop-i-preserved c =
    λ g a. c.loop-i.invariant g a ∙ turn_next _ _ g a _ c.loop-i.i c.loop-i.low (omega arith) (sym c.is_missing.ensures ∙ c.if-is_missing.false) (omega arith)

pub returns : goal.returns
returns c g a =
    c.answer-2.ensures ∙ sym (ap told_by (c.loop-i.invariant g a ∙ turn_over g _ c.loop-i.i c.loop-i.low (omega arith)))
