-- `is_missing` meets its contract: behind the table, or the first end, or the second.
use mathlib.Core.Path.{sym, ◌∙◌}
use native.Mathlib.Omega.{arith}
use Rattle.verify_weak.proofs.Weak.{missing_behind, missing_end}
use Rattle.verify_weak.proofs.is_missing.Goals as goal

pub returns-then-ends-at : goal.returns-then-ends-at
returns-then-ends-at c = sym (missing_behind _ _ _ c.if-ends-at.true)

pub returns-then-is_excluded : goal.returns-then-is_excluded
returns-then-is_excluded c =
    sym (missing_end _ _ _ (omega arith) ∙ rw (sym c.is_excluded.ensures ∙ c.if-is_excluded.true))

pub returns : goal.returns
returns c =
    c.is_excluded-2.ensures ∙ sym (missing_end _ _ _ (omega arith) ∙ rw (sym c.is_excluded.ensures ∙ c.if-is_excluded.false))
