-- `check` meets its contract: each kind is judged as the definition has it.
use mathlib.Core.Path.{◌≡◌, sym, ap, ◌∙◌}
use mathlib.Core.List.{List}
use Prim.Native.Nat.{ℕ}
use borrow.Author.Tests.{ne_eqb}
use Rattle.connectivity.specs.Plan.{Plan, Limits, limits}
use Rattle.connectivity.specs.Admission.{admission, and_then, answer}
use Rattle.connectivity.specs.Judge.{judge_graph, judge}
use Rattle.graph.specs.Admission.{told_by}
use Rattle.verify.proofs.check.Goals as goal

-- a known kind
known : (most : Limits) (p : Plan) (list : List ℕ) {kind : ℕ} (k : ℕ) → kind ≡ k → judge most p kind list ≡ judge most p k list
known most p list k q = rw q

-- any other
other : (most : Limits) (p : Plan) (kind : ℕ) (list : List ℕ) → (kind ≡ 0 → ⊥) → (kind ≡ 1 → ⊥) → judge most p kind list ≡ and_then (admission most p) (answer 9 0)
unfolding judge judge_graph
other most p kind list h k = rw (ne_eqb kind 0 h, ne_eqb kind 1 k)

pub returns-then-kind-eq0 : goal.returns-then-kind-eq0
returns-then-kind-eq0 c = c.check_firm.ensures ∙ sym (ap told_by (known limits _ _ 0 c.if-kind-eq0.true))

pub returns-then-kind-eq1 : goal.returns-then-kind-eq1
returns-then-kind-eq1 c = c.check_weak.ensures ∙ sym (ap told_by (known limits _ _ 1 c.if-kind-eq1.true))

pub returns : goal.returns
returns c = c.unknown.ensures ∙ sym (ap told_by (other limits _ _ _ c.if-kind-eq0.false c.if-kind-eq1.false))
