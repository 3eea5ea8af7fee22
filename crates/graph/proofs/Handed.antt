-- What is handed back of a plan and lent space: a refusal, which has no values, or the values of a success.
use mathlib.Core.Path.{◌≡◌, refl, sym, ap, ◌∙◌}
use mathlib.Core.Bool.{Bool, true, false, cond}
use mathlib.Core.List.{List, ◌∷◌}
use Prim.Native.Nat.{ℕ}
use lib.Dec.{T, eqb}
use borrow.Author.Tests.{eqb-true, eqb-false, eq-eqb, ne_eqb}
use native.Mathlib.Decide.{ℕ_discrete}
use Rattle.connectivity.specs.Plan.{Plan, Limits}
use Rattle.connectivity.specs.Admission.{Answer, answer, passed, Handed, served, refusal, Admitted, admission}
use Rattle.connectivity.proofs.Admission.{admission_is, admission_number, failed_then}
use Rattle.graph.specs.Admission.{answer_of, lent}
use Rattle.graph.specs.declared.Answer as code
use Rattle.graph.proofs.Lent.{RefusedBy, not_served, told_by_lem, lent-enough}

-- with space that is enough for every admitted plan, it is the plan's own
pub lent_own : (most : Limits) (p : Plan) (t : Bool) → (Admitted most p → T t) → lent most p t ≡ admission most p
unfolding lent
lent_own most p t f = elim (ℕ_discrete (admission most p).number 0) [
  | yes z ↦ let a = (admission_number most p).0 z in lent-enough t a (f a) ∙ sym ((admission_is most p).1 a)
  | no h ↦ failed_then (admission most p) (cond t passed (answer 6 0)) h
]

-- a refusal is not success
pub refused_not : {b : Answer} {a : code.Answer} → RefusedBy b a → b ≡ passed → ⊥
refused_not r q = r.0 (ap (λ (x : Answer). x.number) q)

pub refused-answer : {b : Answer} {a : code.Answer} → RefusedBy b a → answer_of a ≡ b
refused-answer r = ap answer_of r.1

-- What is handed back where a success has values.

module _ (b : Answer) where
  abbrev back : Handed → Handed
  back h = cond (eqb b.number 0) h (refusal b)

  pub back_served : (h : Handed) → b.number ≡ 0 → h ≡ back h
  back_served h z = rw (eq-eqb b.number 0 z)

  pub back_refused : (h : Handed) {a : code.Answer} → RefusedBy b a → refusal (answer_of a) ≡ back h
  back_refused h r = ap refusal (refused-answer r) ∙ rw (ne_eqb b.number 0 r.0)

  module _ (v : ℕ) (l : List ℕ) where
    pub refused_back : {a : code.Answer} → refusal (answer_of a) ≡ back (served (v ∷ l)) → RefusedBy b a
    refused_back {a} h = go (eqb b.number 0) refl h
      where
        go : (t : Bool) → eqb b.number 0 ≡ t → refusal (answer_of a) ≡ cond t (served (v ∷ l)) (refusal b) → RefusedBy b a
        go true q h = absurd (not_served h)
        go false q h = (eqb-false b.number 0 q, told_by_lem h)

    pub served_back : {w : ℕ} {k : List ℕ} → served (w ∷ k) ≡ back (served (v ∷ l)) → (b.number ≡ 0) × (w ∷ k ≡ v ∷ l)
    served_back {w} {k} h = go (eqb b.number 0) refl h
      where
        go : (t : Bool) → eqb b.number 0 ≡ t → served (w ∷ k) ≡ cond t (served (v ∷ l)) (refusal b) → (b.number ≡ 0) × (w ∷ k ≡ v ∷ l)
        go true q h = (eqb-true b.number 0 q, ap (λ (x : Handed). x.values) h)
        go false q h = absurd (not_served (sym h))
