-- What a test of the lent space tells, and the answer that follows from it.
use mathlib.Core.Path.{◌≡◌, sym, ap, ◌∙◌}
use mathlib.Core.Bool.{Bool, true, false, not, cond}
use Rattle.connectivity.specs.Plan.{Plan, Limits}
use Rattle.connectivity.specs.Admission.{answer, passed, Admitted, admission}
use Rattle.connectivity.proofs.Lists.{Decides, T-dec, T_true, T_false}
use Rattle.connectivity.proofs.Admission.{passed_then, admission_number}
use Rattle.graph.specs.declared.Answer as code
use Rattle.graph.specs.Admission.{told_by, lent}
use Rattle.graph.specs.Tells.{Tells}
use Rattle.graph.proofs.Lent.{RefusedBy, lent_short, lent_passed}

-- a test that tells what another decides is that one
pub told_same : {P : Type 0} (t : Bool) {b : Bool} → Decides b P → Tells t P → t ≡ b
told_same true {b} d h = sym (T_true b (d.test h))
told_same false {b} d h = sym (T_false b (λ y. h (d.holds y)))

pub tells_to : {P Q : Type 0} (t : Bool) → (P → Q) → (Q → P) → Tells t P → Tells t Q
tells_to true f g h = f h
tells_to false f g h = λ q. h (g q)

-- What is answered by such a test.

pub lent_space : {most : Limits} {p : Plan} (short : Bool) → Admitted most p → lent most p (not short) ≡ cond short (answer 6 0) passed
unfolding lent
lent_space {most} {p} true a = passed_then (admission most p) (answer 6 0) ((admission_number most p).1 a)
lent_space {most} {p} false a = passed_then (admission most p) passed ((admission_number most p).1 a)

pub lent-told : (most : Limits) (p : Plan) {P : Type 0} (t : Bool) {b : Bool} {r : code.Answer} → Decides b P → Tells t P → r ≡ told_by (lent most p t) → r ≡ told_by (lent most p b)
lent-told most p t d h q = q ∙ ap (λ (x : Bool). told_by (lent most p x)) (told_same t d h)

module _ (most : Limits) (p : Plan) (b : Bool) {r : code.Answer} (q : r ≡ told_by (lent most p b)) where
  number_is : r.number ≡ (lent most p b).number
  number_is = ap (λ (x : code.Answer). x.number) q

  pub told-refused : (r.number ≡ 0 → ⊥) → RefusedBy (lent most p b) r
  told-refused n = (λ z. n (number_is ∙ z), q)

  -- 0: the plan is admitted, and the tables are long enough
  module _ (z : r.number ≡ 0) where
    pub told_number : (lent most p b).number ≡ 0
    told_number = sym number_is ∙ z

    pub told_admitted : Admitted most p
    told_admitted = lent_passed b told_number

    pub told_room : {P : Type 0} → Decides b P → P
    told_room d = elim (T-dec b) [ yes t ↦ d.holds t | no n ↦ absurd ((lent_short b told_admitted n).0 told_number) ]
