-- What the constructor says of a plan, and the refusal that follows from it and from the lent space.
use Rattle.std.specs.Prelude.{Err, Ok}
use mathlib.Core.Path.{◌≡◌, refl, sym, ap, ◌∙◌}
use mathlib.Core.Bool.{Bool, true, false, cond}
use mathlib.Core.List.{List, ◌∷◌}
use Prim.Native.Nat.{ℕ, ◌/◌}
use native.Mathlib.Omega.{arith}
use native.Mathlib.Decide.{ℕ_discrete}
use lib.Dec.{T, eqb}
use lib.ListN.{length, get_or}
use borrow.Author.Tests.{eqb-true, eqb-false}
use Rattle.connectivity.specs.Plan.{Plan, Limits}
use Rattle.connectivity.specs.Admission.{Answer, answer, passed, Handed, served, refusal, kept_vertices, kept_edges, Admitted, admission}
use Rattle.connectivity.proofs.Lists.{T_true, T_false}
use Rattle.connectivity.proofs.Admission.{passed_then, failed_then, admission_number}
use Rattle.graph.specs.declared.Answer as code
use Rattle.graph.specs.declared.Graph.{Graph}
use Rattle.graph.specs.Admission.{Admission}
use Rattle.graph.specs.Admission.{told_by, answer_of, handed, counts, constructed, lent}

-- a refusal is not a success with values, and it tells its answer
pub not_served : {a : Answer} {x : ℕ} {l : List ℕ} → refusal a ≡ served (x ∷ l) → ⊥
not_served p = let z = ap (λ (h : Handed). length h.values) p in omega (arith, z)

pub told_by_lem : {a : code.Answer} {b : Answer} → refusal (answer_of a) ≡ refusal b → a ≡ told_by b
told_by_lem p = ap (λ (h : Handed). told_by h.reply) p

-- What the constructor says.

module _ (most : Limits) (p : Plan) where
  abbrev back : Bool → Handed
  back t = cond t (served (counts p)) (refusal (admission most p))

  pub constructed-refused : {r : Admission} {a : code.Answer} → handed r ≡ constructed most p → r ≡ Err a → (Admitted most p → ⊥) × (a ≡ told_by (admission most p))
  unfolding constructed
  constructed-refused {a = a} h q = go (eqb (admission most p).number 0) refl (rw q at h)
    where
      go : (t : Bool) → eqb (admission most p).number 0 ≡ t → refusal (answer_of a) ≡ back t → (Admitted most p → ⊥) × (a ≡ told_by (admission most p))
      go true z h = absurd (not_served h)
      go false z h = (λ m. eqb-false (admission most p).number 0 z ((admission_number most p).1 m), told_by_lem h)

  -- an admitted plan, and its counts
  pub record Made (g : Graph) : Type 0 where
    pub admitted : Admitted most p
    pub vertices : g.vertices ≡ p.vertices
    pub edges : g.edges ≡ length p.ends / 2
    pub kept_vertices_lem : g.kept_vertices ≡ kept_vertices p
    pub kept_edges_lem : g.kept_edges ≡ kept_edges p

  pub constructed_admitted : {r : Admission} {g : Graph} → handed r ≡ constructed most p → r ≡ Ok g → Made g
  unfolding constructed
  constructed_admitted {g = g} h q = go (eqb (admission most p).number 0) refl (rw q at h)
    where
      go : (t : Bool) → eqb (admission most p).number 0 ≡ t → handed (Ok g) ≡ back t → Made g
      go true z h = record {
        admitted = (admission_number most p).0 (eqb-true (admission most p).number 0 z);
        vertices = ap (λ (x : Handed). get_or x.values 0 0) h;
        edges = ap (λ (x : Handed). get_or x.values 1 0) h;
        kept_vertices_lem = ap (λ (x : Handed). get_or x.values 2 0) h;
        kept_edges_lem = ap (λ (x : Handed). get_or x.values 3 0) h;
      }
      go false z h = absurd (not_served (sym h))

-- The refusal.

-- the code's answer is this refusal
abbrev pub RefusedBy : Answer → code.Answer → Type 0
RefusedBy b a = (b.number ≡ 0 → ⊥) × (a ≡ told_by b)

module _ {most : Limits} {p : Plan} (enough : Bool) where
  pub lent-refused : {a : code.Answer} → (Admitted most p → ⊥) → a ≡ told_by (admission most p) → RefusedBy (lent most p enough) a
  unfolding lent
  lent-refused h q =
      let bad : (admission most p).number ≡ 0 → ⊥ = λ z. h ((admission_number most p).0 z) in
      let same = failed_then (admission most p) (cond enough passed (answer 6 0)) bad in
      (rw same bad, q ∙ ap told_by (sym same))

  module _ (a : Admitted most p) where
    admitted_lent : lent most p enough ≡ cond enough passed (answer 6 0)
    unfolding lent
    admitted_lent = passed_then (admission most p) _ ((admission_number most p).1 a)

    pub lent-enough : T enough → lent most p enough ≡ passed
    lent-enough t = admitted_lent ∙ rw (T_true enough t)

    pub lent_short : (T enough → ⊥) → RefusedBy (lent most p enough) (record { number = 6; place = 0 })
    lent_short h = let same : lent most p enough ≡ answer 6 0 = admitted_lent ∙ rw (T_false enough h) in (rw same (λ z. omega arith), ap told_by (sym same))

  -- What an answer to a plan and lent space says of the plan.

  pub lent_passed : (lent most p enough).number ≡ 0 → Admitted most p
  unfolding lent
  lent_passed z = elim (ℕ_discrete (admission most p).number 0) [
    | yes q ↦ (admission_number most p).0 q
    | no h ↦ absurd (h (ap (λ (x : Answer). x.number) (sym (failed_then (admission most p) (cond enough passed (answer 6 0)) h)) ∙ z))
  ]
