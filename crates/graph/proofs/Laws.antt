-- The judgement of a table of ends, from one edge to the next, and what is handed back of a plan by the constructor's tests.
use mathlib.Core.Path.{◌≡◌, refl, ap, ◌∙◌}
use mathlib.Core.Bool.{Bool, true, false, cond, ◌&&◌}
use mathlib.Core.List.{List, [], ◌∷◌}
use Prim.Native.Nat.{ℕ, suc, ◌+◌, ◌*◌, ◌/◌, ◌%◌, ◌≤◌, ◌<◌}
use native.Mathlib.Omega.{arith}
use lib.Dec.{eqb, ltb}
use lib.ListN.{length, get_or, drop}
use lib.Seq.{drop-cons}
use borrow.Author.Tests.{lt-ltb, le-ltb, eq-eqb, ne_eqb}
use Rattle.connectivity.specs.Plan.{Plan, Limits}
use Rattle.connectivity.specs.Admission.{Answer, answer, passed, served, refusal, and_then, edge_number, ends_answer, excluded_answer, kept_vertices, kept_answer, Admitted, admission}
use Rattle.connectivity.proofs.Admission.{passed_then, failed_then, told_zero, Rising, rising_is, excluded_told, kept_two, admission_is}
use Rattle.connectivity.proofs.Kept.{kept_count}
use Rattle.graph.specs.Admission.{counts, constructed, Listed}

-- an edge's number is 5 at most
pub number_most : (n a b : ℕ) → edge_number n a b ≤ 5
unfolding edge_number
number_most n a b = go (ltb a n && ltb b n) (eqb a b)
  where
    go : (s t : Bool) → cond s (cond t 5 0) 4 ≤ 5
    go true true = omega arith
    go true false = omega arith
    go false t = omega arith

drop_two : (ends : List ℕ) (e : ℕ) → 2 * e + 1 < length ends
    → drop (2 * e) ends ≡ get_or ends (2 * e) 0 ∷ (get_or ends (2 * e + 1) 0 ∷ drop (2 * (e + 1)) ends)
drop_two ends e h =
    let p : suc (2 * e) ≡ 2 * e + 1 = omega arith in
    let q : suc (2 * e + 1) ≡ 2 * (e + 1) = omega arith in
    rw (drop-cons ends (2 * e) 0 (omega arith), p, drop-cons ends (2 * e + 1) 0 h, q)

module _ (n : ℕ) (ends : List ℕ) (e : ℕ) where
  abbrev here : ℕ
  here = edge_number n (get_or ends (2 * e) 0) (get_or ends (2 * e + 1) 0)

  step : 2 * e + 1 < length ends → ends_answer n e (drop (2 * e) ends) ≡ and_then (answer here e) (ends_answer n (e + 1) (drop (2 * (e + 1)) ends))
  unfolding ends_answer
  step h = let p : suc e ≡ e + 1 = omega arith in rw (drop_two ends e h, p)

  pub ends_next : 2 * e + 1 < length ends → here ≡ 0 → ends_answer n e (drop (2 * e) ends) ≡ ends_answer n (e + 1) (drop (2 * (e + 1)) ends)
  ends_next h p = step h ∙ passed_then (answer here e) _ p

  pub ends_stop : 2 * e + 1 < length ends → (here ≡ 0 → ⊥) → ends_answer n e (drop (2 * e) ends) ≡ answer here e
  ends_stop h p = step h ∙ failed_then (answer here e) _ p

-- fewer than two numbers are no edge
pub ends_over : (n e : ℕ) (rest : List ℕ) → length rest < 2 → ends_answer n e rest ≡ passed
unfolding ends_answer
ends_over n e [] h = refl
ends_over n e (a ∷ []) h = refl
ends_over n e (a ∷ (b ∷ rest)) h = absurd (omega arith)

-- What is handed back of a plan, by the constructor's tests.
module _ (most : Limits) (p : Plan) where
  pub odd : (length p.ends % 2 ≡ 0 → ⊥) → constructed most p ≡ refusal (answer 1 0)
  unfolding constructed admission
  odd h = rw (ne_eqb (length p.ends % 2) 0 h)

  module _ (even : length p.ends % 2 ≡ 0) where
    pub too_few : p.vertices < 2 → constructed most p ≡ refusal (answer 2 0)
    unfolding constructed admission
    too_few h = rw (eq-eqb (length p.ends % 2) 0 even, lt-ltb p.vertices 2 h)

    module _ (two : 2 ≤ p.vertices) where
      pub too_many : most.vertices < p.vertices → constructed most p ≡ refusal (answer 2 0)
      unfolding constructed admission
      too_many h = rw (eq-eqb (length p.ends % 2) 0 even, le-ltb p.vertices 2 two, lt-ltb most.vertices p.vertices h)

      module _ (small : p.vertices ≤ most.vertices) where
        pub too_long : most.edges < length p.ends / 2 → constructed most p ≡ refusal (answer 3 0)
        unfolding constructed admission
        too_long h = rw (eq-eqb (length p.ends % 2) 0 even, le-ltb p.vertices 2 two, le-ltb most.vertices p.vertices small, lt-ltb most.edges (length p.ends / 2) h)

        module _ (short : length p.ends / 2 ≤ most.edges) where
          to_ends : admission most p ≡ and_then (ends_answer p.vertices 0 p.ends) (and_then (excluded_answer p.vertices 0 0 p.excluded) (kept_answer p))
          unfolding admission
          to_ends = rw (eq-eqb (length p.ends % 2) 0 even, le-ltb p.vertices 2 two, le-ltb most.vertices p.vertices small, le-ltb most.edges (length p.ends / 2) short)

          pub misfit : ((ends_answer p.vertices 0 p.ends).number ≡ 0 → ⊥) → constructed most p ≡ refusal (ends_answer p.vertices 0 p.ends)
          unfolding constructed
          misfit h = rw (to_ends ∙ failed_then (ends_answer p.vertices 0 p.ends) _ h, ne_eqb (ends_answer p.vertices 0 p.ends).number 0 h)

  -- 1 to 5 do not refuse it
  module _ (l : Listed most p) where
    to_excluded : admission most p ≡ and_then (excluded_answer p.vertices 0 0 p.excluded) (kept_answer p)
    to_excluded = to_ends l.even l.two l.small l.short
        ∙ passed_then (ends_answer p.vertices 0 p.ends) _ (ap (λ (a : Answer). a.number) l.fits)

    pub fallen : ((excluded_answer p.vertices 0 0 p.excluded).number ≡ 0 → ⊥) → constructed most p ≡ refusal (excluded_answer p.vertices 0 0 p.excluded)
    unfolding constructed
    fallen h = rw (to_excluded ∙ failed_then (excluded_answer p.vertices 0 0 p.excluded) _ h, ne_eqb (excluded_answer p.vertices 0 0 p.excluded).number 0 h)

    module _ (z : (excluded_answer p.vertices 0 0 p.excluded).number ≡ 0) where
      pub rising : Rising p.vertices 0 p.excluded
      rising = (rising_is p.vertices 0 0 p.excluded).0 (told_zero (excluded_told p.vertices 0 0 p.excluded) z)

      pub kept_left : kept_vertices p + length p.excluded ≡ p.vertices
      kept_left = kept_count p rising

      to_kept : admission most p ≡ kept_answer p
      to_kept = to_excluded ∙ passed_then (excluded_answer p.vertices 0 0 p.excluded) _ z

      pub too_bare : kept_vertices p < 2 → constructed most p ≡ refusal (answer 19 0)
      unfolding constructed kept_answer
      too_bare h = rw (to_kept, lt-ltb (kept_vertices p) 2 h)

      module _ (h : 2 ≤ kept_vertices p) where
        pub is_admitted : Admitted most p
        is_admitted = (admission_is most p).0 (to_kept ∙ (kept_two p).1 h)

        pub fits : constructed most p ≡ served (counts p)
        unfolding constructed
        fits = rw ((admission_is most p).1 is_admitted)
