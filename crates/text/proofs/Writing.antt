-- What writing gives, by its tests, and how long the texts are.
use mathlib.Core.Path.{◌≡◌, refl, sym, ap, ◌∙◌}
use mathlib.Core.Bool.{Bool, true, false, cond, ◌&&◌, ◌||◌}
use mathlib.Core.Logic.{◌⊎◌, inl, inr, ⊎_elim}
use mathlib.Core.List.{List, [], ◌∷◌, ◌++◌}
use Prim.Native.Nat.{ℕ, zero, suc, ◌+◌, ◌*◌, ◌/◌, ◌≤◌, ◌<◌, ◌%◌}
use native.Mathlib.Omega.{arith}
use native.Mathlib.Decide.{ℕ_discrete}
use native.Mathlib.Nat.{mul-suc, suc-mul, mul-zero, mul-div-le, le-div_iff_mul-le, div-lt_iff_lt-mul, mul-le-mul, mul-le-mul_right}
use lib.Dec.{eqb, leb}
use lib.ListN.{length, take, drop, get_or, length-append, length-drop}
use lib.Seq.{length-take-le}
use borrow.Author.Tests.{ne_eqb, lt-ltb, le-ltb, le-leb, lt-leb, eq-eqb, eqb-true, leb-true}
use Rattle.connectivity.specs.Plan.{Plan, Limits}
use Rattle.connectivity.specs.Admission.{answer, Admitted, admission}
use Rattle.connectivity.proofs.Admission.{admission_number}
use Rattle.text.specs.Column.{line, lines, line_size}
use Rattle.text.specs.Plan.{Writing, header_of, plan_text, write_plan}
use Rattle.text.specs.Verdict.{per_line, lines_of, needed, count_of, is_refusal, count_fits, has_text, verdict_text, write_verdict}
use Rattle.text.specs.Lines.{write_text, write_lines}
use Rattle.text.proofs.Laws.{and_true, length-line}

pub length-lines : (ws : List ℕ) (k m : ℕ) (list : List ℕ) → k * m ≤ length list → length (lines ws k m list) ≡ m * line_size ws k
unfolding lines
length-lines ws k zero list h = omega arith
length-lines ws k (suc m) list h =
    let l : length (take k list) ≡ k = length-take-le k list (omega (arith, mul-suc k m)) in
    let p : length (line ws (take k list)) ≡ line_size ws k = length-line ws (take k list) ∙ ap (line_size ws) l in
    let r = length-lines ws k m (drop k list) (omega (arith, mul-suc k m, length-drop k list)) in
    omega (arith, length-append (line ws (take k list)) (lines ws k m (drop k list)), p, r, suc-mul m (line_size ws k))

abbrev refusal : ℕ → Writing
refusal k = Writing.refused (answer k 0)

-- writing a text
module _ (text : List ℕ) (space : ℕ) where
  pub text_short : space < length text → write_text text space ≡ refusal 6
  unfolding write_text
  text_short h = rw (lt-ltb space (length text) h)

  pub text_written : length text ≤ space → write_text text space ≡ Writing.written text
  unfolding write_text
  text_written h = rw (le-ltb space (length text) h)

-- writing lines alone
module _ (ws : List ℕ) (columns : ℕ) (list : List ℕ) where
  abbrev whole : List ℕ
  whole = lines ws columns (length list / columns) list

  pub length_whole : length whole ≡ length list / columns * line_size ws columns
  length_whole = length-lines ws columns (length list / columns) list (mul-div-le (length list) columns)

  -- a quotient tells whether they fit
  pub whole_more : (space : ℕ) → space / line_size ws columns < length list / columns → space < length whole
  whole_more space h = omega (arith, length_whole, (div-lt_iff_lt-mul {k = line_size ws columns} (omega arith)).0 h)

  pub whole_fits : (space : ℕ) → length list / columns ≤ space / line_size ws columns → length whole ≤ space
  whole_fits space h = omega (arith, length_whole, (le-div_iff_mul-le {k = line_size ws columns} (omega arith)).0 h)

  module _ (space : ℕ) where
    pub few_columns : columns < 1 → write_lines ws columns list space ≡ refusal 8
    unfolding write_lines
    few_columns h = rw (lt-leb 1 columns h)

    module _ (one : 1 ≤ columns) where
      pub many_columns : 3 < columns → write_lines ws columns list space ≡ refusal 8
      unfolding write_lines
      many_columns h = rw (le-leb 1 columns one, lt-leb columns 3 h)

      pub in_columns : columns ≤ 3 → write_lines ws columns list space ≡ write_text whole space
      unfolding write_lines
      in_columns h = rw (le-leb 1 columns one, le-leb columns 3 h)

-- the header of a plan without excluded vertices, and of one with some
module _ (p : Plan) where
  pub header_two : length p.excluded ≡ 0 → header_of p ≡ p.vertices ∷ (length p.ends / 2 ∷ [])
  unfolding header_of
  header_two z = rw (eq-eqb (length p.excluded) 0 z)

  pub header_three : (length p.excluded ≡ 0 → ⊥) → header_of p ≡ p.vertices ∷ (length p.ends / 2 ∷ (length p.excluded ∷ []))
  unfolding header_of
  header_three h = rw (ne_eqb (length p.excluded) 0 h)

  pub header_size_lem : length (header_of p) ≡ cond (eqb (length p.excluded) 0) 2 3
  unfolding header_of
  header_size_lem = go (eqb (length p.excluded) 0)
    where
      go : (t : Bool) → length (p.vertices ∷ (length p.ends / 2 ∷ cond t [] (length p.excluded ∷ []))) ≡ cond t 2 3
      go true = refl
      go false = refl

  pub header_most : length (header_of p) ≤ 3
  header_most = rw header_size_lem (go (eqb (length p.excluded) 0))
    where
      go : (t : Bool) → cond t 2 3 ≤ 3
      go true = omega arith
      go false = omega arith

  -- it is the front of the three counts
  pub header_front : take (length (header_of p)) (p.vertices ∷ (length p.ends / 2 ∷ (length p.excluded ∷ []))) ≡ header_of p
  unfolding header_of
  header_front = go (eqb (length p.excluded) 0)
    where
      xs : Bool → List ℕ
      xs t = p.vertices ∷ (length p.ends / 2 ∷ cond t [] (length p.excluded ∷ []))

      go : (t : Bool) → take (length (xs t)) (p.vertices ∷ (length p.ends / 2 ∷ (length p.excluded ∷ []))) ≡ xs t
      go true = refl
      go false = refl

-- writing a plan
module _ (ws : List ℕ) (limits : Limits) (p : Plan) (space : ℕ) where
  pub plan-refused : (Admitted limits p → ⊥) → write_plan ws limits p space ≡ Writing.refused (admission limits p)
  unfolding write_plan
  plan-refused h = rw (ne_eqb (admission limits p).number 0 (λ z. h ((admission_number limits p).0 z)))

  module _ (a : Admitted limits p) where
    pub length-plan : length (plan_text ws p) ≡ line_size ws (length (header_of p)) + length p.ends / 2 * line_size ws 2 + length p.excluded * line_size ws 1
    unfolding plan_text
    length-plan =
        let m = length p.ends / 2 in
        let k = length p.excluded in
        omega (
          arith,
          length-append (line ws (header_of p)) (lines ws 2 m p.ends ++ lines ws 1 k p.excluded),
          length-append (lines ws 2 m p.ends) (lines ws 1 k p.excluded),
          length-line ws (header_of p),
          length-lines ws 2 m p.ends (omega (arith, a.even)),
          length-lines ws 1 k p.excluded (omega arith),
        )

    pub plan_short : space < length (plan_text ws p) → write_plan ws limits p space ≡ refusal 6
    unfolding write_plan
    plan_short h = rw (eq-eqb (admission limits p).number 0 ((admission_number limits p).1 a), lt-ltb space (length (plan_text ws p)) h)

    pub plan_written : length (plan_text ws p) ≤ space → write_plan ws limits p space ≡ Writing.written (plan_text ws p)
    unfolding write_plan
    plan_written h = rw (eq-eqb (admission limits p).number 0 ((admission_number limits p).1 a), le-ltb space (length (plan_text ws p)) h)

-- the shape of a verdict's text
pub per_line_most : (kind : ℕ) → per_line kind ≤ 3
unfolding per_line
per_line_most kind = go (eqb kind 0)
  where
    go : (t : Bool) → cond t 3 1 ≤ 3
    go true = omega arith
    go false = omega arith

pub lines_of_most : (kind count : ℕ) → lines_of kind count ≤ count
unfolding lines_of
lines_of_most kind count = go (eqb kind 2)
  where
    go : (t : Bool) → cond t 0 count ≤ count
    go true = omega arith
    go false = omega arith

refusal_most : (number : ℕ) → is_refusal number ≡ true → number ≤ 19
unfolding is_refusal
refusal_most number = go (leb 1 number) (leb number 7) refl (leb 18 number) (leb number 19) refl
  where
    go : (a b : Bool) → leb number 7 ≡ b → (c d : Bool) → leb number 19 ≡ d → ((a && b) || (c && d)) ≡ true → number ≤ 19
    go a true p c d q r = omega (arith, leb-true number 7 p)
    go a false p c true q r = leb-true number 19 q
    go true false p true false q r = let z : ◌≡◌ {A = ℕ} 0 1 = cc in absurd (omega arith)
    go true false p false false q r = let z : ◌≡◌ {A = ℕ} 0 1 = cc in absurd (omega arith)
    go false false p true false q r = let z : ◌≡◌ {A = ℕ} 0 1 = cc in absurd (omega arith)
    go false false p false false q r = let z : ◌≡◌ {A = ℕ} 0 1 = cc in absurd (omega arith)

pub count_most : (limits : Limits) (kind count : ℕ) → count_fits limits kind count ≡ true → (count ≤ limits.edges) ⊎ (count ≤ 19)
unfolding count_fits
count_most limits kind count = go (eqb kind 0) (eqb kind 1) (eqb kind 2)
  where
    go : (r s t : Bool) → cond r (leb count limits.edges) (cond s (leb count 2) (cond t (is_refusal count) false)) ≡ true → (count ≤ limits.edges) ⊎ (count ≤ 19)
    go true s t p = inl (leb-true count limits.edges p)
    go false true t p = inr (omega (arith, leb-true count 2 p))
    go false false true p = inr (refusal_most count p)
    go false false false p = let z : ◌≡◌ {A = ℕ} 0 1 = cc in absurd (omega arith)

pub kind_most : (limits : Limits) (kind count : ℕ) → count_fits limits kind count ≡ true → kind ≤ 2
unfolding count_fits
kind_most limits kind count = go (eqb kind 0) refl (eqb kind 1) refl (eqb kind 2) refl
  where
    go : (r : Bool) → eqb kind 0 ≡ r → (s : Bool) → eqb kind 1 ≡ s → (t : Bool) → eqb kind 2 ≡ t
        → cond r (leb count limits.edges) (cond s (leb count 2) (cond t (is_refusal count) false)) ≡ true → kind ≤ 2
    go true a s b t c p = omega (arith, eqb-true kind 0 a)
    go false a true b t c p = omega (arith, eqb-true kind 1 b)
    go false a false b true c p = omega (arith, eqb-true kind 2 c)
    go false a false b false c p = let z : ◌≡◌ {A = ℕ} 0 1 = cc in absurd (omega arith)

pub lines-needed : (kind count : ℕ) → (lines_of kind count ≤ count) × (per_line kind * lines_of kind count ≤ needed kind count)
unfolding lines_of needed
lines-needed kind count = go (eqb kind 2)
  where
    go : (t : Bool) → (cond t 0 count ≤ count) × (per_line kind * cond t 0 count ≤ cond t 1 (per_line kind * count))
    go true = (omega arith, omega (arith, mul-zero (per_line kind)))
    go false = (omega arith, omega arith)

-- a verdict has a text form exactly if its header is in the form and it has just as many numbers as that needs
and_swap : (a b : Bool) → (a && b) ≡ (b && a)
and_swap true true = refl
and_swap true false = refl
and_swap false true = refl
and_swap false false = refl

thirds : (n : ℕ) → eqb (n % 3) 0 ≡ eqb n (3 * (n / 3))
thirds n = elim (ℕ_discrete (n % 3) 0) [
  | yes p ↦ eq-eqb (n % 3) 0 p ∙ sym (eq-eqb n (3 * (n / 3)) (omega arith))
  | no p ↦ ne_eqb (n % 3) 0 p ∙ sym (ne_eqb n (3 * (n / 3)) (λ q. p (omega arith)))
]

pub has_text_is : (limits : Limits) (kind : ℕ) (list : List ℕ)
    → has_text limits kind list ≡ (count_fits limits kind (count_of kind list) && eqb (length list) (needed kind (count_of kind list)))
unfolding has_text count_fits count_of needed per_line
has_text_is limits kind list = go (ℕ_discrete kind 0) (ℕ_discrete kind 1) (ℕ_discrete kind 2)
  where
    n : ℕ
    n = length list

    rows : (eqb (n % 3) 0 && leb (n / 3) limits.edges) ≡ (leb (n / 3) limits.edges && eqb n (3 * (n / 3)))
    rows = and_swap (eqb (n % 3) 0) (leb (n / 3) limits.edges) ∙ ap (λ (b : Bool). leb (n / 3) limits.edges && b) (thirds n)

    singles : leb n 2 ≡ (leb (n / 1) 2 && eqb n (1 * (n / 1)))
    singles = let p : n / 1 ≡ n = omega arith in let q : n ≡ 1 * n = omega arith in rw (p, eq-eqb n (1 * n) q) (and_swap true (leb n 2))

    go : Dec (kind ≡ 0) → Dec (kind ≡ 1) → Dec (kind ≡ 2)
        → has_text limits kind list ≡ (count_fits limits kind (count_of kind list) && eqb n (needed kind (count_of kind list)))
    go (yes a) b c = let two : kind ≡ 2 → ⊥ = λ q. omega arith in rw (eq-eqb kind 0 a, ne_eqb kind 2 two) rows
    go (no a) (yes b) c = let two : kind ≡ 2 → ⊥ = λ q. omega arith in rw (ne_eqb kind 0 a, eq-eqb kind 1 b, ne_eqb kind 2 two) singles
    go (no a) (no b) (yes c) = rw (ne_eqb kind 0 a, ne_eqb kind 1 b, eq-eqb kind 2 c) (and_swap (eqb n 1) (is_refusal (get_or list 0 0)))
    go (no a) (no b) (no c) = rw (ne_eqb kind 0 a, ne_eqb kind 1 b, ne_eqb kind 2 c)

-- writing a verdict
module _ (ws : List ℕ) (limits : Limits) (kind : ℕ) (list : List ℕ) (space : ℕ) where
  pub no_form : has_text limits kind list ≡ false → write_verdict ws limits kind list space ≡ refusal 8
  unfolding write_verdict
  no_form h = rw h

  module _ (h : has_text limits kind list ≡ true) where
    pub form : (count_fits limits kind (count_of kind list) ≡ true) × (length list ≡ needed kind (count_of kind list))
    form =
        let q = and_true (count_fits limits kind (count_of kind list)) (eqb (length list) (needed kind (count_of kind list))) (sym (has_text_is limits kind list) ∙ h) in
        (q.0, eqb-true (length list) (needed kind (count_of kind list)) q.1)

    pub length-verdict : length (verdict_text ws kind list) ≡ line_size ws 2 + lines_of kind (count_of kind list) * line_size ws (per_line kind)
    unfolding verdict_text
    length-verdict =
        let k = per_line kind in
        let m = lines_of kind (count_of kind list) in
        let header = kind ∷ (count_of kind list ∷ []) in
        omega (
          arith,
          length-append (line ws header) (lines ws k m list),
          length-line ws header,
          length-lines ws k m list (omega (arith, form.1, (lines-needed kind (count_of kind list)).1)),
        )

    pub verdict_short : space < length (verdict_text ws kind list) → write_verdict ws limits kind list space ≡ refusal 6
    unfolding write_verdict
    verdict_short z = rw (h, lt-ltb space (length (verdict_text ws kind list)) z)

    pub verdict_written : length (verdict_text ws kind list) ≤ space → write_verdict ws limits kind list space ≡ Writing.written (verdict_text ws kind list)
    unfolding write_verdict
    verdict_written z = rw (h, le-ltb space (length (verdict_text ws kind list)) z)

-- where the limit of edges is not below the refusals of kind 2, it bounds every count, and so the size of the lines
pub count_small : (limits : Limits) → 19 ≤ limits.edges → (kind count : ℕ) → count_fits limits kind count ≡ true → count ≤ limits.edges
count_small limits high kind count h = ⊎_elim (λ p. p) (λ p. omega arith) (count_most limits kind count h)

pub verdict_size : (ws : List ℕ) (limits : Limits) → 19 ≤ limits.edges → (kind : ℕ) (list : List ℕ) → has_text limits kind list ≡ true
    → (count_of kind list ≤ limits.edges) × (lines_of kind (count_of kind list) * line_size ws (per_line kind) ≤ limits.edges * line_size ws 3)
verdict_size ws limits high kind list h =
    let few = count_small limits high kind (count_of kind list) (form ws limits kind list 0 h).0 in
    let m : lines_of kind (count_of kind list) ≤ limits.edges = omega (arith, (lines-needed kind (count_of kind list)).0) in
    let k : line_size ws (per_line kind) ≤ line_size ws 3 = omega (arith, mul-le-mul_right (length ws) (per_line_most kind)) in
    (few, mul-le-mul m k)
