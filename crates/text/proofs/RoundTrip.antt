-- A text that is read is the text written of what was read, for all byte lists; and what is written of an admitted plan, or of a verdict
-- with a text form, is read as the same. Stated for any worths, largest value and limits; the columns of w digits are the last section's.
use mathlib.Core.Path.{◌≡◌, refl, sym, ap, ◌∙◌, subst}
use mathlib.Core.Bool.{Bool, true, false, cond, ◌&&◌}
use mathlib.Core.Logic.{⊎_elim}
use mathlib.Core.List.Memᴰ.{head as first}
use mathlib.Core.List.Memᴰ.{tail as later}
use mathlib.Core.List.{List, [], ◌∷◌, ◌++◌, append_assoc, append-nil, Memᴰ as In}
use Prim.Native.Nat.{ℕ, zero, suc, ◌+◌, ◌*◌, ◌/◌, ◌%◌, ◌^◌, ◌≤◌, ◌<◌}
use native.Mathlib.Omega.{arith}
use native.Mathlib.Nat.{suc-mul, mul-suc, mul-zero, mul-div_cancel_left}
use native.Mathlib.Decide.{ℕ_discrete, dec_lt}
use lib.Dec.{eqb, ltb, leb}
use lib.ListN.{length, take, drop, get_or, length-take, length-drop, take-append-drop, drop_of_length-le, get_or-eq_default}
use lib.Seq.{take_at, drop_at, drop-drop, length-take-le, get_or-take, get_or-drop}
use borrow.Author.Tests.{le-leb, leb-true, le-ltb, eq-eqb, ne_eqb, eqb-true}
use Rattle.connectivity.specs.Plan.{Plan, plan, Limits}
use Rattle.connectivity.specs.Admission.{Answer, Admitted, admission}
use Rattle.connectivity.proofs.Admission.{admission_number}
use Rattle.connectivity.proofs.Kept.{admitted_count}
use Rattle.text.specs.Column.{worths, byte_at, column, line, lines, line_size, value, same, column_fits, line_fits, numbers, lines_begin, behind_lines, lines_fit, lines_numbers}
use Rattle.text.specs.Plan.{PlanReading, Writing, header_of, plan_text, header_first, header_second, behind_header, header_third, header_fits, edge_lines, excluded_lines, spelled, listed_answer, read_answer, read_plan, write_plan}
use Rattle.text.specs.Verdict.{VerdictReading, per_line, lines_of, needed, count_of, count_fits, has_text, verdict_text, list_read, read_verdict, write_verdict}
use Rattle.text.proofs.Laws.{and_true, same_true, same_refl, length-column, column_true, size_suc, length-line, length-numbers, lines_last, fit_some, fit_true}
use Rattle.text.proofs.Reading.{no_verdict, length-lines-numbers, short_header, short_third, short_lines, long_header, long_third, long_lines, to_lines, Met, met, read-listed, verdict-fits, refusal-read, lines-read}
use Rattle.text.proofs.Writing.{length-lines, header_two, header_three, form, count_most, kind_most, has_text_is, plan_written, verdict_written}
use Rattle.text.proofs.Digits.{read_back}

and_false : (a : Bool) → (a && false) ≡ false
and_false true = refl
and_false false = refl

-- every byte list that fits is what writing gives

line_is : (ws : List ℕ) (most k : ℕ) (text : List ℕ) → line_fits ws most k text ≡ true → text ≡ line ws (numbers ws k text) ++ drop (line_size ws k) text
unfolding line_fits numbers line
line_is ws most zero text p =
    let q : 0 * length ws + 1 ≡ 1 = omega arith in
    rw q (sym (take-append-drop 1 text) ∙ ap (λ (l : List ℕ). l ++ drop 1 text) (same_true (take 1 text) (10 ∷ []) p))
line_is ws most (suc k) text p =
    let w = length ws in
    let q = and_true (column_fits ws most (take w text)) (line_fits ws most k (drop w text)) p in
    let c = (column_true ws most (take w text) q.0).1 in
    let r = line_is ws most k (drop w text) q.1 in
    let s : drop (line_size ws k) (drop w text) ≡ drop (line_size ws (suc k)) text = drop-drop (line_size ws k) w text ∙ ap (λ (n : ℕ). drop n text) (sym (size_suc ws k)) in
    sym (take-append-drop w text) ∙ ap (λ (l : List ℕ). l ++ drop w text) (sym c)
    ∙ ap (λ (l : List ℕ). column ws (value ws (take w text)) ++ l) (r ∙ ap (λ (l : List ℕ). line ws (numbers ws k (drop w text)) ++ l) s)
    ∙ sym (append_assoc (column ws (value ws (take w text))) (line ws (numbers ws k (drop w text))) (drop (line_size ws (suc k)) text))

begun_is : (ws : List ℕ) (most k m : ℕ) (text : List ℕ) → lines_begin ws most k m text ≡ true → text ≡ lines ws k m (lines_numbers ws k m text) ++ behind_lines ws k m text
unfolding lines_begin lines_numbers lines
begun_is ws most k zero text p = let q : 0 * line_size ws k ≡ 0 = omega arith in rw q
begun_is ws most k (suc m) text p =
    let size = line_size ws k in
    let rest = drop size text in
    let q = and_true (line_fits ws most k text) (lines_begin ws most k m rest) p in
    let n = numbers ws k text in
    let r = lines_numbers ws k m rest in
    let t : size + m * size ≡ suc m * size = omega (arith, suc-mul m size) in
    let s : drop (m * size) rest ≡ drop (suc m * size) text = drop-drop (m * size) size text ∙ ap (λ (j : ℕ). drop j text) t in
    line_is ws most k text q.0
    ∙ ap (λ (l : List ℕ). line ws n ++ l) (begun_is ws most k m rest q.1 ∙ ap (λ (l : List ℕ). lines ws k m r ++ l) s)
    ∙ sym (append_assoc (line ws n) (lines ws k m r) (drop (suc m * size) text))
    ∙ sym (rw (take_at n r k (length-numbers ws k text), drop_at n r k (length-numbers ws k text)))

lines_are : (ws : List ℕ) (most k m : ℕ) (text : List ℕ) → lines_fit ws most k m text ≡ true → text ≡ lines ws k m (lines_numbers ws k m text)
lines_are ws most k m text p =
    let q = fit_true ws most k m text p in
    let l = lines ws k m (lines_numbers ws k m text) in
    begun_is ws most k m text q.0 ∙ ap (λ (r : List ℕ). l ++ r) (drop_of_length-le text {i = m * line_size ws k} (omega (arith, q.1))) ∙ append-nil l

-- what is written of numbers not above the largest value fits, and gives these numbers
module _ (ws : List ℕ) (most : ℕ) (exact : (x : ℕ) → x ≤ most → value ws (column ws x) ≡ x) where
  column_fits_lem : (x : ℕ) → x ≤ most → column_fits ws most (column ws x) ≡ true
  unfolding column_fits
  column_fits_lem x h = rw (exact x h, le-leb x most h) (same_refl (column ws x))

  module _ (x : ℕ) (t : List ℕ) where
    first_column : take (length ws) (column ws x ++ t) ≡ column ws x
    first_column = take_at (column ws x) t (length ws) (length-column ws x)

    behind_column : drop (length ws) (column ws x ++ t) ≡ t
    behind_column = drop_at (column ws x) t (length ws) (length-column ws x)

  line-fits : (xs rest : List ℕ) → ((i : ℕ) → get_or xs i 0 ≤ most) → line_fits ws most (length xs) (line ws xs ++ rest) ≡ true
  unfolding line_fits line same
  line-fits [] rest h = refl
  line-fits (x ∷ xs) rest h =
      rw (append_assoc (column ws x) (line ws xs) rest, first_column x (line ws xs ++ rest), behind_column x (line ws xs ++ rest), column_fits_lem x (h 0))
      (line-fits xs rest (λ i. h (suc i)))

  numbers_back : (xs rest : List ℕ) → ((i : ℕ) → get_or xs i 0 ≤ most) → numbers ws (length xs) (line ws xs ++ rest) ≡ xs
  unfolding numbers line
  numbers_back [] rest h = refl
  numbers_back (x ∷ xs) rest h =
      rw (append_assoc (column ws x) (line ws xs) rest, first_column x (line ws xs ++ rest), behind_column x (line ws xs ++ rest), exact x (h 0))
      (ap (λ (l : List ℕ). x ∷ l) (numbers_back xs rest (λ i. h (suc i))))

  behind_line : (xs rest : List ℕ) → drop (line_size ws (length xs)) (line ws xs ++ rest) ≡ rest
  behind_line xs rest = drop_at (line ws xs) rest (line_size ws (length xs)) (length-line ws xs)

  part_most : (k : ℕ) (list : List ℕ) → ((i : ℕ) → get_or list i 0 ≤ most) → (i : ℕ) → get_or (take k list) i 0 ≤ most
  part_most k list h i = elim (dec_lt i k) [
    | yes p ↦ rw (get_or-take k list i 0 p) (h i)
    | no p ↦ omega (arith, get_or-eq_default (take k list) 0 {n = i} (omega (arith, length-take k list)))
  ]

  rest_most : (k : ℕ) (list : List ℕ) → ((i : ℕ) → get_or list i 0 ≤ most) → (i : ℕ) → get_or (drop k list) i 0 ≤ most
  rest_most k list h i = rw (get_or-drop k list i 0) (h (k + i))

  begun_back : (k m : ℕ) (list behind : List ℕ) → k * m ≡ length list → ((i : ℕ) → get_or list i 0 ≤ most)
      → (lines_begin ws most k m (lines ws k m list ++ behind) ≡ true) × (lines_numbers ws k m (lines ws k m list ++ behind) ≡ list)
  unfolding lines_begin lines_numbers lines
  begun_back k zero [] behind e h = (refl, refl)
  begun_back k zero (x ∷ list) behind e h = absurd (omega (arith, mul-zero k))
  begun_back k (suc m) list behind e h =
      let xs = take k list in
      let rest = lines ws k m (drop k list) ++ behind in
      let l : length xs ≡ k = length-take-le k list (omega (arith, mul-suc k m)) in
      let r = begun_back k m (drop k list) behind (omega (arith, mul-suc k m, length-drop k list)) (rest_most k list h) in
      let a : line_fits ws most k (line ws xs ++ rest) ≡ true = rw l at (line-fits xs rest (part_most k list h)) in
      let b : numbers ws k (line ws xs ++ rest) ≡ xs = rw l at (numbers_back xs rest (part_most k list h)) in
      let d : drop (line_size ws k) (line ws xs ++ rest) ≡ rest = rw l at (behind_line xs rest) in
      rw (append_assoc (line ws xs) (lines ws k m (drop k list)) behind, a, b, d) (r.0, rw r.1 (take-append-drop k list))

  behind_begun : (k m : ℕ) (list behind : List ℕ) → k * m ≡ length list → behind_lines ws k m (lines ws k m list ++ behind) ≡ behind
  behind_begun k m list behind e = drop_at (lines ws k m list) behind (m * line_size ws k) (length-lines ws k m list (omega arith))

  lines_back : (k m : ℕ) (list : List ℕ) → k * m ≡ length list → ((i : ℕ) → get_or list i 0 ≤ most)
      → (lines_fit ws most k m (lines ws k m list) ≡ true) × (lines_numbers ws k m (lines ws k m list) ≡ list)
  lines_back k m list e h =
      let l = lines ws k m list in
      let r = rw (append-nil l) at (begun_back k m list [] e h) in
      (fit_some ws most k m l r.0 ∙ eq-eqb (length l) (m * line_size ws k) (length-lines ws k m list (omega arith)), r.1)

-- plan text

not_read : {A : Type 0} (a : Answer) (q : Plan) → PlanReading.refused a ≡ PlanReading.read q → A
not_read a q p = let z : ◌≡◌ {A = ℕ} 0 1 = cc in absurd (omega arith)

header_is : (ws text : List ℕ) → numbers ws 2 text ≡ header_first ws text ∷ header_second ws text ∷ []
unfolding numbers
header_is ws text = refl

-- a text with a header in the form
headed : (ws : List ℕ) (most : ℕ) (text : List ℕ) → line_fits ws most 2 text ≡ true
    → text ≡ line ws (header_first ws text ∷ header_second ws text ∷ []) ++ behind_header ws text
headed ws most text h = line_is ws most 2 text h ∙ ap (λ (l : List ℕ). line ws l ++ behind_header ws text) (header_is ws text)

-- the same of a plan's header, of two columns or three
module _ (ws : List ℕ) (most : ℕ) (text : List ℕ) where
  abbrev drawn : Plan
  drawn = spelled ws most text

  half : length drawn.ends / 2 ≡ header_second ws text
  half = omega (arith, length-lines-numbers ws 2 (header_second ws text) (edge_lines ws most text))

  named : length drawn.excluded ≡ header_third ws most text
  named = omega (arith, length-lines-numbers ws 1 (header_third ws most text) (excluded_lines ws most text))

  three_numbers : line_fits ws most 2 text ≡ false → numbers ws 3 text ≡ header_first ws text ∷ header_second ws text ∷ header_third ws most text ∷ []
  unfolding numbers
  three_numbers h = rw (long_third ws most text h)

  plan_headed : header_fits ws most text ≡ true → text ≡ line ws (header_of drawn) ++ edge_lines ws most text
  plan_headed f = go (line_fits ws most 2 text) refl
    where
      go : (t : Bool) → line_fits ws most 2 text ≡ t → text ≡ line ws (header_of drawn) ++ edge_lines ws most text
      go true h =
          let z : length drawn.excluded ≡ 0 = named ∙ short_third ws most text h in
          headed ws most text h ∙ rw (header_two drawn z, half, short_lines ws most text h)
      go false h =
          let q = and_true (line_fits ws most 3 text) (leb 1 (header_third ws most text) && leb (header_third ws most text) (header_first ws text)) (sym (long_header ws most text h) ∙ f) in
          let some = leb-true 1 (header_third ws most text) (and_true (leb 1 (header_third ws most text)) (leb (header_third ws most text) (header_first ws text)) q.1).0 in
          line_is ws most 3 text q.0 ∙ rw (three_numbers h, header_three drawn (λ z. omega (arith, named)), half, named, long_lines ws most text h)

-- what a plan text that is read lists, and the tests that it has met
plan-read : (ws : List ℕ) (most : ℕ) (limits : Limits) (text : List ℕ) (space : ℕ) (p : Plan)
    → read_plan ws most limits text space ≡ PlanReading.read p → Met ws most limits text space × (spelled ws most text ≡ p)
unfolding read_plan
plan-read ws most limits text space p = go (eqb (read_answer ws most limits text space).number 0) refl
  where
    go : (t : Bool) → eqb (read_answer ws most limits text space).number 0 ≡ t
        → cond t (PlanReading.read (spelled ws most text)) (PlanReading.refused (read_answer ws most limits text space)) ≡ PlanReading.read p
        → Met ws most limits text space × (spelled ws most text ≡ p)
    go true z q = (met ws most limits text space (eqb-true (read_answer ws most limits text space).number 0 z), cc)
    go false z q = not_read _ _ q

-- 01: each text that is read is the very text that writing gives
pub plan_is : (ws : List ℕ) (most : ℕ) (limits : Limits) (text : List ℕ) (space : ℕ) (p : Plan)
    → read_plan ws most limits text space ≡ PlanReading.read p → text ≡ plan_text ws p
unfolding plan_text
plan_is ws most limits text space p h =
    let r = plan-read ws most limits text space p h in
    let d = spelled ws most text in
    let edges = begun_is ws most 2 (header_second ws text) (edge_lines ws most text) r.0.edges in
    let excluded = lines_are ws most 1 (header_third ws most text) (excluded_lines ws most text) r.0.excluded in
    plan_headed ws most text r.0.header
    ∙ ap (λ (l : List ℕ). line ws (header_of d) ++ l) (edges ∙ ap (λ (l : List ℕ). lines ws 2 (header_second ws text) d.ends ++ l) excluded)
    ∙ ap (λ (m : ℕ). line ws (header_of d) ++ (lines ws 2 m d.ends ++ lines ws 1 (header_third ws most text) d.excluded)) (sym (half ws most text))
    ∙ ap (λ (k : ℕ). line ws (header_of d) ++ (lines ws 2 (length d.ends / 2) d.ends ++ lines ws 1 k d.excluded)) (sym (named ws most text))
    ∙ ap (plan_text ws) r.1

-- verdict text

never_read : {A : Type 0} (a : Answer) (n : ℕ) (list : List ℕ) → VerdictReading.refused a ≡ VerdictReading.read n list → A
never_read a n list p = let z : ◌≡◌ {A = ℕ} 0 1 = cc in absurd (omega arith)

pub per_line_some : (kind : ℕ) → 0 < per_line kind
unfolding per_line
per_line_some kind = go (eqb kind 0)
  where
    go : (t : Bool) → 0 < cond t 3 1
    go true = omega arith
    go false = omega arith

no_lines_are : (ws : List ℕ) (most k : ℕ) (rest list : List ℕ) → lines_fit ws most k 0 rest ≡ true → rest ≡ lines ws k 0 list
unfolding lines
no_lines_are ws most k rest list h = lines_are ws most k 0 rest h

module _ (ws : List ℕ) (most kind count : ℕ) (rest : List ℕ) where
  count_back : count_of kind (list_read ws kind count rest) ≡ count
  unfolding count_of
  count_back = elim (ℕ_discrete kind 2) [
    | yes p ↦ rw (eq-eqb kind 2 p, (refusal-read ws kind count rest p).0)
    | no p ↦ rw (ne_eqb kind 2 p, (lines-read ws kind count rest p).0, length-lines-numbers ws (per_line kind) count rest) (mul-div_cancel_left count (per_line_some kind))
  ]

  verdict-lines : lines_fit ws most (per_line kind) (lines_of kind count) rest ≡ true → rest ≡ lines ws (per_line kind) (lines_of kind count) (list_read ws kind count rest)
  unfolding lines_of
  verdict-lines = elim (ℕ_discrete kind 2) [
    | yes p ↦ rw (eq-eqb kind 2 p) (no_lines_are ws most (per_line kind) rest (list_read ws kind count rest))
    | no p ↦ rw (ne_eqb kind 2 p, (lines-read ws kind count rest p).0) (lines_are ws most (per_line kind) count rest)
  ]

-- the tests that a verdict text has met once it is read, and what was read
record VerdictRead (ws : List ℕ) (most : ℕ) (limits : Limits) (text : List ℕ) (kind : ℕ) (list : List ℕ) : Type 0 where
  header : (line_fits ws most 2 text && count_fits limits (header_first ws text) (header_second ws text)) ≡ true
  fit : lines_fit ws most (per_line (header_first ws text)) (lines_of (header_first ws text) (header_second ws text)) (behind_header ws text) ≡ true
  same_kind : header_first ws text ≡ kind
  found : list_read ws (header_first ws text) (header_second ws text) (behind_header ws text) ≡ list

verdict-read : (ws : List ℕ) (most : ℕ) (limits : Limits) (text : List ℕ) (space kind : ℕ) (list : List ℕ)
    → read_verdict ws most limits text space ≡ VerdictReading.read kind list → VerdictRead ws most limits text kind list
unfolding read_verdict
verdict-read ws most limits text space kind list p =
    go (line_fits ws most 2 text && count_fits limits first count) refl (ltb space (needed first count)) (lines_fit ws most (per_line first) (lines_of first count) rest) refl p
  where
    first : ℕ
    first = header_first ws text

    count : ℕ
    count = header_second ws text

    rest : List ℕ
    rest = behind_header ws text

    go : (a : Bool) → (line_fits ws most 2 text && count_fits limits first count) ≡ a → (d f : Bool) → lines_fit ws most (per_line first) (lines_of first count) rest ≡ f
        → cond a (cond d (no_verdict 6) (cond f (VerdictReading.read first (list_read ws first count rest)) (no_verdict 8))) (no_verdict 8)
        ≡ VerdictReading.read kind list
        → VerdictRead ws most limits text kind list
    go false h d f k q = never_read _ _ _ q
    go true h true f k q = never_read _ _ _ q
    go true h false false k q = never_read _ _ _ q
    go true h false true k q = record { header = h; fit = k; same_kind = cc; found = cc }

-- 01: each text that is read is the very text that writing gives
pub verdict_is : (ws : List ℕ) (most : ℕ) (limits : Limits) (text : List ℕ) (space kind : ℕ) (list : List ℕ)
    → read_verdict ws most limits text space ≡ VerdictReading.read kind list → text ≡ verdict_text ws kind list
unfolding verdict_text
verdict_is ws most limits text space kind list p =
    let r = verdict-read ws most limits text space kind list p in
    let first = header_first ws text in
    let count = header_second ws text in
    let rest = behind_header ws text in
    let found = list_read ws first count rest in
    headed ws most text (and_true (line_fits ws most 2 text) (count_fits limits first count) r.header).0
    ∙ ap (λ (l : List ℕ). line ws (first ∷ count ∷ []) ++ l) (verdict-lines ws most first count rest r.fit)
    ∙ ap (λ (j : ℕ). line ws (first ∷ j ∷ []) ++ lines ws (per_line first) (lines_of first j) found) (sym (count_back ws most first count rest))
    ∙ ap (λ (j : ℕ). verdict_text ws j found) r.same_kind
    ∙ ap (verdict_text ws kind) r.found

-- what is read is an admitted plan, or a verdict with a text form

-- past the tests of its counts, admission is the judgement of the ends and of the excluded vertices
to_listed : (limits : Limits) (p : Plan) → length p.ends % 2 ≡ 0 → 2 ≤ p.vertices → p.vertices ≤ limits.vertices → length p.ends / 2 ≤ limits.edges
    → admission limits p ≡ listed_answer p
unfolding admission listed_answer
to_listed limits p even two few short =
    let size = length p.ends in
    rw (eq-eqb (size % 2) 0 even, le-ltb p.vertices 2 two, le-ltb limits.vertices p.vertices few, le-ltb limits.edges (size / 2) short)

admitted_listed : (limits : Limits) (p : Plan) → Admitted limits p → (listed_answer p).number ≡ 0
admitted_listed limits p a = ap (λ (x : Answer). x.number) (sym (to_listed limits p a.even a.two a.vertices a.edges)) ∙ (admission_number limits p).1 a

pub met_admitted : (ws : List ℕ) (most : ℕ) (limits : Limits) (text : List ℕ) (space : ℕ) → Met ws most limits text space → Admitted limits (spelled ws most text)
met_admitted ws most limits text space r =
    let p = spelled ws most text in
    let size = length-lines-numbers ws 2 (header_second ws text) (edge_lines ws most text) in
    let own = to_listed limits p (omega (arith, size)) r.two r.few (omega (arith, half ws most text, r.short)) in
    (admission_number limits p).0 (ap (λ (x : Answer). x.number) own ∙ r.own)

pub plan_admitted : (ws : List ℕ) (most : ℕ) (limits : Limits) (text : List ℕ) (space : ℕ) (p : Plan)
    → read_plan ws most limits text space ≡ PlanReading.read p → Admitted limits p
plan_admitted ws most limits text space p h =
    let r = plan-read ws most limits text space p h in
    subst (Admitted limits) r.1 (met_admitted ws most limits text space r.0)

module _ (ws : List ℕ) (kind count : ℕ) (rest : List ℕ) where
  length-read : length (list_read ws kind count rest) ≡ needed kind count
  length-read = elim (ℕ_discrete kind 2) [
    | yes p ↦ let r = refusal-read ws kind count rest p in ap length r.0 ∙ sym r.1
    | no p ↦ let r = lines-read ws kind count rest p in ap length r.0 ∙ length-lines-numbers ws (per_line kind) count rest ∙ sym r.1
  ]

pub verdict_has_text : (ws : List ℕ) (most : ℕ) (limits : Limits) (text : List ℕ) (space kind : ℕ) (list : List ℕ)
    → read_verdict ws most limits text space ≡ VerdictReading.read kind list → has_text limits kind list ≡ true
verdict_has_text ws most limits text space kind list p =
    let r = verdict-read ws most limits text space kind list p in
    let first = header_first ws text in
    let count = header_second ws text in
    let rest = behind_header ws text in
    let found = list_read ws first count rest in
    let fits = (and_true (line_fits ws most 2 text) (count_fits limits first count) r.header).1 in
    let whole : has_text limits first found ≡ true = has_text_is limits first found ∙ rw (count_back ws most first count rest, fits) (eq-eqb (length found) (needed first count) (length-read ws first count rest)) in
    subst (λ (l : List ℕ). has_text limits kind l ≡ true) r.found (subst (λ (x : ℕ). has_text limits x found ≡ true) r.same_kind whole)

-- so writing, with space enough, gives the text again
pub plan_again : (ws : List ℕ) (most : ℕ) (limits : Limits) (text : List ℕ) (space room : ℕ) (p : Plan)
    → read_plan ws most limits text space ≡ PlanReading.read p → length text ≤ room → write_plan ws limits p room ≡ Writing.written text
plan_again ws most limits text space room p r h =
    let same = plan_is ws most limits text space p r in
    plan_written ws limits p room (plan_admitted ws most limits text space p r) (subst (λ (l : List ℕ). length l ≤ room) same h) ∙ ap Writing.written (sym same)

pub verdict_again : (ws : List ℕ) (most : ℕ) (limits : Limits) (text : List ℕ) (space room kind : ℕ) (list : List ℕ)
    → read_verdict ws most limits text space ≡ VerdictReading.read kind list → length text ≤ room → write_verdict ws limits kind list room ≡ Writing.written text
verdict_again ws most limits text space room kind list p h =
    let same = verdict_is ws most limits text space kind list p in
    verdict_written ws limits kind list room (verdict_has_text ws most limits text space kind list p) (subst (λ (l : List ℕ). length l ≤ room) same h) ∙ ap Writing.written (sym same)

-- hence two different texts are never read as the same
pub plan_once : (ws : List ℕ) (most : ℕ) (limits : Limits) (one two : List ℕ) (space room : ℕ) (p : Plan)
    → read_plan ws most limits one space ≡ PlanReading.read p → read_plan ws most limits two room ≡ PlanReading.read p → one ≡ two
plan_once ws most limits one two space room p q r = plan_is ws most limits one space p q ∙ sym (plan_is ws most limits two room p r)

pub verdict_once : (ws : List ℕ) (most : ℕ) (limits : Limits) (one two : List ℕ) (space room kind : ℕ) (list : List ℕ)
    → read_verdict ws most limits one space ≡ VerdictReading.read kind list → read_verdict ws most limits two room ≡ VerdictReading.read kind list → one ≡ two
verdict_once ws most limits one two space room kind list p q = verdict_is ws most limits one space kind list p ∙ sym (verdict_is ws most limits two room kind list q)

-- what is written is read as the same

pair_most : (most a b : ℕ) → a ≤ most → b ≤ most → (i : ℕ) → get_or (a ∷ b ∷ []) i 0 ≤ most
pair_most most a b h k zero = h
pair_most most a b h k (suc zero) = k
pair_most most a b h k (suc (suc i)) = omega arith

ends_most : (limits : Limits) (p : Plan) (most : ℕ) → Admitted limits p → p.vertices ≤ most → (i : ℕ) → get_or p.ends i 0 ≤ most
ends_most limits p most a h i = elim (dec_lt i (length p.ends)) [
  | yes l ↦ elim (ℕ_discrete (i % 2) 0) [
    | yes q ↦ let e : i ≡ 2 * (i / 2) = omega arith in rw e (omega (arith, (a.fit (i / 2) (omega (arith, a.even))).left))
    | no q ↦ let e : i ≡ 2 * (i / 2) + 1 = omega arith in rw e (omega (arith, (a.fit (i / 2) (omega (arith, a.even))).right))
  ]
  | no l ↦ omega (arith, get_or-eq_default p.ends 0 {n = i} (omega arith))
]

triple_most : (most a b c : ℕ) → a ≤ most → b ≤ most → c ≤ most → (i : ℕ) → get_or (a ∷ b ∷ c ∷ []) i 0 ≤ most
triple_most most a b c h k l zero = h
triple_most most a b c h k l (suc i) = pair_most most b c k l i

excluded_most : (most : ℕ) (list : List ℕ) → ((v : ℕ) → In v list → v ≤ most) → (i : ℕ) → get_or list i 0 ≤ most
excluded_most most [] h i = omega arith
excluded_most most (x ∷ list) h zero = h x (first refl)
excluded_most most (x ∷ list) h (suc i) = excluded_most most list (λ v j. h v (later j)) i

-- a line of more numbers is no line of fewer: behind them stands a column, which does not begin with a line feed
first_byte : (p x : ℕ) → eqb (byte_at p x) 10 ≡ false
unfolding byte_at
first_byte p x = go (ltb 1 p && ltb x p)
  where
    go : (t : Bool) → eqb (cond t 32 (48 + x / p % 10)) 10 ≡ false
    go true = refl
    go false = ne_eqb (48 + x / p % 10) 10 (λ z. omega arith)

no_feed : (ws : List ℕ) (x : ℕ) (rest : List ℕ) → 0 < length ws → same (take 1 (column ws x ++ rest)) (10 ∷ []) ≡ false
unfolding column same
no_feed [] x rest h = absurd (omega arith)
no_feed (p ∷ ws) x rest h = rw (first_byte p x)

line_longer : (ws : List ℕ) (most k : ℕ) (xs rest : List ℕ) → 0 < length ws → k < length xs → line_fits ws most k (line ws xs ++ rest) ≡ false
unfolding line_fits line
line_longer ws most k [] rest w h = absurd (omega arith)
line_longer ws most zero (x ∷ xs) rest w h = rw (append_assoc (column ws x) (line ws xs) rest) (no_feed ws x (line ws xs ++ rest) w)
line_longer ws most (suc k) (x ∷ xs) rest w h =
    rw (append_assoc (column ws x) (line ws xs) rest, drop_at (column ws x) (line ws xs ++ rest) (length ws) (length-column ws x), line_longer ws most k xs rest w (omega arith))
    (and_false (column_fits ws most (take (length ws) (column ws x ++ (line ws xs ++ rest)))))

empty-fits : (ws : List ℕ) (most k m : ℕ) (list : List ℕ) → m ≡ 0 → lines_fit ws most k m (lines ws k m list) ≡ true
empty-fits ws most k m list p =
    let l = lines ws k m list in
    let none : k * m ≡ 0 = rw p (mul-zero k) in
    fit_some ws most k m l (lines_last ws most k m l p) ∙ eq-eqb (length l) (m * line_size ws k) (length-lines ws k m list (omega arith))

no_lines : (kind count : ℕ) → kind ≡ 2 → lines_of kind count ≡ 0
unfolding lines_of
no_lines kind count p = rw (eq-eqb kind 2 p)

count_two : (kind : ℕ) (list : List ℕ) → kind ≡ 2 → count_of kind list ≡ get_or list 0 0
unfolding count_of
count_two kind list p = rw (eq-eqb kind 2 p)

one_member : (list : List ℕ) → length list ≡ 1 → get_or list 0 0 ∷ [] ≡ list
one_member [] h = absurd (omega arith)
one_member (x ∷ []) h = refl
one_member (x ∷ y ∷ list) h = absurd (omega arith)

module _ (ws : List ℕ) (most : ℕ) (exact : (x : ℕ) → x ≤ most → value ws (column ws x) ≡ x) (limits : Limits) (edges : limits.edges ≤ most) where
  -- a number that is read back has a digit
  some_worth : 1 ≤ most → 0 < length ws
  unfolding value
  some_worth h = go ws (exact 1 h)
    where
      go : (l : List ℕ) → value l (column l 1) ≡ 1 → 0 < length l
      go [] p = absurd (omega arith)
      go (x ∷ l) p = omega arith

  -- the header of a text, and what stands behind it
  module _ (a b : ℕ) (rest : List ℕ) (h : a ≤ most) (k : b ≤ most) where
    header_fits_lem : line_fits ws most 2 (line ws (a ∷ b ∷ []) ++ rest) ≡ true
    header_fits_lem = line-fits ws most exact (a ∷ b ∷ []) rest (pair_most most a b h k)

    header_back : numbers ws 2 (line ws (a ∷ b ∷ []) ++ rest) ≡ a ∷ b ∷ []
    header_back = numbers_back ws most exact (a ∷ b ∷ []) rest (pair_most most a b h k)

    behind_back : behind_header ws (line ws (a ∷ b ∷ []) ++ rest) ≡ rest
    behind_back = behind_line ws most exact (a ∷ b ∷ []) rest

  -- a plan's header, of two columns or three
  module _ (p : Plan) (a : Admitted limits p) (vertices : limits.vertices ≤ most) (rest : List ℕ) where
    abbrev written : List ℕ
    written = line ws (header_of p) ++ rest

    record HeaderBack : Type 0 where
      fits : header_fits ws most written ≡ true
      first : p.vertices ≡ header_first ws written
      second : length p.ends / 2 ≡ header_second ws written
      third : length p.excluded ≡ header_third ws most written
      behind : rest ≡ edge_lines ws most written

    few : length p.excluded ≤ p.vertices
    few = omega (arith, admitted_count a)

    two_back : length p.excluded ≡ 0 → HeaderBack
    two_back z =
        let n = p.vertices in
        let m = length p.ends / 2 in
        let h : n ≤ most = omega (arith, a.vertices) in
        let k : m ≤ most = omega (arith, a.edges) in
        let is : written ≡ line ws (n ∷ m ∷ []) ++ rest = ap (λ (l : List ℕ). line ws l ++ rest) (header_two p z) in
        let fits : line_fits ws most 2 written ≡ true = ap (line_fits ws most 2) is ∙ header_fits_lem n m rest h k in
        let back : numbers ws 2 written ≡ n ∷ m ∷ [] = ap (numbers ws 2) is ∙ header_back n m rest h k in
        record {
          fits = short_header ws most written fits;
          first = sym (ap (λ (l : List ℕ). get_or l 0 0) back);
          second = sym (ap (λ (l : List ℕ). get_or l 1 0) back);
          third = z ∙ sym (short_third ws most written fits);
          behind = sym (short_lines ws most written fits ∙ ap (behind_header ws) is ∙ behind_back n m rest h k);
        }

    three_back : (length p.excluded ≡ 0 → ⊥) → HeaderBack
    unfolding numbers
    three_back z =
        let n = p.vertices in
        let m = length p.ends / 2 in
        let k = length p.excluded in
        let xs = n ∷ m ∷ k ∷ [] in
        let small : (i : ℕ) → get_or xs i 0 ≤ most = triple_most most n m k (omega (arith, a.vertices)) (omega (arith, a.edges)) (omega (arith, few, a.vertices)) in
        let is : written ≡ line ws xs ++ rest = ap (λ (l : List ℕ). line ws l ++ rest) (header_three p z) in
        let more : line_fits ws most 2 written ≡ false = ap (line_fits ws most 2) is ∙ line_longer ws most 2 xs rest (some_worth (omega (arith, a.two, a.vertices))) (omega arith) in
        let fits : line_fits ws most 3 written ≡ true = ap (line_fits ws most 3) is ∙ line-fits ws most exact xs rest small in
        let back : numbers ws 3 written ≡ xs = ap (numbers ws 3) is ∙ numbers_back ws most exact xs rest small in
        let third : k ≡ header_third ws most written = sym (long_third ws most written more ∙ ap (λ (l : List ℕ). get_or l 2 0) back) in
        let first : n ≡ header_first ws written = sym (ap (λ (l : List ℕ). get_or l 0 0) back) in
        record {
          fits = long_header ws most written more ∙ rw (fits, ← third, ← first, le-leb 1 k (omega arith), le-leb k n few);
          first = first;
          second = sym (ap (λ (l : List ℕ). get_or l 1 0) back);
          third = third;
          behind = sym (long_lines ws most written more ∙ ap (drop (line_size ws 3)) is ∙ behind_line ws most exact xs rest);
        }

    header_of_back : HeaderBack
    header_of_back = elim (ℕ_discrete (length p.excluded) 0) [ yes z ↦ two_back z | no z ↦ three_back z ]

  plan_back : limits.vertices ≤ most → (p : Plan) (space : ℕ) → Admitted limits p → length p.ends + length p.excluded ≤ space
      → read_plan ws most limits (plan_text ws p) space ≡ PlanReading.read p
  unfolding plan_text
  plan_back vertices p space a room =
      let n = p.vertices in
      let m = length p.ends / 2 in
      let k = length p.excluded in
      let last = lines ws 1 k p.excluded in
      let rest = lines ws 2 m p.ends ++ last in
      let text = line ws (header_of p) ++ rest in
      let h = header_of_back p a vertices rest in
      let even : 2 * m ≡ length p.ends = omega (arith, a.even) in
      let edges = begun_back ws most exact 2 m p.ends last even (ends_most limits p most a (omega (arith, a.vertices))) in
      let behind = behind_begun ws most exact 2 m p.ends last even in
      let excluded = lines_back ws most exact 1 k p.excluded (omega arith) (excluded_most most p.excluded (λ v i. omega (arith, a.inside v i, a.vertices))) in
      let same : plan n (lines_numbers ws 2 m rest) (lines_numbers ws 1 k (behind_lines ws 2 m rest)) ≡ p = rw (edges.1, behind, excluded.1) in
      let fit : (lines_begin ws most 2 m rest && lines_fit ws most 1 k (behind_lines ws 2 m rest)) ≡ true = rw (edges.0, behind) excluded.0 in
      let answered = to_lines ws most limits text space n m k rest h.first h.second h.third h.behind h.fits a.two a.vertices a.edges (omega (arith, even)) true fit ∙ ap listed_answer same in
      read-listed ws most limits text space (ap (λ (x : Answer). x.number) answered ∙ admitted_listed limits p a)
      ∙ rw (← h.first, ← h.second, ← h.third, ← h.behind) (ap PlanReading.read same)

  -- the lines of a verdict's text
  lines_kept : (kind : ℕ) (list : List ℕ) → has_text limits kind list ≡ true → ((i : ℕ) → get_or list i 0 ≤ most)
      → let count = count_of kind list in let rest = lines ws (per_line kind) (lines_of kind count) list in
      (lines_fit ws most (per_line kind) (lines_of kind count) rest ≡ true) × (list_read ws kind count rest ≡ list)
  lines_kept kind list t small =
      let count = count_of kind list in
      let rest = lines ws (per_line kind) (lines_of kind count) list in
      let f = form ws limits kind list 0 t in
      elim (ℕ_discrete kind 2) [
        | yes p ↦ let r = refusal-read ws kind count rest p in (
          empty-fits ws most (per_line kind) (lines_of kind count) list (no_lines kind count p),
          r.0 ∙ ap (λ (n : ℕ). n ∷ []) (count_two kind list p) ∙ one_member list (f.1 ∙ r.1),
        )
        | no p ↦ let r = lines-read ws kind count rest p in
            let back = lines_back ws most exact (per_line kind) count list (omega (arith, f.1, r.1)) small in
            (rw r.2 back.0, r.0 ∙ rw r.2 back.1)
      ]

  verdict_back : 19 ≤ most → (kind : ℕ) (list : List ℕ) (space : ℕ) → has_text limits kind list ≡ true → ((i : ℕ) → get_or list i 0 ≤ most) → length list ≤ space
      → read_verdict ws most limits (verdict_text ws kind list) space ≡ VerdictReading.read kind list
  unfolding verdict_text
  verdict_back high kind list space t small room =
      let count = count_of kind list in
      let rest = lines ws (per_line kind) (lines_of kind count) list in
      let text = line ws (kind ∷ count ∷ []) ++ rest in
      let f = form ws limits kind list 0 t in
      let h : kind ≤ most = omega (arith, kind_most limits kind count f.0) in
      let k : count ≤ most = ⊎_elim (λ p. omega arith) (λ p. omega arith) (count_most limits kind count f.0) in
      let numbers_are = header_back kind count rest h k in
      let rest-is = behind_back kind count rest h k in
      let back = lines_kept kind list t small in
      verdict-fits ws most limits text space kind count (sym (ap (λ (l : List ℕ). get_or l 0 0) numbers_are)) (sym (ap (λ (l : List ℕ). get_or l 1 0) numbers_are))
      (header_fits_lem kind count rest h k) f.0 (omega (arith, f.1)) (ap (lines_fit ws most (per_line kind) (lines_of kind count)) rest-is ∙ back.0)
      ∙ ap (VerdictReading.read kind) (ap (list_read ws kind count) rest-is ∙ back.1)

-- In columns of w digits, for every largest value that has no more digits and all limits that are not above it: every admitted plan
-- and every verdict with a text form survives writing and reading.
module _ (w most : ℕ) (digits : most < 10 ^ w) (limits : Limits) (vertices : limits.vertices ≤ most) (edges : limits.edges ≤ most) where
  pub plan_kept : (p : Plan) (space : ℕ) → Admitted limits p → length p.ends + length p.excluded ≤ space
      → read_plan (worths w) most limits (plan_text (worths w) p) space ≡ PlanReading.read p
  plan_kept = plan_back (worths w) most (read_back w most digits) limits edges vertices

  pub verdict_kept : 19 ≤ most → (kind : ℕ) (list : List ℕ) (space : ℕ) → has_text limits kind list ≡ true → ((i : ℕ) → get_or list i 0 ≤ most) → length list ≤ space
      → read_verdict (worths w) most limits (verdict_text (worths w) kind list) space ≡ VerdictReading.read kind list
  verdict_kept = verdict_back (worths w) most (read_back w most digits) limits edges
