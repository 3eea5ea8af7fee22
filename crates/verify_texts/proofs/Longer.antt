-- A text that is longer than every text in the form is answered as its front is: it is enough to read one byte more than the longest.
use mathlib.Core.Path.{◌≡◌, refl, sym, ap, ◌∙◌}
use mathlib.Core.Bool.{Bool, true, false, cond, ◌&&◌, ◌||◌}
use mathlib.Core.List.{List}
use Prim.Native.Nat.{ℕ, ◌+◌, ◌*◌, ◌≤◌, ◌<◌}
use native.Mathlib.Omega.{arith}
use native.Mathlib.Nat.{mul-le-mul}
use native.Mathlib.Decide.{dec_le}
use lib.Dec.{eqb, ltb, leb}
use lib.ListN.{length, take, length-drop}
use lib.Seq.{take-take, take_all, length-take-le}
use borrow.Author.Tests.{ltb-false, leb-true, le-ltb}
use Rattle.connectivity.specs.Plan.{Limits}
use Rattle.connectivity.specs.Admission.{Answer, answer}
use Rattle.connectivity.proofs.Admission.{cond_both}
use Rattle.text.specs.Column.{line_size, line_fits, numbers, lines_fit}
use Rattle.text.specs.Plan.{PlanReading, header_first, header_second, behind_header, header_third, header_fits, plan_lines_fit, spelled, plan_needed, listed_answer, read_answer}
use Rattle.text.specs.Verdict.{VerdictReading, per_line, lines_of, needed, is_refusal, count_fits, list_read, read_verdict}
use Rattle.text.proofs.Laws.{and_true, line_front, numbers_front, fit_true}
use Rattle.text.proofs.Reading.{plan_size, too_much, read-refused}
use Rattle.text.proofs.Writing.{per_line_most}
use Rattle.verify_texts.specs.Texts.{plan_in, verdict_in, judge_texts}

-- A plan text that is longer than every one in the form is refused, and its header decides by which number.
module _ (ws : List ℕ) (most : ℕ) (limits : Limits) where
  abbrev by_header : Bool → ℕ → ℕ → Answer
  by_header f n m = cond f (cond (ltb n 2 || ltb limits.vertices n) (answer 2 0) (cond (ltb limits.edges m) (answer 3 0) (answer 7 0))) (answer 7 0)

  header_refuses : (f : Bool) (n m : ℕ) → (by_header f n m).number ≡ 0 → ⊥
  header_refuses f n m =
      let P : Answer → Type 0 = λ a. (a.number ≡ 0 → ⊥) in
      cond_both P f (cond_both P (ltb n 2 || ltb limits.vertices n) (λ z. omega arith) (cond_both P (ltb limits.edges m) (λ z. omega arith) (λ z. omega arith))) (λ z. omega arith)

  module _ (text : List ℕ) (long : plan_size ws limits < length text) where
    header_decides : read_answer ws most limits text (plan_needed ws most text) ≡ by_header (header_fits ws most text) (header_first ws text) (header_second ws text)
    unfolding read_answer
    header_decides = go (header_fits ws most text) refl (ltb n 2) (ltb limits.vertices n) refl (ltb limits.edges m) refl
      where
        n : ℕ
        n = header_first ws text

        m : ℕ
        m = header_second ws text

        size : ℕ
        size = plan_needed ws most text

        found : Answer
        found = cond (ltb size size) (answer 6 0) (cond (plan_lines_fit ws most text) (listed_answer (spelled ws most text)) (answer 7 0))

        body : Answer → Bool → Bool → Bool → Bool → Answer
        body last a b c d = cond a (cond (b || c) (answer 2 0) (cond d (answer 3 0) last)) (answer 7 0)

        go : (a : Bool) → header_fits ws most text ≡ a → (b c : Bool) → ltb limits.vertices n ≡ c → (d : Bool) → ltb limits.edges m ≡ d
            → body found a b c d ≡ body (answer 7 0) a b c d
        go false f b c v d e = refl
        go true f true c v d e = refl
        go true f false true v d e = refl
        go true f false false v true e = refl
        go true f false false v false e =
            rw (le-ltb size size (omega arith), too_much ws most limits text f (ltb-false limits.vertices n v) (ltb-false limits.edges m e) long)

    refused_long : plan_in ws most limits text ≡ PlanReading.refused (by_header (header_fits ws most text) (header_first ws text) (header_second ws text))
    unfolding plan_in
    refused_long = read-refused ws most limits text (plan_needed ws most text) _ header_decides (header_refuses (header_fits ws most text) (header_first ws text) (header_second ws text))

-- more bytes than the lines have
long_lines : (ws : List ℕ) (most c m : ℕ) (text : List ℕ) → m * line_size ws c < length text → lines_fit ws most c m text ≡ false
long_lines ws most c m text h = go (lines_fit ws most c m text) refl
  where
    go : (t : Bool) → lines_fit ws most c m text ≡ t → lines_fit ws most c m text ≡ false
    go true p = absurd (omega (arith, (fit_true ws most c m text p).1))
    go false p = p

-- a verdict's lines, where its header is in the form
lines_most : (limits : Limits) (kind count : ℕ) → 2 ≤ limits.edges → count_fits limits kind count ≡ true → lines_of kind count ≤ limits.edges
unfolding count_fits lines_of
lines_most limits kind count two = go (eqb kind 0) (eqb kind 1) (eqb kind 2)
  where
    go : (r s t : Bool) → cond r (leb count limits.edges) (cond s (leb count 2) (cond t (is_refusal count) false)) ≡ true → cond t 0 count ≤ limits.edges
    go r s true p = omega arith
    go true s false p = leb-true count limits.edges p
    go false true false p = omega (arith, leb-true count 2 p)
    go false false false p = let z : ◌≡◌ {A = ℕ} 0 1 = cc in absurd (omega arith)

module _ (ws : List ℕ) (most : ℕ) (limits : Limits) (text : List ℕ) (k : ℕ) where
  abbrev front : List ℕ
  front = take k text

  -- the first line of both
  module _ (c : ℕ) (h : line_size ws c ≤ k) where
    same_line : line_fits ws most c front ≡ line_fits ws most c text
    same_line = line_front ws c front text (take-take (line_size ws c) k text h) most

    same_numbers : numbers ws c front ≡ numbers ws c text
    same_numbers = numbers_front ws c front text (take-take (line_size ws c) k text h)

  module _ (h : line_size ws 3 ≤ k) where
    same_third : header_third ws most front ≡ header_third ws most text
    unfolding header_third
    same_third = rw (same_line 2 (omega arith), same_numbers 3 h)

    same_header : header_fits ws most front ≡ header_fits ws most text
    unfolding header_fits
    same_header = rw (same_third, same_line 2 (omega arith), same_line 3 h, same_numbers 2 (omega arith))

  -- behind the header both have more bytes than any lines of the form
  module _ (long : k < length text) (c m room : ℕ) (few : m * line_size ws c ≤ room) (more : line_size ws 2 + room < k) where
    front_no_lines : lines_fit ws most c m (behind_header ws front) ≡ false
    front_no_lines = long_lines ws most c m (behind_header ws front) (omega (arith, length-drop (line_size ws 2) front, length-take-le k text (omega arith)))

    text_no_lines : lines_fit ws most c m (behind_header ws text) ≡ false
    text_no_lines = long_lines ws most c m (behind_header ws text) (omega (arith, length-drop (line_size ws 2) text))

  plan_long : k < length text → plan_size ws limits < k → plan_in ws most limits front ≡ plan_in ws most limits text
  plan_long long more =
      refused_long ws most limits front (omega (arith, length-take-le k text (omega arith)))
      ∙ rw (same_header (omega arith), same_numbers 2 (omega arith)) (sym (refused_long ws most limits text (omega arith)))

  verdict_long : k < length text → 2 ≤ limits.edges → line_size ws 2 + limits.edges * line_size ws 3 < k → verdict_in ws most limits front ≡ verdict_in ws most limits text
  unfolding verdict_in read_verdict
  verdict_long long two more =
      rw (same_line 2 (omega arith), same_numbers 2 (omega arith))
      (go (line_fits ws most 2 text && count_fits limits kind count) refl)
    where
      kind : ℕ
      kind = header_first ws text

      count : ℕ
      count = header_second ws text

      body : List ℕ → Bool → VerdictReading
      body rest a =
          cond a (cond (ltb (needed kind count) (needed kind count)) (VerdictReading.refused (answer 6 0))
          (cond (lines_fit ws most (per_line kind) (lines_of kind count) rest) (VerdictReading.read kind (list_read ws kind count rest)) (VerdictReading.refused (answer 8 0)))) (VerdictReading.refused (answer 8 0))

      go : (a : Bool) → (line_fits ws most 2 text && count_fits limits kind count) ≡ a → body (behind_header ws front) a ≡ body (behind_header ws text) a
      go false p = refl
      go true p =
          let fits = (and_true (line_fits ws most 2 text) (count_fits limits kind count) p).1 in
          let wide : line_size ws (per_line kind) ≤ line_size ws 3 = omega (arith, mul-le-mul {m₁ = length ws} {m₂ = length ws} (per_line_most kind) (omega arith)) in
          let few : lines_of kind count * line_size ws (per_line kind) ≤ limits.edges * line_size ws 3 = mul-le-mul (lines_most limits kind count two fits) wide in
          rw (
            front_no_lines long (per_line kind) (lines_of kind count) (limits.edges * line_size ws 3) few more,
            text_no_lines long (per_line kind) (lines_of kind count) (limits.edges * line_size ws 3) few more,
          )

  pub plan_longer : plan_size ws limits < k → plan_in ws most limits front ≡ plan_in ws most limits text
  plan_longer more = elim (dec_le (length text) k) [
    | yes p ↦ ap (plan_in ws most limits) (take_all k text p)
    | no p ↦ plan_long (omega arith) more
  ]

  pub verdict_longer : 2 ≤ limits.edges → line_size ws 2 + limits.edges * line_size ws 3 < k → verdict_in ws most limits front ≡ verdict_in ws most limits text
  verdict_longer two more = elim (dec_le (length text) k) [
    | yes p ↦ ap (verdict_in ws most limits) (take_all k text p)
    | no p ↦ verdict_long (omega arith) two more
  ]

-- so of both texts: what a program reads of each is one byte more than the longest in the form
pub fronts_judged : (ws : List ℕ) (most : ℕ) (limits : Limits) (plan verdict : List ℕ) (k l : ℕ) → 2 ≤ limits.edges
    → plan_size ws limits < k → line_size ws 2 + limits.edges * line_size ws 3 < l
    → judge_texts ws most limits (take k plan) (take l verdict) ≡ judge_texts ws most limits plan verdict
unfolding judge_texts
fronts_judged ws most limits plan verdict k l two p v = rw (plan_longer ws most limits plan k p, verdict_longer ws most limits verdict l two v)
