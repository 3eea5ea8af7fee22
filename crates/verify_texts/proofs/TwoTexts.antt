-- Two texts: a space of two numbers for each edge and one for each vertex of the limits is enough to read a plan, one of three for each edge
-- to read a verdict, and 6 is never the answer; what is written of a plan and a verdict is answered as that plan and verdict; and only such
-- texts pass.
use mathlib.Core.Path.{◌≡◌, refl, sym, ap, ◌∙◌, subst}
use mathlib.Core.Logic.{◌⊎◌, inl, inr, ⊎_elim}
use mathlib.Core.Bool.{Bool, true, false, cond, ◌&&◌, ◌||◌}
use mathlib.Core.List.{List}
use Prim.Native.Nat.{ℕ, ◌+◌, ◌*◌, ◌≤◌, ◌<◌, ◌^◌}
use native.Mathlib.Omega.{arith}
use lib.Dec.{eqb, ltb, leb}
use lib.ListN.{length, get_or}
use borrow.Author.Tests.{eqb-true, eqb-false, ltb-false, leb-true, le-ltb}
use Rattle.connectivity.specs.Plan.{Plan, Limits}
use Rattle.connectivity.specs.Admission.{Answer, answer, passed, Admitted, admission}
use Rattle.connectivity.specs.Judge.{judge}
use Rattle.text.specs.Column.{worths, line_fits, lines_fit}
use Rattle.text.specs.Plan.{PlanReading, Writing, header_first, header_second, behind_header, header_fits, plan_lines_fit, spelled, plan_needed, plan_text, listed_answer, read_answer, read_plan, write_plan}
use Rattle.text.specs.Verdict.{VerdictReading, per_line, lines_of, needed, is_refusal, count_fits, has_text, verdict_text, list_read, read_verdict, write_verdict}
use Rattle.connectivity.proofs.Admission.{cond_both, admission_number}
use Rattle.text.proofs.Laws.{and_true}
use Rattle.text.proofs.Reading.{third_most}
use Rattle.text.proofs.RoundTrip.{plan_is, verdict_is, plan_kept, verdict_kept}
use Rattle.verify_texts.specs.Texts.{plan_in, verdict_in, judge_read, judge_texts}
use Rattle.verify_texts.proofs.Numbers.{Own, PlanOwn, listed_own, judge_own}

-- the numbers that a verdict's list has, where its header is in the form
needed_most : (limits : Limits) (kind count : ℕ) → count_fits limits kind count ≡ true → (needed kind count ≤ 3 * limits.edges) ⊎ (needed kind count ≤ 2)
unfolding count_fits needed per_line
needed_most limits kind count = go (eqb kind 0) (eqb kind 1) (eqb kind 2)
  where
    go : (r s t : Bool) → cond r (leb count limits.edges) (cond s (leb count 2) (cond t (is_refusal count) false)) ≡ true
        → (cond t 1 (cond r 3 1 * count) ≤ 3 * limits.edges) ⊎ (cond t 1 (cond r 3 1 * count) ≤ 2)
    go r s true p = inr (omega arith)
    go true s false p = inl (omega (arith, leb-true count limits.edges p))
    go false true false p = inr (omega (arith, leb-true count 2 p))
    go false false false p = let z : ◌≡◌ {A = ℕ} 0 1 = cc in absurd (omega arith)

module _ (ws : List ℕ) (most : ℕ) (limits : Limits) (text : List ℕ) (space : ℕ) where
  answer_space : 2 * limits.edges + limits.vertices ≤ space → read_answer ws most limits text space ≡ read_answer ws most limits text (plan_needed ws most text)
  unfolding read_answer
  answer_space h = go (header_fits ws most text) refl (ltb n 2) (ltb limits.vertices n) refl (ltb limits.edges m) refl
    where
      n : ℕ
      n = header_first ws text

      m : ℕ
      m = header_second ws text

      needs : ℕ
      needs = plan_needed ws most text

      found : Answer
      found = cond (plan_lines_fit ws most text) (listed_answer (spelled ws most text)) (answer 7 0)

      body : ℕ → Bool → Bool → Bool → Bool → Answer
      body s a b c d = cond a (cond (b || c) (answer 2 0) (cond d (answer 3 0) (cond (ltb s needs) (answer 6 0) found))) (answer 7 0)

      go : (a : Bool) → header_fits ws most text ≡ a → (b c : Bool) → ltb limits.vertices n ≡ c → (d : Bool) → ltb limits.edges m ≡ d → body space a b c d ≡ body needs a b c d
      go false f b c v d e = refl
      go true f true c v d e = refl
      go true f false true v d e = refl
      go true f false false v true e = refl
      go true f false false v false e =
          rw (
            le-ltb space needs (omega (arith, third_most ws most text f, ltb-false limits.vertices n v, ltb-false limits.edges m e)),
            le-ltb needs needs (omega arith),
          )

  pub plan_space : 2 * limits.edges + limits.vertices ≤ space → read_plan ws most limits text space ≡ plan_in ws most limits text
  unfolding read_plan plan_in
  plan_space h = rw (answer_space h)

  pub verdict_space : 3 * limits.edges ≤ space → 2 ≤ space → read_verdict ws most limits text space ≡ verdict_in ws most limits text
  unfolding read_verdict verdict_in
  verdict_space h two = go (line_fits ws most 2 text && count_fits limits kind count) refl
    where
      kind : ℕ
      kind = header_first ws text

      count : ℕ
      count = header_second ws text

      found : VerdictReading
      found = cond (lines_fit ws most (per_line kind) (lines_of kind count) (behind_header ws text)) (VerdictReading.read kind (list_read ws kind count (behind_header ws text))) (VerdictReading.refused (answer 8 0))

      body : ℕ → Bool → VerdictReading
      body s a = cond a (cond (ltb s (needed kind count)) (VerdictReading.refused (answer 6 0)) found) (VerdictReading.refused (answer 8 0))

      room : (line_fits ws most 2 text && count_fits limits kind count) ≡ true → needed kind count ≤ space
      room p = ⊎_elim (λ q. omega arith) (λ q. omega arith) (needed_most limits kind count (and_true (line_fits ws most 2 text) (count_fits limits kind count) p).1)

      go : (a : Bool) → (line_fits ws most 2 text && count_fits limits kind count) ≡ a → body space a ≡ body (needed kind count) a
      go false p = refl
      go true p = rw (le-ltb space (needed kind count) (room p), le-ltb (needed kind count) (needed kind count) (omega arith))

-- every number but 6 that 01 and 02 have
abbrev pub Possible : ℕ → Type 0
Possible k = (k ≤ 5) ⊎ ((7 ≤ k) × (k ≤ 19))

own_possible : (k : ℕ) → Own k → Possible k
own_possible k o = ⊎_elim (λ h. inl h) (λ h. inr (omega (arith, h.0), h.1)) o

-- a refusal of a text is one of them, and not 0
abbrev Refuses : Answer → Type 0
Refuses a = (a.number ≡ 0 → ⊥) × Possible a.number

abbrev PlanProper : PlanReading → Type 0
PlanProper (PlanReading.refused a) = Refuses a
PlanProper (PlanReading.read p) = Unit {0}

abbrev Proper : VerdictReading → Type 0
Proper (VerdictReading.refused a) = Refuses a
Proper (VerdictReading.read kind list) = Unit {0}

bad_form : Refuses (answer 8 0)
bad_form = (λ z. omega arith, inr (omega arith, omega arith))

-- of a plan text 1 to 5, 7, 18 or 19
abbrev pub PlanNumber : ℕ → Type 0
PlanNumber k = (1 ≤ k) × (PlanOwn k ⊎ (k ≡ 7))

abbrev PlanRefused : PlanReading → Type 0
PlanRefused (PlanReading.refused a) = PlanNumber a.number
PlanRefused (PlanReading.read p) = Unit {0}

number_possible : (k : ℕ) → PlanOwn k ⊎ (k ≡ 7) → Possible k
number_possible k (inl (inl h)) = inl h
number_possible k (inl (inr h)) = inr (omega (arith, h.0), h.1)
number_possible k (inr h) = inr (omega (arith, h), omega (arith, h))

refused_proper : (x : PlanReading) → PlanRefused x → PlanProper x
refused_proper (PlanReading.refused a) (p, o) = (λ z. omega (arith, p, z), number_possible a.number o)
refused_proper (PlanReading.read p) u = tt

module _ (ws : List ℕ) (most : ℕ) (limits : Limits) where
  abbrev answered : List ℕ → Answer
  answered text = read_answer ws most limits text (plan_needed ws most text)

  answer_own : (text : List ℕ) → PlanOwn (answered text).number ⊎ ((answered text).number ≡ 7)
  unfolding read_answer
  answer_own text =
      let n = header_first ws text in
      let P : Answer → Type 0 = λ a. PlanOwn a.number ⊎ (a.number ≡ 7) in
      rw (le-ltb (plan_needed ws most text) (plan_needed ws most text) (omega arith))
      (cond_both P (header_fits ws most text)
      (cond_both P (ltb n 2 || ltb limits.vertices n) (inl (inl (omega arith)))
      (cond_both P (ltb limits.edges (header_second ws text)) (inl (inl (omega arith)))
      (cond_both P (plan_lines_fit ws most text) (inl (listed_own (spelled ws most text))) (inr refl))))
      (inr refl))

  plan-refused : (text : List ℕ) → PlanRefused (plan_in ws most limits text)
  unfolding plan_in read_plan
  plan-refused text = go (eqb (answered text).number 0) refl
    where
      go : (t : Bool) → eqb (answered text).number 0 ≡ t → PlanRefused (cond t (PlanReading.read (spelled ws most text)) (PlanReading.refused (answered text)))
      go true p = tt
      go false p = (omega (arith, eqb-false (answered text).number 0 p), answer_own text)

  pub plan_number : (text : List ℕ) (a : Answer) → plan_in ws most limits text ≡ PlanReading.refused a → PlanNumber a.number
  plan_number text a p = subst PlanRefused p (plan-refused text)

  plan_proper : (text : List ℕ) → PlanProper (plan_in ws most limits text)
  plan_proper text = refused_proper (plan_in ws most limits text) (plan-refused text)

  verdict_proper : (text : List ℕ) → Proper (verdict_in ws most limits text)
  unfolding verdict_in read_verdict
  verdict_proper text =
      let kind = header_first ws text in
      let count = header_second ws text in
      rw (le-ltb (needed kind count) (needed kind count) (omega arith))
      (cond_both Proper (line_fits ws most 2 text && count_fits limits kind count)
      (cond_both Proper (lines_fit ws most (per_line kind) (lines_of kind count) (behind_header ws text)) tt bad_form)
      bad_form)

  read_possible : (x : PlanReading) (y : VerdictReading) → PlanProper x → Proper y → Possible (judge_read limits x y).number
  unfolding judge_read
  read_possible (PlanReading.refused a) y p q = p.1
  read_possible (PlanReading.read d) (VerdictReading.refused a) p q = q.1
  read_possible (PlanReading.read d) (VerdictReading.read kind list) p q = own_possible (judge limits d kind list).number (judge_own limits d kind list)

  -- so each answer's number is one of 01's, and never 6
  pub possible : (plan verdict : List ℕ) → Possible (judge_texts ws most limits plan verdict).number
  unfolding judge_texts
  possible plan verdict = read_possible (plan_in ws most limits plan) (verdict_in ws most limits verdict) (plan_proper plan) (verdict_proper verdict)

  pub never_six : (plan verdict : List ℕ) → (judge_texts ws most limits plan verdict).number ≡ 6 → ⊥
  never_six plan verdict z = ⊎_elim (λ h. omega arith) (λ h. omega (arith, h.0)) (possible plan verdict)

-- the texts of a plan and of a verdict that passes
pub record Passing (ws : List ℕ) (limits : Limits) (plan verdict : List ℕ) : Type 0 where
  pub drawn : Plan
  pub kind : ℕ
  pub list : List ℕ
  pub plan-same : plan ≡ plan_text ws drawn
  pub verdict-same : verdict ≡ verdict_text ws kind list
  pub passes : judge limits drawn kind list ≡ passed

-- 01: only such texts pass
module _ (ws : List ℕ) (most : ℕ) (limits : Limits) (plan verdict : List ℕ) where
  read_passing : (x : PlanReading) (y : VerdictReading) → plan_in ws most limits plan ≡ x → verdict_in ws most limits verdict ≡ y → PlanProper x → Proper y
      → judge_read limits x y ≡ passed → Passing ws limits plan verdict
  unfolding plan_in verdict_in judge_read
  read_passing (PlanReading.refused a) y p q proper fine z = absurd (proper.0 (ap (λ (x : Answer). x.number) z))
  read_passing (PlanReading.read d) (VerdictReading.refused a) p q proper fine z = absurd (fine.0 (ap (λ (x : Answer). x.number) z))
  read_passing (PlanReading.read d) (VerdictReading.read kind list) p q proper fine z = record {
    drawn = d;
    kind = kind;
    list = list;
    plan-same = plan_is ws most limits plan _ d p;
    verdict-same = verdict_is ws most limits verdict _ kind list q;
    passes = z;
  }

  pub passing : judge_texts ws most limits plan verdict ≡ passed → Passing ws limits plan verdict
  unfolding judge_texts
  passing = read_passing (plan_in ws most limits plan) (verdict_in ws most limits verdict) refl refl (plan_proper ws most limits plan) (verdict_proper ws most limits verdict)

-- what was written is the text of an admitted plan, or of a verdict with a text form
plan_written : (ws : List ℕ) (limits : Limits) (p : Plan) (room : ℕ) (text : List ℕ) → write_plan ws limits p room ≡ Writing.written text
    → Admitted limits p × (text ≡ plan_text ws p)
unfolding write_plan
plan_written ws limits p room text = go (eqb (admission limits p).number 0) refl (ltb room (length (plan_text ws p)))
  where
    go : (t : Bool) → eqb (admission limits p).number 0 ≡ t → (s : Bool)
        → cond t (cond s (Writing.refused (answer 6 0)) (Writing.written (plan_text ws p))) (Writing.refused (admission limits p)) ≡ Writing.written text
        → Admitted limits p × (text ≡ plan_text ws p)
    go false z s q = let z : ◌≡◌ {A = ℕ} 0 1 = cc in absurd (omega arith)
    go true z true q = let z : ◌≡◌ {A = ℕ} 0 1 = cc in absurd (omega arith)
    go true z false q = ((admission_number limits p).0 (eqb-true (admission limits p).number 0 z), cc)

pub verdict_written : (ws : List ℕ) (limits : Limits) (kind : ℕ) (list : List ℕ) (room : ℕ) (text : List ℕ) → write_verdict ws limits kind list room ≡ Writing.written text
    → (has_text limits kind list ≡ true) × (text ≡ verdict_text ws kind list)
unfolding write_verdict
verdict_written ws limits kind list room text = go (has_text limits kind list) refl (ltb room (length (verdict_text ws kind list)))
  where
    go : (t : Bool) → has_text limits kind list ≡ t → (s : Bool)
        → cond t (cond s (Writing.refused (answer 6 0)) (Writing.written (verdict_text ws kind list))) (Writing.refused (answer 8 0)) ≡ Writing.written text
        → (has_text limits kind list ≡ true) × (text ≡ verdict_text ws kind list)
    go false p s q = let z : ◌≡◌ {A = ℕ} 0 1 = cc in absurd (omega arith)
    go true p true q = let z : ◌≡◌ {A = ℕ} 0 1 = cc in absurd (omega arith)
    go true p false q = (p, cc)

-- 01: what is written of a plan and a verdict is answered as that plan and verdict, in columns of w digits, for every largest value that
-- has no more digits and all limits that are not above it
module _ (w most : ℕ) (digits : most < 10 ^ w) (limits : Limits) (vertices : limits.vertices ≤ most) (edges : limits.edges ≤ most) (high : 19 ≤ most) where
  pub judge_written : (p : Plan) (kind : ℕ) (list plan verdict : List ℕ) (room space : ℕ)
      → write_plan (worths w) limits p room ≡ Writing.written plan → write_verdict (worths w) limits kind list space ≡ Writing.written verdict → ((i : ℕ) → get_or list i 0 ≤ most)
      → judge_texts (worths w) most limits plan verdict ≡ judge limits p kind list
  unfolding judge_texts judge_read
  judge_written p kind list plan verdict room space h q small =
      let a = plan_written (worths w) limits p room plan h in
      let b = verdict_written (worths w) limits kind list space verdict q in
      let large = 2 * limits.edges + limits.vertices + length p.ends + length p.excluded in
      let long = 3 * limits.edges + length list + 2 in
      let x : plan_in (worths w) most limits plan ≡ PlanReading.read p = sym (plan_space (worths w) most limits plan large (omega arith))
      ∙ rw a.1 (plan_kept w most digits limits vertices edges p large a.0 (omega arith)) in
      let y : verdict_in (worths w) most limits verdict ≡ VerdictReading.read kind list = sym (verdict_space (worths w) most limits verdict long (omega arith) (omega arith))
      ∙ rw b.1 (verdict_kept w most digits limits vertices edges high kind list long b.0 small (omega arith)) in
      rw (x, y)
