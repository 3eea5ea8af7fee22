-- What the two entries that read answer, and what the lent memory holds afterwards.
use Rattle.std.specs.Prelude.{◌≡◌, List, [], ◌∷◌, ◌++◌, ℕ, length, Result, Err, Ok}
use Rattle.connectivity.specs.Plan.{Limits}
use Rattle.connectivity.specs.Admission.{Handed, served, refusal}
use Rattle.graph.specs.Admission as admission
use Rattle.graph.specs.Admission.{Admission}
use Rattle.graph.specs.declared.Answer.{Answer}
use Rattle.text_read.specs.declared.VerdictRead.{VerdictRead}
use Rattle.text.specs.Plan.{PlanReading, filled, read_plan}
use Rattle.text.specs.Verdict.{VerdictReading, read_verdict}

-- what reading a verdict gives: its kind and how many numbers its list has, or why there is none
abbrev pub ListRead : Type 0
ListRead = Result VerdictRead Answer

-- 01's number, place and values for each case; the values of a verdict are its kind and how many numbers its list has
abbrev pub handed : ListRead → Handed
handed (Err a) = refusal (admission.answer_of a)
handed (Ok v) = served (v.kind ∷ (v.count ∷ []))

-- what is handed back of a plan text: the plan's counts, or the refusal
abbrev pub plan_handed : PlanReading → Handed
plan_handed (PlanReading.refused a) = refusal a
plan_handed (PlanReading.read p) = served (admission.counts p)

-- what is handed back of a verdict text: the kind and how many numbers the list has, or the refusal
abbrev pub list_handed : VerdictReading → Handed
list_handed (VerdictReading.refused a) = refusal a
list_handed (VerdictReading.read kind list) = served (kind ∷ (length list ∷ []))

-- 01: lent memory after: unchanged by a refusal, else filled with the plan's ends, and its slugs directly behind them (02), or with the verdict's
-- list
abbrev pub after_plan : PlanReading → List ℕ → List ℕ
after_plan (PlanReading.refused a) lent = lent
after_plan (PlanReading.read p) lent = filled (p.ends ++ p.excluded) lent

abbrev pub after_verdict : VerdictReading → List ℕ → List ℕ
after_verdict (VerdictReading.refused a) lent = lent
after_verdict (VerdictReading.read kind list) lent = filled list lent

-- the answer to a text and the lent memory after it, in columns with these worths, for this largest value and these limits
pub record ReadsPlan (ws : List ℕ) (most : ℕ) (limits : Limits) (text lent after : List ℕ) (r : Admission) : Type 0 where
  pub answer : admission.handed r ≡ plan_handed (read_plan ws most limits text (length lent))
  pub memory : after ≡ after_plan (read_plan ws most limits text (length lent)) lent

pub record ReadsVerdict (ws : List ℕ) (most : ℕ) (limits : Limits) (text lent after : List ℕ) (r : ListRead) : Type 0 where
  pub answer : handed r ≡ list_handed (read_verdict ws most limits text (length lent))
  pub memory : after ≡ after_verdict (read_verdict ws most limits text (length lent)) lent
