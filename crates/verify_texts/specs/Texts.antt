-- What the check answers to a plan text and a verdict text.
use Rattle.std.specs.Prelude.{List, ℕ}
use Rattle.connectivity.specs.Plan.{Limits}
use Rattle.connectivity.specs.Admission.{Answer}
use Rattle.connectivity.specs.Judge.{judge}
use Rattle.text.specs.Plan.{PlanReading, header_first, header_second, plan_needed, read_plan}
use Rattle.text.specs.Verdict.{VerdictReading, needed, read_verdict}

-- In what follows `ws` are the worths of a column's digits and `most` is the largest value.

-- 01: a plan text read in stated space: as many numbers as its header asks for, so that 6 is never the answer
unfoldable pub plan_in : List ℕ → ℕ → Limits → List ℕ → PlanReading
plan_in ws most limits text = read_plan ws most limits text (plan_needed ws most text)

-- the same of a verdict text
unfoldable pub verdict_in : List ℕ → ℕ → Limits → List ℕ → VerdictReading
verdict_in ws most limits text = read_verdict ws most limits text (needed (header_first ws text) (header_second ws text))

-- 01: the plan is read first, and any refusal there is the answer; then the verdict; then both are judged
unfoldable pub judge_read : Limits → PlanReading → VerdictReading → Answer
judge_read limits (PlanReading.refused a) verdict = a
judge_read limits (PlanReading.read p) (VerdictReading.refused a) = a
judge_read limits (PlanReading.read p) (VerdictReading.read kind list) = judge limits p kind list

-- 01: the check of a plan text and a verdict text
unfoldable pub judge_texts : List ℕ → ℕ → Limits → List ℕ → List ℕ → Answer
judge_texts ws most limits plan verdict = judge_read limits (plan_in ws most limits plan) (verdict_in ws most limits verdict)
