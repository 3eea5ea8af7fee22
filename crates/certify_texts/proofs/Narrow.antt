-- 01's own texts: the laws that are stated for every width, largest value and limits, cited for columns of five, 65,535 and 01's limits, which the
-- entries name. Their premises hold for these.
use Rattle.std.specs.Prelude.{Ok}
use mathlib.Core.Path.{◌≡◌}
use mathlib.Core.Bool.{true}
use mathlib.Core.List.{List}
use Prim.Native.Nat.{ℕ, ◌+◌, ◌≤◌}
use native.Mathlib.Omega.{arith}
use lib.ListN.{length, get_or, take}
use Rattle.connectivity.specs.Plan.{Plan, limits}
use Rattle.connectivity.specs.Admission.{Admitted, passed}
use Rattle.connectivity.specs.Judge.{judge}
use Rattle.text.specs.Column.{worths, five, largest}
use Rattle.text.specs.Plan.{PlanReading, Writing, plan_text, read_plan, write_plan}
use Rattle.text.specs.Verdict.{VerdictReading, has_text, verdict_text, read_verdict, write_verdict}
use Rattle.text_write.specs.Entry.{Written}
use Rattle.text.proofs.RoundTrip as round
use Rattle.verify_texts.specs.Texts.{plan_in, judge_texts}
use Rattle.verify_texts.proofs.TwoTexts as two
use Rattle.certify_texts.specs.Says.{WritesFor}
use Rattle.certify_texts.proofs.Passing as passing

-- 01, demand 2: every admitted plan and every verdict with a text form survives writing and reading
pub plan_kept : (p : Plan) (space : ℕ) → Admitted limits p → length p.ends + length p.excluded ≤ space → read_plan five largest limits (plan_text five p) space ≡ PlanReading.read p
unfolding worths
plan_kept = round.plan_kept 5 largest (omega arith) limits (omega arith) (omega arith)

pub verdict_kept : (kind : ℕ) (list : List ℕ) (space : ℕ) → has_text limits kind list ≡ true → ((i : ℕ) → get_or list i 0 ≤ largest) → length list ≤ space
    → read_verdict five largest limits (verdict_text five kind list) space ≡ VerdictReading.read kind list
unfolding worths
verdict_kept = round.verdict_kept 5 largest (omega arith) limits (omega arith) (omega arith) (omega arith)

-- what is written of a plan and a verdict is answered as that plan and verdict
pub judge_written : (p : Plan) (kind : ℕ) (list plan verdict : List ℕ) (room space : ℕ) → write_plan five limits p room ≡ Writing.written plan
    → write_verdict five limits kind list space ≡ Writing.written verdict → ((i : ℕ) → get_or list i 0 ≤ largest) → judge_texts five largest limits plan verdict ≡ judge limits p kind list
unfolding worths
judge_written = two.judge_written 5 largest (omega arith) limits (omega arith) (omega arith) (omega arith)

-- 01, demand 3: of every plan text that is read, the bytes that the verdict entry leaves at the front of the lent buffer pass the check of both texts
pub left_passes : {plan before after : List ℕ} {r : Written} {p : Plan} {count : ℕ} → WritesFor five largest limits plan before after r
    → plan_in five largest limits plan ≡ PlanReading.read p → r ≡ Ok count → judge_texts five largest limits plan (take count after) ≡ passed
unfolding worths
left_passes = passing.left_passes 5 largest (omega arith) limits (omega arith) (omega arith)
