-- `check_texts` meets its contract: the table has room for every admitted plan, and the verdict is read and judged about what was read of
-- it.
use mathlib.Core.Path.{◌≡◌, sym, ap, ◌∙◌}
use Prim.Native.Nat.{ℕ, ◌+◌, ◌*◌, ◌≤◌}
use native.Mathlib.Omega.{arith}
use lib.ListN.{length, replicate, length-replicate}
use Rattle.connectivity.specs.Plan.{limits}
use Rattle.graph.specs.Admission.{told_by}
use Rattle.text.specs.Column.{five, largest}
use Rattle.text.specs.Plan.{PlanReading}
use Rattle.verify_texts.specs.Texts.{plan_in, verdict_in, judge_read, judge_texts}
use Rattle.verify_texts.specs.Table.{Holds, plan_of}
use Rattle.verify_texts.proofs.Stored.{plan_stored, plan-refused}
use Rattle.verify_texts.proofs.check_texts.Goals as goal

room : 2 * limits.edges + limits.vertices ≤ length {A = ℕ} (replicate (2 * limits.edges + limits.vertices) 0)
room = omega (arith, length-replicate {A = ℕ} (2 * limits.edges + limits.vertices) 0)

pub returns-in-Err : goal.returns-in-Err
unfolding judge_texts
returns-in-Err c =
    plan-refused five largest limits _ _ _ _ c.read_plan-read.ensures room _ _ c.in-Err.is

pub returns-in-Ok : goal.returns-in-Ok
unfolding judge_texts
returns-in-Ok c =
    let stored : let table = c.read_plan-read.new.table in let graph = c.in-Ok.graph in Holds graph table × (plan_in five largest limits c.args.plan.now ≡ PlanReading.read (plan_of graph table)) = plan_stored five largest limits _ _ _ _ c.read_plan-read.ensures room _ c.in-Ok.is in
    let verdict = verdict_in five largest limits c.args.verdict.now in
    c.check_verdict.ensures ∙ sym (ap (λ (x : PlanReading). told_by (judge_read limits x verdict)) (stored.1 ∙ ap PlanReading.read (sym c.parts.ensures)))
