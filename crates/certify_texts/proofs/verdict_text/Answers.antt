-- `verdict_text` meets its contract: the table has room for every admitted plan, and what is read of the plan is judged.
use mathlib.Core.Path.{◌≡◌, sym, ap, ◌∙◌}
use Prim.Native.Nat.{ℕ, ◌+◌, ◌*◌, ◌≤◌}
use native.Mathlib.Omega.{arith}
use lib.ListN.{length, replicate, length-replicate}
use Rattle.connectivity.specs.Plan.{limits}
use Rattle.connectivity.specs.Admission.{kept_edges}
use Rattle.text.specs.Column.{five, largest}
use Rattle.text.specs.Plan.{PlanReading}
use Rattle.verify_texts.specs.Texts.{plan_in}
use Rattle.verify_texts.specs.Table.{Holds, plan_of}
use Rattle.verify_texts.proofs.Stored.{planned, plan_stored, plan-told}
use Rattle.certify_texts.specs.Says.{read}
use Rattle.certify_texts.proofs.Saying.{says_refused}
use Rattle.certify_texts.proofs.verdict_text.Goals as goal

room : 2 * limits.edges + limits.vertices ≤ length {A = ℕ} (replicate (2 * limits.edges + limits.vertices) 0)
room = omega (arith, length-replicate {A = ℕ} (2 * limits.edges + limits.vertices) 0)

pub write_admitted-requires : goal.write_admitted-requires
write_admitted-requires c =
    let stored : let table = c.read_plan-read.new.table in let graph = c.in-Ok.graph in Holds graph table × (plan_in five largest limits c.args.plan.now ≡ PlanReading.read (plan_of graph table)) = plan_stored five largest limits _ _ _ _ c.read_plan-read.ensures room _ c.in-Ok.is in
    let same = sym c.parts.ensures in
    (planned five largest limits _ (stored.1 ∙ ap PlanReading.read same), stored.0.kept_edges_lem ∙ ap kept_edges same)

pub returns-in-Err : goal.returns-in-Err
returns-in-Err c =
    let (b, q, e) = plan-told five largest limits _ _ _ _ c.read_plan-read.ensures room _ c.in-Err.is in
    says_refused b q e c.write_refusal.ensures

pub returns-in-Ok : goal.returns-in-Ok
returns-in-Ok c =
    let stored : let table = c.read_plan-read.new.table in let graph = c.in-Ok.graph in Holds graph table × (plan_in five largest limits c.args.plan.now ≡ PlanReading.read (plan_of graph table)) = plan_stored five largest limits _ _ _ _ c.read_plan-read.ensures room _ c.in-Ok.is in
    let w = c.write_admitted.ensures in record { kind = w.kind; list = w.list; says = read (stored.1 ∙ ap PlanReading.read (sym c.parts.ensures)) w.says; written = w.written }
