-- `check_verdict` meets its contract: the list's table has room for every verdict, and what was read of it is judged.
use mathlib.Core.Path.{◌≡◌, sym, ap, ◌∙◌}
use Prim.Native.Nat.{ℕ, ◌*◌, ◌≤◌}
use native.Mathlib.Omega.{arith}
use lib.ListN.{length, take, length-take, length-replicate}
use Rattle.connectivity.specs.Plan.{plan, limits}
use Rattle.graph.specs.Admission.{told_by}
use Rattle.text.specs.Column.{five, largest}
use Rattle.text.specs.Plan.{PlanReading}
use Rattle.text.specs.Verdict.{VerdictReading}
use Rattle.verify_texts.specs.Texts.{verdict_in, judge_read}
use Rattle.verify_texts.proofs.Stored.{verdict_stored, verdict-refused}
use Rattle.verify_texts.proofs.check_verdict.Goals as goal

pub slice_bounds-list-end : goal.slice_bounds-list-end
slice_bounds-list-end c =
    let stored : let list = c.read_verdict.new.list in let count = c.in-Ok.read.count in (count ≤ length list) × (verdict_in five largest limits c.args.verdict.now ≡ VerdictReading.read c.in-Ok.read.kind (take count list)) = verdict_stored five largest limits _ _ _ _ c.read_verdict.ensures (omega (arith, length-replicate {A = ℕ} (3 * limits.edges) 0)) (omega (arith, length-replicate {A = ℕ} (3 * limits.edges) 0)) _ _ c.in-Ok.is in
    omega (arith, stored.0)

pub slice_bounds-check-end : goal.slice_bounds-check-end
slice_bounds-check-end c =
    let stored : let list = c.read_verdict.new.list in let count = c.in-Ok.read.count in (count ≤ length list) × (verdict_in five largest limits c.args.verdict.now ≡ VerdictReading.read c.in-Ok.read.kind (take count list)) = verdict_stored five largest limits _ _ _ _ c.read_verdict.ensures (omega (arith, length-replicate {A = ℕ} (3 * limits.edges) 0)) (omega (arith, length-replicate {A = ℕ} (3 * limits.edges) 0)) _ _ c.in-Ok.is in
    simp length-take (omega (arith, stored.0))

pub returns-in-Err : goal.returns-in-Err
returns-in-Err c = verdict-refused five largest limits _ _ _ _ c.read_verdict.ensures (omega (arith, length-replicate {A = ℕ} (3 * limits.edges) 0)) (omega (arith, length-replicate {A = ℕ} (3 * limits.edges) 0)) _ _ c.in-Err.is

pub returns-in-Ok : goal.returns-in-Ok
unfolding judge_read
returns-in-Ok c =
    let stored : let list = c.read_verdict.new.list in let count = c.in-Ok.read.count in (count ≤ length list) × (verdict_in five largest limits c.args.verdict.now ≡ VerdictReading.read c.in-Ok.read.kind (take count list)) = verdict_stored five largest limits _ _ _ _ c.read_verdict.ensures (omega (arith, length-replicate {A = ℕ} (3 * limits.edges) 0)) (omega (arith, length-replicate {A = ℕ} (3 * limits.edges) 0)) _ _ c.in-Ok.is in
    let drawn = PlanReading.read (plan c.args.vertices c.args.ends.now c.args.excluded.now) in
    c.check.ensures ∙ sym (ap (λ (x : VerdictReading). told_by (judge_read limits drawn x)) stored.1)
