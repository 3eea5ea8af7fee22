-- `judge_rows` meets its contract: each turn takes up a row, and what is left to judge is the rest.
use mathlib.Core.List.{List}
use mathlib.Core.Path.{◌≡◌, sym, ap, ◌∙◌}
use Prim.Native.Nat.{ℕ, ◌*◌, ◌+◌, ◌<◌}
use native.Mathlib.Omega.{arith}
use lib.ListN.{length, length-replicate}
use Rattle.connectivity.specs.Plan.{plan, limits}
use Rattle.graph.specs.Admission.{told_by}
use Rattle.graph.specs.declared.Graph.{Graph}
use Rattle.graph.proofs.Lent.{Made}
use Rattle.graph.proofs.Tally.{zeros}
use Rattle.verify_firm.specs.Marks.{Ready}
use Rattle.graph.proofs.Barring.{edges_few}
use Rattle.verify_firm.proofs.Keeping.{masked_open}
use Rattle.verify_firm.specs.declared.state.State.{State}
use Rattle.verify_firm.proofs.Judged.{Judged, judged_start, judged_stop, judged_next, judged_passes, judged_fails}
use Rattle.verify_firm.proofs.firm.judge_rows.Goals as goal

row_there : {n row m : ℕ} → m ≡ 3 * n → row < n → 3 * row + 2 < m
row_there long h = omega (arith, long, h)

-- the next row may be taken up
abbrev ready : {counts : Graph} {ends excluded list used : List ℕ} {state : State} {row : ℕ} → Made limits (plan counts.vertices ends excluded) counts
    → length list ≡ 3 * counts.kept_edges → row < counts.kept_edges → Judged limits (plan counts.vertices ends excluded) list used state row
    → Ready limits ends used list row state
ready {counts} {ends} {excluded} made long h j = record {
  n = counts.vertices;
  excluded = excluded;
  admitted = made.admitted;
  read = row_there long h;
  below = omega (arith, h, made.kept_edges_lem, edges_few (plan counts.vertices ends excluded), made.admitted.edges);
  done = j.done;
  walk = j.walk;
  represents = j.represents;
}

pub loop-row-init : goal.loop-row-init
loop-row-init c =
    let m = c.mask.ensures in
    let long = length-replicate {A = ℕ} limits.edges 0 in
    judged_start (c.new-state.ensures _ _ _ (m.long ∙ long) (masked_open c.requires.0.admitted m long (λ e. zeros limits.edges e)))

pub step-taken-requires : goal.step-taken-requires
step-taken-requires c = ready c.requires.0 c.requires.1 c.loop-row-test.true c.loop-row.invariant

pub returns-then-number-ne0 : goal.returns-then-number-ne0
returns-then-number-ne0 c =
    let j = c.loop-row.invariant in
    judged_stop j (row_there c.requires.1 c.loop-row-test.true) c.step-taken.result c.is_last-last.ensures
    (c.step-taken.ensures (ready c.requires.0 c.requires.1 c.loop-row-test.true j)) c.if-number-ne0.true

pub loop-row-preserved : goal.loop-row-preserved
loop-row-preserved c =
    let j = c.loop-row.invariant in
    judged_next j (row_there c.requires.1 c.loop-row-test.true) c.step-taken.result c.is_last-last.ensures
    (c.step-taken.ensures (ready c.requires.0 c.requires.1 c.loop-row-test.true j)) c.if-number-ne0.false

pub closed-requires : goal.closed-requires
closed-requires c = omega (arith, c.loop-row.invariant.represents.holds.marks_length, c.requires.0.admitted.vertices)

pub returns-then-closed : goal.returns-then-closed
returns-then-closed c =
    let over : 3 * c.loop-row.row ≡ length c.args.list.now = omega (arith, c.loop-row-test.false, c.requires.1) in
    let made = c.requires.0 in
    c.answer.ensures ∙ sym (ap told_by (judged_passes c.loop-row.invariant over made.admitted.vertices made.kept_vertices_lem (rw c.if-closed.true at c.closed.ensures)))

pub returns : goal.returns
returns c =
    let over : 3 * c.loop-row.row ≡ length c.args.list.now = omega (arith, c.loop-row-test.false, c.requires.1) in
    let made = c.requires.0 in
    c.answer-2.ensures ∙ sym (ap told_by (judged_fails c.loop-row.invariant over made.admitted.vertices made.kept_vertices_lem (rw c.if-closed.false at c.closed.ensures)))
