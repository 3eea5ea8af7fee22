-- A result of reading, met by the code's answer and memory; and what the code's answer tells of the result.
use Rattle.std.specs.Prelude.{Err, Ok}
use mathlib.Core.Path.{◌≡◌, refl, sym, ap, ◌∙◌}
use mathlib.Core.List.{List, ◌++◌, append_assoc}
use Prim.Native.Nat.{ℕ, ◌+◌, ◌*◌, ◌-◌, ◌/◌, ◌≤◌}
use native.Mathlib.Omega.{arith}
use lib.ListN.{length, take, drop, get_or, length-append}
use lib.Seq.{take_at, drop_at}
use borrow.Author.Tests.{eq-eqb}
use Rattle.connectivity.specs.Graph.{edges as all_edges}
use Rattle.connectivity.specs.Plan.{Plan, plan, graph, Limits}
use Rattle.connectivity.specs.Admission.{Answer, Handed, served, kept_vertices, Admitted, admission as meaning}
use Rattle.connectivity.proofs.Admission.{admission_number}
use Rattle.connectivity.proofs.Kept.{admitted_count}
use Rattle.graph.specs.Admission as admission
use Rattle.graph.specs.declared.Answer as code
use Rattle.graph.specs.declared.Graph.{Graph}
use Rattle.graph.specs.Admission.{Admission}
use Rattle.graph.proofs.Lent.{not_served, told_by_lem}
use Rattle.text.specs.Plan.{PlanReading, filled, read_plan}
use Rattle.text.specs.Verdict.{VerdictReading, read_verdict}
use Rattle.text.proofs.RoundTrip.{plan_admitted}
use Rattle.text_read.specs.Entry.{ListRead, handed, plan_handed, list_handed, after_plan, after_verdict, ReadsPlan, ReadsVerdict}

module _ {ws : List ℕ} {most : ℕ} {limits : Limits} {text lent after : List ℕ} where
  pub reads_plan : {r : Admission} (x : PlanReading)
      → read_plan ws most limits text (length lent) ≡ x → admission.handed r ≡ plan_handed x → after ≡ after_plan x lent → ReadsPlan ws most limits text lent after r
  reads_plan x p q m = record { answer = q ∙ sym (ap plan_handed p); memory = m ∙ sym (ap (λ (y : PlanReading). after_plan y lent) p) }

  pub reads_verdict : {r : ListRead} (x : VerdictReading)
      → read_verdict ws most limits text (length lent) ≡ x → handed r ≡ list_handed x → after ≡ after_verdict x lent → ReadsVerdict ws most limits text lent after r
  reads_verdict x p q m = record { answer = q ∙ sym (ap list_handed p); memory = m ∙ sym (ap (λ (y : VerdictReading). after_verdict y lent) p) }

-- an admitted plan in a table that was filled: its parts, and what the constructor says of them
module _ (p : Plan) (lent : List ℕ) (m k : ℕ) (edges : length p.ends ≡ m) (excluded : length p.excluded ≡ k) where
  pub parts : plan p.vertices (take m (filled (p.ends ++ p.excluded) lent)) (take k (drop m (filled (p.ends ++ p.excluded) lent))) ≡ p
  parts =
      let rest = drop (length (p.ends ++ p.excluded)) lent in
      let behind = p.excluded ++ rest in
      rw (append_assoc p.ends p.excluded rest, take_at p.ends behind m edges, drop_at p.ends behind m edges, take_at p.excluded rest k excluded)

pub admitted_served : {limits : Limits} {p : Plan} → Admitted limits p → admission.constructed limits p ≡ served (admission.counts p)
unfolding admission.constructed
admitted_served {limits} {p} a = rw (eq-eqb (meaning limits p).number 0 ((admission_number limits p).1 a))

-- For callers: the case of the answer tells the case of the result.

abbrev value : ℕ → Handed → ℕ
value i h = get_or h.values i 0

-- a plan that was read, and its counts
pub record Told (x : PlanReading) (g : Graph) : Type 0 where
  pub drawn : Plan
  pub is : x ≡ PlanReading.read drawn
  pub vertices : g.vertices ≡ drawn.vertices
  pub edges : g.edges ≡ length drawn.ends / 2
  pub kept_vertices_lem : g.kept_vertices ≡ kept_vertices drawn
  pub kept_edges_lem : g.kept_edges ≡ length (all_edges (graph drawn))

pub plan-told : (x : PlanReading) {r : Admission} {g : Graph} → admission.handed r ≡ plan_handed x → r ≡ Ok g → Told x g
plan-told (PlanReading.refused b) h q = absurd (not_served (sym (rw q at h)))
plan-told (PlanReading.read p) h q =
    let k = rw q at h in
    record { drawn = p; is = refl; vertices = ap (value 0) k; edges = ap (value 1) k; kept_vertices_lem = ap (value 2) k; kept_edges_lem = ap (value 3) k }

-- where the parts of that plan stand in the table: its ends in front, and directly behind them as many excluded vertices as are not kept
pub record Stored (ws : List ℕ) (most : ℕ) (limits : Limits) (text lent after : List ℕ) (g : Graph) : Type 0 where
  pub room : 2 * g.edges + (g.vertices - g.kept_vertices) ≤ length after
  pub is : read_plan ws most limits text (length lent)
      ≡ PlanReading.read (plan g.vertices (take (2 * g.edges) after) (take (g.vertices - g.kept_vertices) (drop (2 * g.edges) after)))

pub plan_stored : {ws : List ℕ} {most : ℕ} {limits : Limits} {text lent after : List ℕ} {r : Admission} {g : Graph}
    → ReadsPlan ws most limits text lent after r → r ≡ Ok g → Stored ws most limits text lent after g
plan_stored {ws} {most} {limits} {text} {lent} {after} {r} {g} reads q =
    let t = plan-told (read_plan ws most limits text (length lent)) reads.answer q in
    go t.drawn t.is t.vertices t.edges t.kept_vertices_lem
  where
    go : (p : Plan) → read_plan ws most limits text (length lent) ≡ PlanReading.read p → g.vertices ≡ p.vertices → g.edges ≡ length p.ends / 2
        → g.kept_vertices ≡ kept_vertices p → Stored ws most limits text lent after g
    go p x v e k =
        let both = p.ends ++ p.excluded in
        let a = plan_admitted ws most limits text (length lent) p x in
        let edges : length p.ends ≡ 2 * g.edges = omega (arith, a.even) in
        let excluded : length p.excluded ≡ p.vertices - g.kept_vertices = omega (arith, admitted_count a) in
        let m : after ≡ filled both lent = reads.memory ∙ ap (λ (y : PlanReading). after_plan y lent) x in
        record {
          room = omega (arith, ap length m, length-append both (drop (length both) lent), length-append p.ends p.excluded);
          is = x ∙ ap PlanReading.read (sym (rw (m, v) (parts p lent (2 * g.edges) (p.vertices - g.kept_vertices) edges excluded)));
        }

pub plan-refusal : (x : PlanReading) {r : Admission} {a : code.Answer} → admission.handed r ≡ plan_handed x → r ≡ Err a
    → (b : Answer) × (x ≡ PlanReading.refused b) × (a ≡ admission.told_by b)
plan-refusal (PlanReading.refused b) h q = (b, refl, told_by_lem (rw q at h))
plan-refusal (PlanReading.read p) h q = absurd (not_served (rw q at h))

pub verdict-told : (x : VerdictReading) {r : ListRead} {kind count : ℕ} → handed r ≡ list_handed x → r ≡ Ok (record { kind = kind; count = count })
    → (list : List ℕ) × (x ≡ VerdictReading.read kind list) × (count ≡ length list)
verdict-told (VerdictReading.refused b) h q = absurd (not_served (sym (rw q at h)))
verdict-told (VerdictReading.read k list) h q = let z = rw q at h in (list, ap (λ (n : ℕ). VerdictReading.read n list) (sym (ap (value 0) z)), ap (value 1) z)

pub verdict-refusal : (x : VerdictReading) {r : ListRead} {a : code.Answer} → handed r ≡ list_handed x → r ≡ Err a
    → (b : Answer) × (x ≡ VerdictReading.refused b) × (a ≡ admission.told_by b)
verdict-refusal (VerdictReading.refused b) h q = (b, refl, told_by_lem (rw q at h))
verdict-refusal (VerdictReading.read k list) h q = absurd (not_served (rw q at h))
