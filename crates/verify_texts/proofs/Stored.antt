-- What the tables hold once the texts have been read into them: their front is what the definitions read.
use Rattle.std.specs.Prelude.{Err, Ok}
use mathlib.Core.Path.{◌≡◌, sym, ap, ◌∙◌}
use mathlib.Core.List.{List}
use Prim.Native.Nat.{ℕ, ◌+◌, ◌*◌, ◌-◌, ◌≤◌}
use native.Mathlib.Omega.{arith}
use lib.ListN.{length, take, drop, length-append}
use lib.Seq.{take_at}
use Rattle.connectivity.specs.Plan.{Plan, plan, Limits}
use Rattle.connectivity.specs.Admission as meaning
use Rattle.connectivity.proofs.Kept.{admitted_count}
use Rattle.graph.specs.Admission.{told_by}
use Rattle.graph.specs.declared.Answer.{Answer}
use Rattle.graph.specs.declared.Graph.{Graph}
use Rattle.graph.specs.Admission.{Admission}
use Rattle.text.specs.Plan.{PlanReading, filled, read_plan}
use Rattle.text.specs.Verdict.{VerdictReading, read_verdict}
use Rattle.text_read.specs.Entry.{ListRead, plan_handed, list_handed, after_verdict, ReadsPlan, ReadsVerdict}
use Rattle.text.proofs.RoundTrip.{plan_admitted}
use Rattle.text_read.proofs.Result as result
use Rattle.verify_texts.specs.Texts.{plan_in, verdict_in, judge_read}
use Rattle.verify_texts.specs.Table.{excluded_count, Holds, plan_of}
use Rattle.verify_texts.proofs.TwoTexts.{plan_space, verdict_space}

front : (xs lent : List ℕ) (k : ℕ) → length xs ≡ k → (k ≤ length (filled xs lent)) × (take k (filled xs lent) ≡ xs)
front xs lent k p = (omega (arith, length-append xs (drop (length xs) lent)), take_at xs (drop (length xs) lent) k p)

read_same : {p d : Plan} → PlanReading.read p ≡ PlanReading.read d → p ≡ d
read_same q = cc

-- a plan that is read is admitted
pub planned : (ws : List ℕ) (most : ℕ) (limits : Limits) (plan : List ℕ) {p : Plan} → plan_in ws most limits plan ≡ PlanReading.read p → meaning.Admitted limits p
unfolding plan_in
planned ws most limits plan q = plan_admitted ws most limits plan _ _ q

-- the plan's table has room for every admitted plan
module _ (ws : List ℕ) (most : ℕ) (limits : Limits) (text lent after : List ℕ) (r : Admission) (reads : ReadsPlan ws most limits text lent after r)
    (room : 2 * limits.edges + limits.vertices ≤ length lent) where
  plan_here : read_plan ws most limits text (length lent) ≡ plan_in ws most limits text
  plan_here = plan_space ws most limits text (length lent) room

  pub plan_stored : (g : Graph) → r ≡ Ok g → Holds g after × (plan_in ws most limits text ≡ PlanReading.read (plan_of g after))
  plan_stored g q =
      let t = result.plan-told (read_plan ws most limits text (length lent)) reads.answer q in
      let s = result.plan_stored reads q in
      let count = admitted_count (plan_admitted ws most limits text (length lent) t.drawn t.is) in
      let same : t.drawn ≡ plan_of g after = read_same (sym t.is ∙ s.is) in (
        record {
          kept = omega (arith, count, t.vertices, t.kept_vertices_lem);
          inside = s.room;
          kept_edges_lem = t.kept_edges_lem ∙ ap meaning.kept_edges same;
        },
        sym plan_here ∙ s.is,
      )

  pub plan-told : (a : Answer) → r ≡ Err a → (b : meaning.Answer) × (plan_in ws most limits text ≡ PlanReading.refused b) × (a ≡ told_by b)
  plan-told a q = result.plan-refusal (plan_in ws most limits text) (reads.answer ∙ ap plan_handed plan_here) q

  pub plan-refused : (a : Answer) (verdict : VerdictReading) → r ≡ Err a → a ≡ told_by (judge_read limits (plan_in ws most limits text) verdict)
  unfolding judge_read
  plan-refused a verdict q = let (b, x, e) = plan-told a q in e ∙ ap (λ (y : PlanReading). told_by (judge_read limits y verdict)) (sym x)

-- the verdict's list has room for every verdict with a text form
module _ (ws : List ℕ) (most : ℕ) (limits : Limits) (text lent after : List ℕ) (r : ListRead) (reads : ReadsVerdict ws most limits text lent after r)
    (room : 3 * limits.edges ≤ length lent) (two : 2 ≤ length lent) where
  verdict_is : read_verdict ws most limits text (length lent) ≡ verdict_in ws most limits text
  verdict_is = verdict_space ws most limits text (length lent) room two

  pub verdict_stored : (kind count : ℕ) → r ≡ Ok (record { kind = kind; count = count })
      → (count ≤ length after) × (verdict_in ws most limits text ≡ VerdictReading.read kind (take count after))
  verdict_stored kind count q =
      let (list, x, e) = result.verdict-told (read_verdict ws most limits text (length lent)) reads.answer q in
      let m : after ≡ filled list lent = reads.memory ∙ ap (λ (y : VerdictReading). after_verdict y lent) x in
      let f = front list lent count (sym e) in
      (rw m f.0, sym verdict_is ∙ x ∙ ap (VerdictReading.read kind) (rw m (sym f.1)))

  pub verdict-refused : (p : Plan) (a : Answer) → r ≡ Err a → a ≡ told_by (judge_read limits (PlanReading.read p) (verdict_in ws most limits text))
  unfolding judge_read
  verdict-refused p a q =
      let (b, x, e) = result.verdict-refusal (verdict_in ws most limits text) (reads.answer ∙ ap list_handed verdict_is) q in
      e ∙ ap (λ (y : VerdictReading). told_by (judge_read limits (PlanReading.read p) y)) (sym x)
