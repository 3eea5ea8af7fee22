-- What `label` answers: the plan's refusal, 6 where a lent table is too short, or tables, a spanning forest and labels that cancel.
use mathlib.Core.Path.{◌≡◌, refl, sym, ap, ◌∙◌}
use mathlib.Core.List.{List}
use Prim.Native.Nat.{ℕ, ◌≤◌}
use lib.ListN.{length}
use Rattle.connectivity.specs.Plan.{Plan, graph, Limits}
use Rattle.connectivity.specs.Admission.{Admitted}
use Rattle.graph.specs.Admission.{told_by, lent}
use Rattle.graph.specs.declared.Answer.{Answer}
use Rattle.graph.specs.Marks.{read}
use Rattle.graph.proofs.Lent.{RefusedBy, lent-enough}
use Rattle.labels.specs.Labels.{Settling}
use Rattle.labels.specs.Answered.{ForestOf, Tables, enough, Laid, Spanned, Cancelled, Answered}
use Rattle.labels.proofs.Sums.{balanced_all}
use Rattle.labels.proofs.Settling.{settled}
use Rattle.labels.proofs.Growing.{zeros_front}
use Rattle.labels.proofs.LongEnough.{AmpleFor, ample_is}

-- labels that are settled along a forest
pub cancelled : {most : Limits} {p : Plan} {first order labels₀ sums₀ labels sums : List ℕ} → Admitted most p → p.vertices ≤ length sums₀ → ForestOf p first order
    → Settling p first order labels₀ sums₀ labels sums 0 → Cancelled p labels₀ sums₀ labels sums
cancelled {p = p} {sums₀ = sums₀} {labels = labels} a room t s = record {
  outside = s.scattered.summed.outside;
  balanced = settled a s t;
  labels_kept = s.scattered.labels_kept;
  sums_front = zeros_front sums₀ room (record { kept = s.scattered.sums_kept; zero = λ v h. s.scattered.summed.sum v h ∙ balanced_all (graph p) (read labels) (settled a s t) v });
}

module _ {most : Limits} {p : Plan} (before : Tables) where
  pub answers_refused : {r : Answer} → RefusedBy (lent most p (enough p before)) r → Answered most p before before r
  answers_refused {r} q =
      let no : r.number ≡ 0 → ⊥ = λ z. q.0 (sym (ap (λ (x : Answer). x.number) q.1) ∙ z) in
      record {
        answer = q.1;
        laid = λ z. absurd (no z);
        spanned = λ z. absurd (no z);
        cancelled = λ z. absurd (no z);
        unchanged = λ n. refl;
      }

  pub answers_served : {after : Tables} {r : Answer} → r ≡ told_by (lent most p (enough p before)) → r.number ≡ 0
      → Laid p before.incident before.begins before.dead after.incident after.begins after.dead
      → Spanned p before.first before.order before.cursor after.first after.order after.cursor
      → Cancelled p before.labels before.sums after.labels after.sums → Answered most p before after r
  answers_served q z l s c = record {
    answer = q;
    laid = λ _. l;
    spanned = λ _. s;
    cancelled = λ _. c;
    unchanged = λ n. absurd (n z);
  }

-- For callers: with tables that are long enough an admitted plan is not refused.
pub answers_zero : {most : Limits} {p : Plan} {before after : Tables} {r : Answer} → Answered most p before after r → Admitted most p → AmpleFor p before → r.number ≡ 0
answers_zero {p = p} {before = before} c a h = ap (λ (x : Answer). x.number) (c.answer ∙ ap told_by (lent-enough (enough p before) a ((ample_is p before).test h)))
