-- What `balance` answers: the plan's refusal, 6 where a lent table is too short, or labels and their sums.
use mathlib.Core.Path.{◌≡◌, refl, sym, ap, ◌∙◌}
use mathlib.Core.List.{List}
use Prim.Native.Nat.{ℕ, ◌/◌, ◌<◌}
use lib.ListN.{length, get_or}
use Rattle.connectivity.specs.Plan.{Plan, graph, Limits}
use Rattle.connectivity.specs.Admission.{Admitted}
use Rattle.graph.specs.declared.Answer.{Answer}
use Rattle.graph.specs.Marks.{read}
use Rattle.graph.specs.Admission.{told_by, lent}
use Rattle.graph.proofs.Lent.{RefusedBy, lent-enough}
use Rattle.incidence.proofs.Loops.{kept_same}
use Rattle.labels.specs.Label.{Balanced}
use Rattle.labels.specs.Answered.{ForestOf, fits, Labelled}
use Rattle.labels.specs.Labels.{Settling}
use Rattle.graph.proofs.Telling.{told_admitted}
use Rattle.labels.proofs.LongEnough.{Roomy, room_is}
use Rattle.labels.proofs.Sums.{balanced_all}
use Rattle.labels.proofs.Settling.{settled}

module _ {most : Limits} {p : Plan} (first order labels sums : List ℕ) where
  pub labelled_refused : {r : Answer} → RefusedBy (lent most p (fits p first order labels sums)) r → Labelled most p first order labels sums labels sums r
  labelled_refused {r} q =
      let no : r.number ≡ 0 → ⊥ = λ z. q.0 (sym (ap (λ (x : Answer). x.number) q.1) ∙ z) in
      record {
        answer = q.1;
        sum = λ z. absurd (no z);
        outside = λ z. absurd (no z);
        balanced = λ z. absurd (no z);
        labels_kept = kept_same (length p.ends / 2) labels;
        sums_kept = kept_same p.vertices sums;
        unchanged = λ n. (refl, refl);
      }

  pub labelled_done : {after afters : List ℕ} {r : Answer} → r ≡ told_by (lent most p (fits p first order labels sums)) → r.number ≡ 0 → Settling p first order labels sums after afters 0
      → Labelled most p first order labels sums after afters r
  labelled_done q z y = record {
    answer = q;
    sum = λ _. y.scattered.summed.sum;
    outside = λ _. y.scattered.summed.outside;
    balanced = λ _. settled (told_admitted most p (fits p first order labels sums) q z) y;
    labels_kept = y.scattered.labels_kept;
    sums_kept = y.scattered.sums_kept;
    unchanged = λ n. absurd (n z);
  }

-- For callers: with tables that are long enough an admitted plan is not refused, and a spanning forest gives labels that cancel.

module _ {most : Limits} {p : Plan} {first order labels₀ sums₀ labels sums : List ℕ} {r : Answer} (c : Labelled most p first order labels₀ sums₀ labels sums r)
    (a : Admitted most p) (h : Roomy p first order labels₀ sums₀) where
  pub labelled_served : r.number ≡ 0
  labelled_served = ap (λ (x : Answer). x.number) (c.answer ∙ ap told_by (lent-enough (fits p first order labels₀ sums₀) a ((room_is p first order labels₀ sums₀).test h)))

  module _ (t : ForestOf p first order) where
    pub labelled_balanced : Balanced (graph p) (read labels)
    labelled_balanced = c.balanced labelled_served t

    pub labelled_zero : (v : ℕ) → v < p.vertices → get_or sums v 0 ≡ 0
    labelled_zero v b = c.sum labelled_served v b ∙ balanced_all (graph p) (read labels) labelled_balanced v
