-- The writer's answer is the one about the record, a weak one with its cut and what falls with it.
use Rattle.std.specs.Prelude.{Err, Ok, None, Some}
use mathlib.Core.Path.{◌≡◌, refl, sym, ap, ◌∙◌}
use mathlib.Core.List.{List}
use Prim.Native.Nat.{ℕ}
use lib.ListN.{length}
use Rattle.connectivity.specs.Plan.{Plan, graph, Limits}
use Rattle.connectivity.specs.Verdict.{Verdict, verdict, verdict_handed}
use Rattle.connectivity.specs.Fallen.{fall_with}
use Rattle.connectivity.proofs.Verdict.{weak_served}
use Rattle.cuts.specs.Verdict.{Lightest}
use Rattle.cuts.specs.declared.lowest.Lowest.{Lowest}
use Rattle.cuts.specs.Verdict as lower
use Rattle.record.specs.Answered as record-answer
use Rattle.removal.specs.Fallen.{fallen_by, fallen_of, removed_by}
use Rattle.removal.proofs.Falling.{removed_falls}
use Rattle.certify.specs.declared.Finding.TheVariants.{Firm, Weak}
use Rattle.certify.specs.Answered.{Found, Answered, weak_after, named, handed, fallen_in}
use Rattle.certify.proofs.Outcomes.{firm_only, refused_none, blank_falls, weak_told}

abbrev pub finding : Limits → Plan → Lightest → Found
finding most p (Err a) = Err a
finding most p (Ok None) = Ok Firm
finding most p (Ok (Some cut)) = Ok (Weak cut (fallen_by most p (named cut)))

module _ (most : Limits) (p : Plan) where
  finding_handed : (l : Lightest) → handed (finding most p l) ≡ lower.handed l
  finding_handed (Err a) = refl
  finding_handed (Ok None) = refl
  finding_handed (Ok (Some cut)) = refl

  finding_falls : (l : Lightest) (space : ℕ) → lower.handed l ≡ verdict_handed (verdict most p space) → fallen_in most (finding most p l) ≡ fallen_of most (fall_with (graph p) (verdict most p space))
  unfolding fall_with
  finding_falls (Err a) space h = sym (blank_falls most (fall_with (graph p) (verdict most p space)) (refused_none (graph p) (verdict most p space) h))
  finding_falls (Ok None) space h = sym (blank_falls most (fall_with (graph p) (verdict most p space)) (ap (fall_with (graph p)) (firm_only (verdict most p space) h)))
  finding_falls (Ok (Some cut)) space h = ap (λ (w : Verdict). fallen_of most (fall_with (graph p) w)) (sym (weak_told most p space cut h).1)

pub answers : {most : Limits} {p : Plan} {before after : List ℕ} (l : Lightest) {r : Found} → record-answer.Answered most p before after l → r ≡ finding most p l → Answered most p before after r
answers {most} {p} {before} l c q = rw q (record { answer = finding_handed most p l ∙ c.answer; kept = c.kept; fallen = finding_falls most p l (length before) c.answer })

-- a weak one is of an admitted plan, so what falls with its cut is told
pub weak_answers : {most : Limits} {p : Plan} {before after : List ℕ} (cut : Lowest) {r : Found} → record-answer.Answered most p before after (Ok (Some cut))
    → r ≡ weak_after cut (removed_by most p (named cut)) → Answered most p before after r
weak_answers {most} {p} {before} cut c q =
    let a = (weak_served most p (length before) (weak_told most p (length before) cut c.answer).1).0 in
    answers (Ok (Some cut)) c (q ∙ ap (weak_after cut) (removed_falls a (named cut) refl))
