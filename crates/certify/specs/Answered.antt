-- The verdict on a plan as the writer answers it.
use Rattle.std.specs.Prelude.{◌≡◌, List, [], ◌∷◌, ℕ, length, take, Result, Err, Ok}
use Rattle.connectivity.specs.Plan.{Plan, graph, Limits}
use Rattle.connectivity.specs.Admission.{Handed, served, refusal}
use Rattle.connectivity.specs.Verdict.{verdict, verdict_handed}
use Rattle.connectivity.specs.Fallen.{fall_with}
use Rattle.graph.specs.Admission.{answer_of}
use Rattle.graph.specs.declared.Answer as code
use Rattle.cuts.specs.declared.lowest.Lowest.{Lowest}
use Rattle.record.specs.Answered.{RecordKept}
use Rattle.removal.specs.declared.Fallen.{Fallen}
use Rattle.removal.specs.Fallen.{none, fallen_of, Removed}
use Rattle.certify.specs.declared.Finding.{Finding}
use Rattle.certify.specs.declared.Finding.TheVariants.{Firm, Weak}

-- what the writer gives: what it has found, or why there is no verdict
abbrev pub Found : Type 0
Found = Result Finding code.Answer

-- 01's number, place and values for each case: kind 0 for firm; kind 1 for weak, with how many edges are named and which
abbrev pub handed : Found → Handed
handed (Err a) = refusal (answer_of a)
handed (Ok (Weak cut fallen)) = served (1 ∷ (cut.count ∷ (cut.first ∷ (cut.second ∷ []))))
handed (Ok Firm) = served (0 ∷ [])

-- 02: the marks beside it: a firm or refused one has none
abbrev pub fallen_in : Limits → Found → Fallen
fallen_in most (Err a) = none most
fallen_in most (Ok (Weak cut fallen)) = fallen
fallen_in most (Ok Firm) = none most

-- the edges that a cut names
abbrev pub named : Lowest → List ℕ
named cut = take cut.count (cut.first ∷ (cut.second ∷ []))

-- `weak`: a weak one with what removing its cut gives
abbrev pub weak_after : Lowest → Removed → Found
weak_after cut (Err a) = Err a
weak_after cut (Ok fallen) = Ok (Weak cut fallen)

-- the whole answer: the verdict is handed back, the lent record is as 01 has it, and 02: the pieces that fall with the verdict are marked
pub record Answered (most : Limits) (p : Plan) (before after : List ℕ) (r : Found) : Type 0 where
  pub answer : handed r ≡ verdict_handed (verdict most p (length before))
  pub kept : RecordKept most p before after
  pub fallen : fallen_in most r ≡ fallen_of most (fall_with (graph p) (verdict most p (length before)))
