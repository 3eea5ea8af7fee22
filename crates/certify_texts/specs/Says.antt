-- Which verdict is written for a plan text, and where its text then stands.
use Rattle.std.specs.Prelude.{◌≡◌, List, [], ◌∷◌, ℕ, ◌*◌}
use Rattle.connectivity.specs.Plan.{Plan, Limits}
use Rattle.connectivity.specs.Admission.{Answer, passed, kept_edges}
use Rattle.connectivity.specs.Judge.{judge}
use Rattle.connectivity.specs.Verdict as meaning
use Rattle.text.specs.Plan.{PlanReading}
use Rattle.text_write.specs.Entry.{WritesVerdict}
use Rattle.text_write.specs.Entry.{Written}
use Rattle.verify_texts.specs.Texts.{plan_in}

-- 01: kind 1 with the tabs of a weak plan, kind 0 with a record that passes of a firm one
pub data SaysOf (limits : Limits) (p : Plan) : ℕ → List ℕ → Type 0 where
  weak : {cut : List ℕ} → meaning.verdict limits p (3 * kept_edges p) ≡ meaning.weak cut → SaysOf limits p 1 cut
  firm : {list : List ℕ} → meaning.verdict limits p (3 * kept_edges p) ≡ meaning.firm → judge limits p 0 list ≡ passed → SaysOf limits p 0 list

-- In what follows `ws` are the worths of a column's digits and `most` is the largest value.

-- 01: for a plan text; kind 2 with the number of its refusal where it is refused
pub data Says (ws : List ℕ) (most : ℕ) (limits : Limits) (plan : List ℕ) : ℕ → List ℕ → Type 0 where
  refused : {a : Answer} → plan_in ws most limits plan ≡ PlanReading.refused a → Says ws most limits plan 2 (a.number ∷ [])
  read : {p : Plan} {kind : ℕ} {list : List ℕ} → plan_in ws most limits plan ≡ PlanReading.read p → SaysOf limits p kind list → Says ws most limits plan kind list

-- that verdict's text is written at the front of the lent bytes, those behind it stay; 6 and unchanged where they are fewer than the text
pub record WritesFor (ws : List ℕ) (most : ℕ) (limits : Limits) (plan before after : List ℕ) (r : Written) : Type 0 where
  pub kind : ℕ
  pub list : List ℕ
  pub says : Says ws most limits plan kind list
  pub written : WritesVerdict ws limits kind list before after r

-- the same of a plan that has been read
pub record WritesOf (ws : List ℕ) (limits : Limits) (p : Plan) (before after : List ℕ) (r : Written) : Type 0 where
  pub kind : ℕ
  pub list : List ℕ
  pub says : SaysOf limits p kind list
  pub written : WritesVerdict ws limits kind list before after r
