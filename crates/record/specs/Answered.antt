-- What is said of a plan and its record, and the lent list afterwards.
use Rattle.std.specs.Prelude.{◌≡◌, ℕ, ◌*◌, List, length, take, drop, ◌≢◌}
use Rattle.connectivity.specs.Plan.{Plan, Limits}
use Rattle.connectivity.specs.Admission.{kept_edges, passed}
use Rattle.connectivity.specs.Verdict.{firm, verdict, verdict_handed}
use Rattle.connectivity.specs.Judge.{judge}
use Rattle.cuts.specs.Verdict.{Lightest}
use Rattle.cuts.specs.Verdict.{handed}

-- 01: the lent list after a verdict: firm: the record at its front, three numbers for each edge of the graph, passes and the numbers behind it
-- stay; weak or refused: it is unchanged
pub record RecordKept (most : Limits) (p : Plan) (before after : List ℕ) : Type 0 where
  pub passes : verdict most p (length before) ≡ firm → judge most p 0 (take (3 * kept_edges p) after) ≡ passed
  pub behind : drop (3 * kept_edges p) after ≡ drop (3 * kept_edges p) before
  pub unchanged : (verdict most p (length before) ≢ firm) → after ≡ before

-- the whole answer: the verdict is handed back, a weak one with its lowest cut, and the lent list is as 01 has it
pub record Answered (most : Limits) (p : Plan) (before after : List ℕ) (r : Lightest) : Type 0 where
  pub answer : handed r ≡ verdict_handed (verdict most p (length before))
  pub kept : RecordKept most p before after
