-- What the entry answers to a drawn list, and what the two lent tables hold afterwards.
use Rattle.std.specs.Prelude.{◌≡◌, List, ℕ, length}
use Rattle.connectivity.specs.Plan.{Limits}
use Rattle.connectivity.specs.Admission.{Handed, served, refusal}
use Rattle.graph.specs.Admission as admission
use Rattle.graph.specs.Admission.{Admission}
use Rattle.text.specs.Plan.{filled}
use Rattle.drawn.specs.Drawing.{taken_plan, taken_numbers}
use Rattle.drawn.specs.Text.{Form, Reading, refused, read, read_drawn}

-- what is handed back: the counts of the plan of the taken tabs, or the refusal
abbrev pub handed : Reading → Handed
handed (refused a) = refusal a
handed (read d) = served (admission.counts (taken_plan d))

-- 02: the table of ends after: unchanged by a refusal; else it begins with the ends of the plan, and the numbers behind stay
abbrev pub after_ends : Reading → List ℕ → List ℕ
after_ends (refused a) lent = lent
after_ends (read d) lent = filled (taken_plan d).ends lent

-- 02: the table from the plan's numbers to the drawn ones likewise
abbrev pub after_numbers : Reading → List ℕ → List ℕ
after_numbers (refused a) lent = lent
after_numbers (read d) lent = filled (taken_numbers d) lent

-- the answer to a text, and both tables after it
pub record ReadsDrawn (f : Form) (limits : Limits) (text ends numbers ends' numbers' : List ℕ) (r : Admission) : Type 0 where
  pub answer : admission.handed r ≡ handed (read_drawn f limits text (length ends) (length numbers))
  pub plan : ends' ≡ after_ends (read_drawn f limits text (length ends) (length numbers)) ends
  pub table : numbers' ≡ after_numbers (read_drawn f limits text (length ends) (length numbers)) numbers
