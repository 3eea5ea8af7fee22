-- What the constructor of a graph answers.
use Rattle.std.specs.Prelude.{◌≡◌, Bool, cond, List, [], ◌∷◌, ℕ, ◌/◌, ◌%◌, ◌≤◌, eqb, length, Result, Err, Ok}
use Rattle.connectivity.specs.Plan.{Plan, Limits}
use Rattle.connectivity.specs.Admission as meaning
use Rattle.graph.specs.declared.Answer.{Answer}
use Rattle.graph.specs.declared.Graph.{Graph}

-- an answer of the definitions as the code's type has it, and the other way
abbrev pub told_by : meaning.Answer → Answer
told_by a = record { number = a.number; place = a.place }

abbrev pub answer_of : Answer → meaning.Answer
answer_of a = meaning.answer a.number a.place

-- what the constructor gives: a graph, or why there is none
abbrev pub Admission : Type 0
Admission = Result Graph Answer

-- 01's number, place and values for each case; the values of an admitted plan are how many vertices and edges it lists, and how many of them it
-- keeps
abbrev pub handed : Admission → meaning.Handed
handed (Ok g) = meaning.served (g.vertices ∷ (g.edges ∷ (g.kept_vertices ∷ (g.kept_edges ∷ []))))
handed (Err a) = meaning.refusal (answer_of a)

-- the counts of a plan: vertices and edges as it lists them (01), and those that it keeps (02)
abbrev pub counts : Plan → List ℕ
counts p = p.vertices ∷ (length p.ends / 2 ∷ (meaning.kept_vertices p ∷ (meaning.kept_edges p ∷ [])))

-- what is handed back of a plan: its counts where admission answers 0, else that answer
unfoldable pub constructed : Limits → Plan → meaning.Handed
constructed most p =
    let a = meaning.admission most p in
    cond (eqb a.number 0) (meaning.served (counts p)) (meaning.refusal a)

-- 01: the plan's own refusals, then 6 where the lent space is too short
unfoldable pub lent : Limits → Plan → Bool → meaning.Answer
lent most p enough = meaning.and_then (meaning.admission most p) (cond enough meaning.passed (meaning.answer 6 0))

-- a plan that 1 to 5 do not refuse
pub record Listed (most : Limits) (p : Plan) : Type 0 where
  pub even : length p.ends % 2 ≡ 0
  pub two : 2 ≤ p.vertices
  pub small : p.vertices ≤ most.vertices
  pub short : length p.ends / 2 ≤ most.edges
  pub fits : meaning.ends_answer p.vertices 0 p.ends ≡ meaning.passed
