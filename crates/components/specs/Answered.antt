-- What is answered to a plan and the table lent for its groups, and what the table then holds.
use Rattle.std.specs.Prelude.{◌≡◌, List, ℕ, leb, length}
use Rattle.connectivity.specs.Plan.{Plan, graph, Limits}
use Rattle.connectivity.specs.Component.{components}
use Rattle.graph.specs.declared.Answer.{Answer}
use Rattle.graph.specs.Admission.{told_by, lent}
use Rattle.incidence.specs.Tables.{Front}

-- the whole answer
pub record Answered (most : Limits) (p : Plan) (table₀ table : List ℕ) (r : Answer) : Type 0 where
  -- 02: the plan's own refusals, then 6 where the table has fewer than one number for each vertex, else 0
  pub answer : r ≡ told_by (lent most p (leb p.vertices (length table₀)))
  -- served: for each vertex the lowest one of its group, for an excluded one itself; the numbers behind stay
  pub front : r.number ≡ 0 → Front (components (graph p)) table₀ table
  -- refused: all of it stays
  pub unchanged : (r.number ≡ 0 → ⊥) → table ≡ table₀
