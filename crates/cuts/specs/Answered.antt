-- What is answered to a plan and the tables lent beside it, and what these then hold.
use Rattle.std.specs.Prelude.{◌≡◌, Bool, ◌&&◌, List, [], ℕ, leb, length, replicate}
use Rattle.connectivity.specs.Plan.{Plan, listed, Limits}
use Rattle.connectivity.specs.Admission.{passed}
use Rattle.graph.specs.Admission.{lent}
use Rattle.graph.specs.Marks.{read}
use Rattle.incidence.specs.Tables.{incident_table, begins_table, Front}
use Rattle.incidence.specs.Tables as tables
use Rattle.incidence.specs.Parts.{Cleared}
use Rattle.depth.specs.Depth.{Cutting}
use Rattle.cuts.specs.Verdict.{Lightest}
use Rattle.cuts.specs.Tries.{Searched}
use Rattle.cuts.specs.Verdict.{handed, lowest_after}

-- there is a mark and a place in the order for each vertex, and room for the tables by vertex
abbrev pub enough : Plan → List ℕ → List ℕ → List ℕ → List ℕ → Bool
enough p incident begins first order = leb p.vertices (length first) && (leb p.vertices (length order) && tables.enough p incident begins)

-- what a search from the lowest vertex over all edges leaves, where no vertex has a mark, and the excluded vertices behind it; what lies behind
-- the vertices' places stays
pub record SearchedFrom (most : Limits) (p : Plan) (incident begins first₀ order₀ first order : List ℕ) : Type 0 where
  pub cleared : List ℕ
  pub clear : Cleared p.vertices first₀ cleared
  pub dead : List ℕ
  pub cutting : Cutting p [] (read dead)
  pub searched : Searched p incident begins dead cleared order₀ (replicate most.vertices 0) first order

-- the whole answer
pub record Answered (most : Limits) (p : Plan) (incident₀ begins₀ first₀ order₀ incident begins first order : List ℕ) (r : Lightest) : Type 0 where
  -- 01: the plan's own refusals, then 6 where a lent table is too short; then the lowest cut
  pub answer : handed r ≡ lowest_after (lent most p (enough p incident₀ begins₀ first₀ order₀)) p
  -- served: the tables by vertex, and the search over them
  pub incident_front : (handed r).reply ≡ passed → Front (incident_table (listed p)) incident₀ incident
  pub begins_front : (handed r).reply ≡ passed → Front (begins_table (listed p)) begins₀ begins
  pub searched : (handed r).reply ≡ passed → SearchedFrom most p incident begins first₀ order₀ first order
  -- refused: all of it stays
  pub unchanged : ((handed r).reply ≡ passed → ⊥) → (incident ≡ incident₀) × (begins ≡ begins₀) × (first ≡ first₀) × (order ≡ order₀)
