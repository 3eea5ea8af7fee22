-- The plan in a table that was filled, and its counts.
use Rattle.std.specs.Prelude.{◌≡◌, List, ℕ, ◌+◌, ◌*◌, ◌-◌, ◌≤◌, length, take, drop}
use Rattle.connectivity.specs.Plan.{Plan, plan}
use Rattle.connectivity.specs.Admission.{kept_edges}
use Rattle.graph.specs.declared.Graph.{Graph}

-- how many vertices are excluded, by the counts
abbrev pub excluded_count : Graph → ℕ
excluded_count g = g.vertices - g.kept_vertices

-- 02: the ends, and the slugs directly behind them
abbrev pub plan_of : Graph → List ℕ → Plan
plan_of g table = plan g.vertices (take (2 * g.edges) table) (take (excluded_count g) (drop (2 * g.edges) table))

-- the table has room for this plan, which has these counts
pub record Holds (g : Graph) (table : List ℕ) : Type 0 where
  pub kept : g.kept_vertices ≤ g.vertices
  pub inside : 2 * g.edges + excluded_count g ≤ length table
  pub kept_edges_lem : g.kept_edges ≡ kept_edges (plan_of g table)
