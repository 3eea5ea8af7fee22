-- How a spanning forest is made: by searches from one root after the other.
use Rattle.std.specs.Prelude.{◌≡◌, List, ℕ, ◌*◌, ◌/◌, ◌≤◌, ◌<◌, length, get_or}
use Rattle.connectivity.specs.Plan.{Plan, graph, Limits}
use Rattle.graph.specs.Marks.{read, Marked}
use Rattle.incidence.specs.Tables.{Tabled}
use Rattle.incidence.specs.Parts.{Kept, Cleared}
use Rattle.depth.specs.Forest.{Grown}
use Rattle.labels.specs.Answered.{Laid, Spanned}
use Rattle.labels.specs.Labels.{Masks}

-- there is space for the tables by vertex and for the marks of edges
pub record Spacious (p : Plan) (incident begins dead : List ℕ) : Type 0 where
  pub incident_room : 2 * (length p.ends / 2) ≤ length incident
  pub begins_room : p.vertices ≤ length begins
  pub dead_room : length p.ends / 2 ≤ length dead

-- the tables by vertex of an admitted plan, and marks of which those of its edges are 0
pub record Open (most : Limits) (p : Plan) (incident begins dead : List ℕ) : Type 0 where
  pub tabled : Tabled most p incident begins
  pub masks : Masks p dead

-- `prepare`: such tables stand at the fronts, and no vertex is marked
pub record Prepared (most : Limits) (p : Plan) (incident₀ begins₀ dead₀ first₀ incident begins dead first : List ℕ) : Type 0 where
  pub laid : Laid p incident₀ begins₀ dead₀ incident begins dead
  pub ready : Open most p incident begins dead
  pub marks : Cleared p.vertices first₀ first

-- the roots below v have been tried, and `count` vertices stand in the order; the cursors of these are 0
pub record Growing (p : Plan) (first₀ order₀ cursor₀ first order cursor : List ℕ) (v count : ℕ) : Type 0 where
  pub grown : Grown (graph p) p.vertices v count (read first) (read order)
  pub cleared : (w : ℕ) → w < p.vertices → Marked (read first) w → get_or cursor w 0 ≡ 0
  pub first_kept : Kept p.vertices first₀ first
  pub order_kept : Kept p.vertices order₀ order
  pub cursor_kept : Kept p.vertices cursor₀ cursor

-- `plant`: tables and forest
pub record Planted (p : Plan) (incident₀ begins₀ dead₀ first₀ order₀ cursor₀ incident begins dead first order cursor : List ℕ) : Type 0 where
  pub laid : Laid p incident₀ begins₀ dead₀ incident begins dead
  pub spanned : Spanned p first₀ order₀ cursor₀ first order cursor
