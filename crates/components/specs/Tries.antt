-- What the parts of a try promise one another, and what the cuts are tried over.
use Rattle.std.specs.Prelude.{◌≡◌, Bool, true, false, List, ℕ, ◌/◌, ◌≤◌, ◌<◌, length, get_or}
use Rattle.connectivity.specs.Plan.{Plan, graph, Limits}
use Rattle.connectivity.specs.Component.{component_of}
use Rattle.graph.specs.Marks.{read}
use Rattle.incidence.specs.Tables.{Tabled}
use Rattle.incidence.specs.Parts.{Kept}
use Rattle.labels.specs.Label.{Balanced}
use Rattle.components.specs.Splitting.{unseen, Parted}
use Rattle.components.specs.Stars.{Grouping}

-- the groups are taken apart by the marks exactly where v has none
pub data PartedAt (n : ℕ) (marks : List ℕ) (v : ℕ) (table₀ table : List ℕ) : Bool → Type 0 where
  seen : (get_or marks v 0 ≡ 0 → ⊥) → table ≡ table₀ → PartedAt n marks v table₀ table false
  cut_off : get_or marks v 0 ≡ 0 → length table ≡ length table₀ → Parted n (unseen marks) (read table₀) (read table) → PartedAt n marks v table₀ table true

-- `part`: what it asks for: the tables of the plan, labels that cancel, room, and the bodies
pub record Stage (most : Limits) (p : Plan) (incident begins first labels table : List ℕ) : Type 0 where
  pub tabled : Tabled most p incident begins
  pub first_room : p.vertices ≤ length first
  pub labels_room : length p.ends / 2 ≤ length labels
  pub balanced : Balanced (graph p) (read labels)
  pub table_room : p.vertices ≤ length table
  pub groups : Grouping (graph p) p.vertices (read table)

-- each vertex has the lowest of its group, an excluded one itself; what lies behind the vertices' places stays
pub record Found (p : Plan) (table₀ table : List ℕ) : Type 0 where
  pub kept : Kept p.vertices table₀ table
  pub each : (v : ℕ) → v < p.vertices → get_or table v 0 ≡ component_of (graph p) v
