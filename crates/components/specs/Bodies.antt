-- The bodies in a table, from a spanning forest: each vertex has the root of its tree.
use Rattle.std.specs.Prelude.{◌≡◌, List, ℕ, ◌-◌, ◌≤◌, ◌<◌, length, get_or}
use Rattle.connectivity.specs.Plan.{Plan, graph}
use Rattle.depth.specs.Depth.{root_mark}
use Rattle.graph.specs.Marks.{read}
use Rattle.incidence.specs.Parts.{Kept}
use Rattle.components.specs.Stars.{Grouping}

-- r is the last root up to place i of the order
pub record RootOf (mark at : ℕ → ℕ) (i r : ℕ) : Type 0 where
  pub place : ℕ
  pub before : place ≤ i
  pub there : at place ≡ r
  pub root : mark (at place) ≡ root_mark
  pub last : (j : ℕ) → place < j → j ≤ i → mark (at j) ≡ root_mark → ⊥

-- what the pass along the order asks for: room, and vertices in the order
pub record Ordered (n : ℕ) (first order table : List ℕ) : Type 0 where
  pub first_room : n ≤ length first
  pub order_room : n ≤ length order
  pub table_room : n ≤ length table
  pub valid : (k : ℕ) → k < n → get_or order k 0 < n

-- the vertices at the places below k have their roots, the last of which is `root`
pub record Rooting (n k root : ℕ) (first order table₀ table : List ℕ) : Type 0 where
  pub kept : Kept n table₀ table
  pub each : (i : ℕ) → i < k → RootOf (read first) (read order) i (get_or table (get_or order i 0) 0)
  pub now : 0 < k → RootOf (read first) (read order) (k - 1) root

-- the bodies are the groups; what lies behind the vertices' places stays
pub record Bodied (p : Plan) (table₀ table : List ℕ) : Type 0 where
  pub kept : Kept p.vertices table₀ table
  pub groups : Grouping (graph p) p.vertices (read table)
