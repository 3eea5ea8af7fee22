-- A graph: vertices and edges, each a number. Two vertices may be joined by many edges.
use Rattle.std.specs.Prelude.{◌≡◌, ◌⊎◌, Bool, ◌&&◌, List, ℕ, ◌<◌, T, ltb}
use Rattle.connectivity.specs.Lists.{range, keep}

-- `bound` is above every vertex, `kept` tells which numbers below it are vertices, `size` is how many entries the table of ends has, and
-- `left e` and `right e` are the ends of entry `e`
pub record Graph : Type 0 where
  pub bound : ℕ
  pub kept : ℕ → Bool
  pub size : ℕ
  pub left : ℕ → ℕ
  pub right : ℕ → ℕ

-- 01: piece
pub record Vertex (g : Graph) (v : ℕ) : Type 0 where
  pub below : v < g.bound
  pub kept : T (g.kept v)

-- 01: tab
pub record Edge (g : Graph) (e : ℕ) : Type 0 where
  pub below : e < g.size
  pub left : Vertex g (g.left e)
  pub right : Vertex g (g.right e)

-- 01: the ends of a tab: the edge e joins u and v, one way or the other
pub record Joins (g : Graph) (e u v : ℕ) : Type 0 where
  pub edge : Edge g e
  pub ends : ((g.left e ≡ u) × (g.right e ≡ v)) ⊎ ((g.left e ≡ v) × (g.right e ≡ u))

-- a number is a vertex, and an edge, computed
unfoldable pub is_vertex : Graph → ℕ → Bool
is_vertex g v = ltb v g.bound && g.kept v

unfoldable pub is_edge : Graph → ℕ → Bool
is_edge g e = ltb e g.size && (is_vertex g (g.left e) && is_vertex g (g.right e))

-- the vertices and the edges, ascending
unfoldable pub vertices : Graph → List ℕ
vertices g = keep (is_vertex g) (range 0 g.bound)

unfoldable pub edges : Graph → List ℕ
edges g = keep (is_edge g) (range 0 g.size)
