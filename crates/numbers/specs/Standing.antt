-- What marks, an order and numbers say where they are a depth-first tree of a plan.
use Rattle.std.specs.Prelude.{◌≡◌, ℕ, ◌-◌, ◌/◌, ◌≤◌, ◌<◌, length}
use mathlib.Core.List.{List, Memᴰ as In}
use Rattle.connectivity.specs.Plan.{Plan, graph, Limits}
use Rattle.connectivity.specs.Graph.{Graph, Vertex, Edge}
use Rattle.connectivity.specs.Reach.{ThreeEdgeConnected}
use Rattle.connectivity.specs.Walk.{far}
use Rattle.connectivity.specs.Admission.{kept_vertices, Admitted}
use Rattle.tree.specs.Tree.{Pointers, Child, Above, Tree, Preorder, Overs}
use Rattle.graph.specs.Marks.{read}

-- the tree: `mark v` is one more than the first edge of v, which leads to its parent
abbrev pub pointers : Graph → ℕ → (ℕ → ℕ) → (ℕ → ℕ) → Pointers
pointers g root mark rank = record { root = root; parent = λ v. far g (mark v - 1) v; first = λ v. mark v - 1; rank = rank }

abbrev pub tree_of : Plan → ℕ → List ℕ → (ℕ → ℕ) → Pointers
tree_of p root first rank = pointers (graph p) root (read first) rank

-- it is a tree of the plan, and every vertex but the root has a mark
pub record Rooted (most : Limits) (p : Plan) (root : ℕ) (first : List ℕ) (rank : ℕ → ℕ) : Type 0 where
  pub admitted : Admitted most p
  pub tree : Tree (graph p) (tree_of p root first rank)
  pub marked : (v : ℕ) → Child (graph p) (tree_of p root first rank) v → 1 ≤ read first v
  pub few : (v : ℕ) → Vertex (graph p) v → rank v < p.vertices
  pub long : p.vertices ≤ length first

-- the order has each number below n once
pub record Ordering (n : ℕ) (order : List ℕ) : Type 0 where
  pub valid : (k : ℕ) → k < n → read order k < n
  pub once : (j k : ℕ) → j < k → k < n → read order j ≡ read order k → ⊥

-- the number of each is its place there
pub record Numbered (n : ℕ) (order number : List ℕ) : Type 0 where
  pub numbers : (k : ℕ) → k < n → read number (read order k) ≡ k

-- it has the vertices and behind them the excluded ones, each at the place that is its number; the root is first
pub record Listed (p : Plan) (root : ℕ) (order number : List ℕ) : Type 0 where
  pub at : (k : ℕ) → k < p.vertices → (read order k < p.vertices) × (read number (read order k) ≡ k)
  pub placed : (v : ℕ) → v < p.vertices → (read number v < p.vertices) × (read order (read number v) ≡ v)
  pub kept : (v : ℕ) → Vertex (graph p) v → read number v < kept_vertices p
  pub fallen : (v : ℕ) → In v p.excluded → kept_vertices p ≤ read number v
  pub top : read order 0 ≡ root
  pub order_long : p.vertices ≤ length order
  pub number_long : p.vertices ≤ length number

-- what comes between a vertex and one below it is below it
abbrev pub Together : Graph → Pointers → Type 0
Together g t = (u v w : ℕ) → Vertex g u → Vertex g v → Above g t u w → t.rank u ≤ t.rank v → t.rank v ≤ t.rank w → Above g t u v

-- a depth-first tree of a 3-edge-connected plan; the marks of the root and of the excluded vertices name no edge
pub record DepthFirst (most : Limits) (p : Plan) (first order number : List ℕ) : Type 0 where
  pub rooted : Rooted most p (read order 0) first (read number)
  pub three : ThreeEdgeConnected (graph p)
  pub listing : Listed p (read order 0) order number
  pub together : Together (graph p) (tree_of p (read order 0) first (read number))
  pub rootless : length p.ends / 2 < read first (read order 0)
  pub alone : (v : ℕ) → In v p.excluded → length p.ends / 2 < read first v

-- `last` tells what is below a vertex, and is a vertex's number; `over` is one more than the edge that a step over an edge begins with, and 0 for an entry that is no edge
pub record Beneath (p : Plan) (root : ℕ) (first : List ℕ) (rank last over : ℕ → ℕ) : Type 0 where
  pub preorder : Preorder (graph p) (tree_of p root first rank) last
  pub lasts : (v : ℕ) → Vertex (graph p) v → last v < kept_vertices p
  pub overs : Overs (graph p) (tree_of p root first rank) (λ e. over e - 1)
  pub some : (e : ℕ) → Edge (graph p) e → 1 ≤ over e
  pub none : (e : ℕ) → e < length p.ends / 2 → (Edge (graph p) e → ⊥) → over e ≡ 0
