-- A spanning forest of a graph, and how searches from one root after the other make it.
use Rattle.std.specs.Prelude.{◌≡◌, ◌⊎◌, ℕ, ◌+◌, ◌-◌, ◌≤◌, ◌<◌, length, get_or}
use mathlib.Core.List.{List, Memᴰ as In}
use Rattle.connectivity.specs.Graph.{Graph, Joins}
use Rattle.graph.specs.Marks.{Marked, tally}
use Rattle.depth.specs.Depth.{root_mark}

-- Of n vertices `mark v` is the mark of v, and `at k` the vertex at place k of the order.

-- the vertex at place k is a root, or its first edge leads to one that stands before it
abbrev pub Rooted : Graph → (ℕ → ℕ) → (ℕ → ℕ) → ℕ → Type 0
Rooted g mark at k = (mark (at k) ≡ root_mark) ⊎ ((j : ℕ) × (j < k) × Joins g (mark (at k) - 1) (at j) (at k))

-- no edge joins what stands before place k to what stands from it on, up to `count`
abbrev pub Border : Graph → (ℕ → ℕ) → ℕ → ℕ → Type 0
Border g at count k = (e i j : ℕ) → i < k → k ≤ j → j < count → Joins g e (at i) (at j) → ⊥

-- a spanning forest
pub record Forest (g : Graph) (n : ℕ) (mark at : ℕ → ℕ) : Type 0 where
  -- the places of the order have the vertices, each once; all are marked
  pub valid : (k : ℕ) → k < n → at k < n
  pub listed : (v : ℕ) → v < n → (k : ℕ) × (k < n) × (at k ≡ v)
  pub once : (j k : ℕ) → j < k → k < n → at j ≡ at k → ⊥
  pub marked : (k : ℕ) → k < n → Marked mark (at k)
  pub tree : (k : ℕ) → k < n → Rooted g mark at k
  -- a root begins a new body
  pub border : (k : ℕ) → k < n → mark (at k) ≡ root_mark → Border g at n k

-- each root is lower than what stands behind it
abbrev pub RootsLow : ℕ → (ℕ → ℕ) → (ℕ → ℕ) → Type 0
RootsLow n mark at = (j k : ℕ) → j < k → k < n → mark (at j) ≡ root_mark → at j < at k

-- the roots below v have been tried, and `count` vertices stand in the order
pub record Grown (g : Graph) (n v count : ℕ) (mark at : ℕ → ℕ) : Type 0 where
  -- these are the marked ones, each once
  pub valid : (k : ℕ) → k < count → at k < n
  pub marked : (k : ℕ) → k < count → Marked mark (at k)
  pub listed : (u : ℕ) → u < n → Marked mark u → (k : ℕ) × (k < count) × (at k ≡ u)
  pub once : (j k : ℕ) → j < k → k < count → at j ≡ at k → ⊥
  pub counted : count ≡ tally mark n
  -- those below v are among them
  pub tried : (u : ℕ) → u < v → Marked mark u
  pub tree : (k : ℕ) → k < count → Rooted g mark at k
  pub border : (k : ℕ) → k < count → mark (at k) ≡ root_mark → Border g at count k
  pub roots : (k : ℕ) → k < count → mark (at k) ≡ root_mark → at k < v
  pub low : (j k : ℕ) → j < k → k < count → mark (at j) ≡ root_mark → at j < at k
  -- no edge leads to any other
  pub closed : (e i u : ℕ) → i < count → Joins g e (at i) u → Marked mark u

-- behind the first `count` places of the order stand the excluded vertices, each as a root
pub record Appended (excluded : List ℕ) (count : ℕ) (first₀ order₀ first order : List ℕ) : Type 0 where
  pub first_long : length first ≡ length first₀
  pub order_long : length order ≡ length order₀
  pub before : (k : ℕ) → k < count → get_or order k 0 ≡ get_or order₀ k 0
  pub behind : (i : ℕ) → i < length excluded → get_or order (count + i) 0 ≡ get_or excluded i 0
  pub after : (k : ℕ) → count + length excluded ≤ k → get_or order k 0 ≡ get_or order₀ k 0
  pub roots : (v : ℕ) → In v excluded → get_or first v 0 ≡ root_mark
  pub others : (v : ℕ) → (In v excluded → ⊥) → get_or first v 0 ≡ get_or first₀ v 0
