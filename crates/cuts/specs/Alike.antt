-- Edges with like labels, in their order.
use Rattle.std.specs.Prelude.{◌≡◌, List, ℕ, ◌+◌, ◌≤◌, ◌<◌, length, get_or, Option, Some, None}
use Rattle.chains.specs.Chains.{keys, Lowest}

-- what follows each edge on its chain
pub record Chaining (m : ℕ) (labels next : List ℕ) : Type 0 where
  pub size : ℕ
  pub room : m ≤ length next
  pub follows : (e : ℕ) → e < m → Lowest (keys size labels) (keys size labels e) (e + 1) m (get_or next e 0)

-- d has this label, and no mark: it is an edge of the graph
abbrev pub Like : List ℕ → List ℕ → ℕ → ℕ → Type 0
Like labels dead label d = (get_or dead d 0 ≡ 0) × (get_or labels d 0 ≡ label)

-- no edge from e on, below m, is such
abbrev pub NoneLike : List ℕ → List ℕ → ℕ → ℕ → ℕ → Type 0
NoneLike labels dead label e m = (d : ℕ) → d < m → e ≤ d → Like labels dead label d → ⊥

-- r is the lowest of such edges from e on, below m
pub record FirstLike (labels dead : List ℕ) (label e m r : ℕ) : Type 0 where
  pub low : e ≤ r
  pub high : r < m
  pub like : Like labels dead label r
  pub between : NoneLike labels dead label e r

-- the lowest of such edges from e on, below m, if there is one
abbrev pub LowestLike : List ℕ → List ℕ → ℕ → ℕ → ℕ → Option ℕ → Type 0
LowestLike labels dead label e m (Some r) = FirstLike labels dead label e m r
LowestLike labels dead label e m None = NoneLike labels dead label e m

-- e has no mark, and d has none and its label
abbrev pub Paired : List ℕ → List ℕ → ℕ → ℕ → Type 0
Paired labels dead e d = (get_or dead e 0 ≡ 0) × Like labels dead (get_or labels e 0) d
