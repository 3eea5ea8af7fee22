-- What is reached over which edges, and what it means that a graph hangs together.
use Rattle.std.specs.Prelude.{◌≡◌, ℕ, ◌≤◌, length}
use mathlib.Core.List.{List, Memᴰ as In}
use Rattle.connectivity.specs.Graph.{Graph, Vertex, Joins}

-- 01: reached over tabs: a way from one vertex to another over edges that are live
pub data Reach (g : Graph) (live : ℕ → Type 0) : ℕ → ℕ → Type 0 where
  here : {u : ℕ} → Reach g live u u
  over : {u v w : ℕ} (e : ℕ) → live e → Joins g e u v → Reach g live v w → Reach g live u w

-- the edges that stay when those of `cut` are removed
abbrev pub Without : List ℕ → ℕ → Type 0
Without cut e = In e cut → ⊥

-- 01: one body, after the edges of `cut` are removed
abbrev pub Connected : Graph → List ℕ → Type 0
Connected g cut = (u v : ℕ) → Vertex g u → Vertex g v → Reach g (Without cut) u v

-- 01: a set of tabs, the empty one too, parts the sheet
abbrev pub Disconnects : Graph → List ℕ → Type 0
Disconnects g cut = Connected g cut → ⊥

-- 01: firm: at least two pieces, and one body after any two or fewer tabs are removed; 3-edge-connected in document 003, section 3
pub record ThreeEdgeConnected (g : Graph) : Type 0 where
  pub two : (u : ℕ) × (v : ℕ) × Vertex g u × Vertex g v × (u ≡ v → ⊥)
  pub still : (cut : List ℕ) → length cut ≤ 2 → Connected g cut
