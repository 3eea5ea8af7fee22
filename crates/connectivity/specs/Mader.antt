-- Mader's steps: three paths between two vertices, then Mader-paths; and what it means that a list of numbers builds a graph by them.
use Rattle.std.specs.Prelude.{◌≡◌, ℕ, length}
use mathlib.Core.List.{List, [], ◌∷◌, ◌++◌, Memᴰ as In}
use Rattle.connectivity.specs.Lists.{Distinct}
use Rattle.connectivity.specs.Graph.{Graph, Vertex, Edge}
use Rattle.connectivity.specs.Walk.{Leg, Walk, Between, inner, all_inner, all_edges, Built, Branch}
use Rattle.connectivity.specs.Link.{SameLink}

-- 01: steps 0, 1 and 2 are three paths between the same two different vertices, in either direction. No inner vertex is one of these
-- two, occurs twice or stands in two of the paths.
pub record Theta (g : Graph) (a b : ℕ) (walks : List (List Leg)) : Type 0 where
  pub three : length walks ≡ 3
  pub between : (legs : List Leg) → In legs walks → Between g a legs b
  pub simple : Distinct (a ∷ b ∷ all_inner walks)

-- 01: each later step, over the edges that are built before it; document 003: what Corollary 1 adds, a Mader-path. Without the link rule it
-- would be an ear.
pub record MaderPath (g : Graph) (built : List ℕ) (u : ℕ) (legs : List Leg) (w : ℕ) : Type 0 where
  pub walk : Walk g u legs w
  -- it begins and ends on vertices already built
  pub begins : Built g built u
  pub ends : Built g built w
  -- its inner vertices are new and all different
  pub fresh : (v : ℕ) → In v (inner legs) → Built g built v → ⊥
  pub simple : Distinct (inner legs)
  -- start and end may be the same vertex only if that vertex is a branch
  pub closed : u ≡ w → Branch g built u
  -- if neither end is a branch, they lie inside different links
  pub links : (Branch g built u → ⊥) → (Branch g built w → ⊥) → SameLink g built u w → ⊥

-- the steps taken so far, the latest first: three paths, then Mader-paths, each over the edges of those before
pub data Steps (g : Graph) : List (List Leg) → Type 0 where
  theta : {a b : ℕ} {walks : List (List Leg)} → Theta g a b walks → Steps g walks
  mader : {walks : List (List Leg)} {u w : ℕ} {legs : List Leg} → Steps g walks → MaderPath g (all_edges walks) u legs w
      → Steps g (legs ∷ walks)

-- 01: the rows of step s, three numbers to a row: step, edge, vertex
abbrev pub step_rows : ℕ → List Leg → List ℕ
step_rows s [] = []
step_rows s (l ∷ legs) = s ∷ (l.edge ∷ (l.from ∷ step_rows s legs))

-- 01: a record: the rows of the steps, of which the latest comes first in `walks`. Steps count 0, 1, 2 and so on.
abbrev pub rows : List (List Leg) → List ℕ
rows [] = []
rows (legs ∷ walks) = rows walks ++ step_rows (length walks) legs

-- 01: the list builds the plan by Mader's steps. One claim about the whole list: three numbers for each edge, of the plan and the list alone.
pub record Builds (g : Graph) (list : List ℕ) : Type 0 where
  pub walks : List (List Leg)
  pub numbers : list ≡ rows walks
  pub steps : Steps g walks
  -- each edge stands in exactly one row
  pub every : (e : ℕ) → Edge g e → In e (all_edges walks)
  pub once : Distinct (all_edges walks)
  -- in the end every vertex has three or more built edges
  pub branches : (v : ℕ) → Vertex g v → Branch g (all_edges walks) v
