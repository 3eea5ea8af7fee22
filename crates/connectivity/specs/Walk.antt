-- Walks, and how many built edges end at a vertex.
use Rattle.std.specs.Prelude.{Bool, cond, ◌||◌, List, [], ◌∷◌, ◌++◌, ◌⊎◌, ℕ, ◌+◌, ◌≤◌, eqb, leb}
use Rattle.connectivity.specs.Graph.{Graph, Joins}

-- 01: a row within its step: the edge, and the vertex from which it is walked
pub record Leg : Type 0 where
  pub edge : ℕ
  pub from : ℕ

-- 01: the rows of a step form a walk: each row's far end is the next row's vertex
pub data Walk (g : Graph) : ℕ → List Leg → ℕ → Type 0 where
  last : {u v : ℕ} (e : ℕ) → Joins g e u v → Walk g u (record { edge = e; from = u } ∷ []) v
  then : {u v w : ℕ} {legs : List Leg} (e : ℕ) → Joins g e u v → Walk g v legs w
      → Walk g u (record { edge = e; from = u } ∷ legs) w

-- between a and b, in either direction
abbrev pub Between : Graph → ℕ → List Leg → ℕ → Type 0
Between g a legs b = Walk g a legs b ⊎ Walk g b legs a

-- the vertices that the legs leave from
abbrev pub froms : List Leg → List ℕ
froms [] = []
froms (l ∷ legs) = l.from ∷ froms legs

-- 01: the inner pieces of a step: all but its first and its last
abbrev pub inner : List Leg → List ℕ
inner [] = []
inner (l ∷ legs) = froms legs

-- the edges of a walk
abbrev pub edges_of : List Leg → List ℕ
edges_of [] = []
edges_of (l ∷ legs) = l.edge ∷ edges_of legs

-- the inner vertices, and the edges, of several walks
abbrev pub all_inner : List (List Leg) → List ℕ
all_inner [] = []
all_inner (legs ∷ walks) = inner legs ++ all_inner walks

abbrev pub all_edges : List (List Leg) → List ℕ
all_edges [] = []
all_edges (legs ∷ walks) = edges_of legs ++ all_edges walks

-- 1 where the edge e has the end v, else 0
unfoldable pub hits : Graph → ℕ → ℕ → ℕ
hits g e v = cond (eqb (g.left e) v || eqb (g.right e) v) 1 0

-- how many of the built edges have the end v
abbrev pub degree : Graph → List ℕ → ℕ → ℕ
degree g [] v = 0
degree g (e ∷ built) v = hits g e v + degree g built v

-- 01: a built piece: the end of a built tab
abbrev pub Built : Graph → List ℕ → ℕ → Type 0
Built g built v = 1 ≤ degree g built v

-- 01: a branch piece has three or more built tabs
abbrev pub Branch : Graph → List ℕ → ℕ → Type 0
Branch g built v = 3 ≤ degree g built v

-- the same, computed
unfoldable pub is_built : Graph → List ℕ → ℕ → Bool
is_built g built v = leb 1 (degree g built v)

unfoldable pub is_branch : Graph → List ℕ → ℕ → Bool
is_branch g built v = leb 3 (degree g built v)

-- 01: a row's far end: the end of the edge e that is not v
unfoldable pub far : Graph → ℕ → ℕ → ℕ
far g e v = cond (eqb (g.left e) v) (g.right e) (g.left e)

-- where a walk begins
unfoldable pub start : List Leg → ℕ
start [] = 0
start (l ∷ legs) = l.from

-- where a walk has come to
unfoldable pub stop : Graph → List Leg → ℕ
stop g [] = 0
stop g (l ∷ []) = far g l.edge l.from
stop g (l ∷ (m ∷ legs)) = stop g (m ∷ legs)
