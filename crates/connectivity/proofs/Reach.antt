-- The laws of reach: it is symmetric and transitive, more live edges reach more, and a set that no live edge leaves keeps what is
-- reached from it.
use mathlib.Core.Path.{◌≡◌, subst}
use mathlib.Core.Logic.{◌⊎◌, inl, inr}
use mathlib.Core.List.{List, Memᴰ as In}
use Prim.Native.Nat.{ℕ}
use Rattle.connectivity.specs.Graph.{Graph, Vertex, Joins}
use Rattle.connectivity.specs.Reach.{Reach, here, over, Without}

pub joins_sym : {g : Graph} {e u v : ℕ} → Joins g e u v → Joins g e v u
joins_sym {g} {e} {u} {v} j = record { edge = j.edge; ends = flip j.ends }
  where
    flip : ((g.left e ≡ u) × (g.right e ≡ v)) ⊎ ((g.left e ≡ v) × (g.right e ≡ u))
        → ((g.left e ≡ v) × (g.right e ≡ u)) ⊎ ((g.left e ≡ u) × (g.right e ≡ v))
    flip (inl p) = inr p
    flip (inr p) = inl p

-- what an edge joins is a vertex
pub joins_vertex : {g : Graph} {e u v : ℕ} → Joins g e u v → Vertex g u
joins_vertex {g} j = elim j.ends [ inl p ↦ subst (Vertex g) p.0 j.edge.left | inr p ↦ subst (Vertex g) p.1 j.edge.right ]

pub reach_trans : {g : Graph} {live : ℕ → Type 0} {u v w : ℕ} → Reach g live u v → Reach g live v w → Reach g live u w
reach_trans here q = q
reach_trans (over e l j p) q = over e l j (reach_trans p q)

pub reach_sym : {g : Graph} {live : ℕ → Type 0} {u v : ℕ} → Reach g live u v → Reach g live v u
reach_sym here = here
reach_sym (over e l j p) = reach_trans (reach_sym p) (over e l (joins_sym j) here)

-- a set of vertices that no live edge leaves has whatever is reached from inside it
pub closed_reach : {g : Graph} {live : ℕ → Type 0} (S : ℕ → Type 0)
    → ((e u v : ℕ) → live e → Joins g e u v → S u → S v)
    → {u v : ℕ} → Reach g live u v → S u → S v
closed_reach S c here s = s
closed_reach S c (over {u} {v} e l j p) s = closed_reach S c p (c e u v l j s)

-- more live edges reach more
pub reach_map : {g : Graph} {live more : ℕ → Type 0} → ((e : ℕ) → live e → more e) → {u v : ℕ} → Reach g live u v → Reach g more u v
reach_map f here = here
reach_map f (over e l j p) = over e (f e l) j (reach_map f p)

-- and so does the loss of fewer
pub reach_less : {g : Graph} {cut more : List ℕ} → ((e : ℕ) → In e cut → In e more) → {u v : ℕ} → Reach g (Without more) u v → Reach g (Without cut) u v
reach_less f = reach_map (λ e n i. n (f e i))

-- the same where an edge is asked about only if it is one of the graph's
pub reach_edges : {g : Graph} {live more : ℕ → Type 0} → ((e u v : ℕ) → Joins g e u v → live e → more e)
    → {u v : ℕ} → Reach g live u v → Reach g more u v
reach_edges f here = here
reach_edges f (over {u} {v} e l j p) = over e (f e u v j l) j (reach_edges f p)
