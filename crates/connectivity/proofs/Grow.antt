-- How a construction ends: while an edge is left, one at a built vertex is, and when none is left, every vertex is a branch.
use mathlib.Core.Path.{◌≡◌, refl, sym, ◌∙◌}
use mathlib.Core.Logic.{inl}
use mathlib.Core.List.Memᴰ.{head as first}
use mathlib.Core.List.Memᴰ.{tail as later}
use mathlib.Core.List.{List, [], ◌∷◌, Memᴰ as In}
use Prim.Native.Nat.{ℕ}
use native.Mathlib.Omega.{arith}
use native.Mathlib.Decide.{ℕ_discrete, dec_le}
use Rattle.connectivity.specs.Graph.{Graph, Vertex, Edge, Joins}
use Rattle.connectivity.specs.Reach.{Reach, here, over, Without, ThreeEdgeConnected}
use Rattle.connectivity.specs.Walk.{inner, degree, Built, Branch}
use Rattle.connectivity.proofs.Reach.{joins_sym, closed_reach}
use Rattle.connectivity.proofs.Degree.{hits_from, in_degree, walk_from}
use Rattle.connectivity.proofs.Stage.{Stage, Bare}
use Rattle.connectivity.proofs.Link.{lead, some_link, link_full, not_outer}
use Rattle.connectivity.proofs.Legs.{final}

-- v lies inside the link of p, a built vertex that is no branch
abbrev pub Inside : Graph → List ℕ → ℕ → ℕ → Type 0
Inside g built p v = Reach g (Bare g built) p v

-- what lies inside the link of a built vertex is built
pub inside_built : {g : Graph} {built : List ℕ} {p v : ℕ} → Built g built p → Inside g built p v → Built g built v
inside_built {g} {built} h r = closed_reach (λ x. Built g built x) (λ e x y l j k. in_degree g y l.0 (hits_from (joins_sym j))) r h

-- while some edge is not built, one that is not built has a built end: if every edge at a built vertex is built, every edge is
pub next_edge : {g : Graph} {built : List ℕ} → ThreeEdgeConnected g
    → ((e v w : ℕ) → Joins g e v w → Built g built v → In e built)
    → (v : ℕ) → Vertex g v → Built g built v → (e : ℕ) → Edge g e → In e built
next_edge {g} {built} t f v hv b e h = f e (g.left e) (g.right e) (record { edge = h; ends = inl (refl, refl) })
    (closed_reach (λ x. Built g built x) (λ d x y l j k. in_degree g y (f d x y j k) (hits_from (joins_sym j)))
    (t.still [] (omega arith) v (g.left e) hv h.left) b)

-- a vertex from which something else is reached has a live edge
leaves : {g : Graph} {live : ℕ → Type 0} {u v : ℕ} → Reach g live u v → (u ≡ v → ⊥) → (e : ℕ) × (w : ℕ) × Joins g e u w
leaves here n = absurd (n refl)
leaves (over {v = w} e l j r) n = (e, w, j)

-- every vertex has an edge
some_edge : {g : Graph} (v : ℕ) → ThreeEdgeConnected g → Vertex g v → (e : ℕ) × (w : ℕ) × Joins g e v w
some_edge v t h = let (x, y, hx, hy, n) = t.two in elim (ℕ_discrete v x) [
  | yes p ↦ leaves (t.still [] (omega arith) v y h hy) (λ q. n (sym p ∙ q))
  | no m ↦ leaves (t.still [] (omega arith) v x h hx) m
]

-- when every edge is built, every vertex is a branch: else the outer two edges of its link would cut off the link's inside
pub all_branches : {g : Graph} {built : List ℕ} → ThreeEdgeConnected g → Stage g built → ((e : ℕ) → Edge g e → In e built)
    → (v : ℕ) → Vertex g v → Branch g built v
all_branches {g} {built} t s f v h = elim (dec_le 3 (degree g built v)) [
  | yes b ↦ b
  | no n ↦
      let (e, w, j) = some_edge v t h in
      let l = some_link v s (in_degree g v (f e j.edge) (hits_from j)) n in
      let k = l.link.walk in
      let way : Reach g (Without (lead l.legs ∷ final l.legs ∷ [])) v l.a = t.still (lead l.legs ∷ final l.legs ∷ []) (omega arith) v l.a h (walk_from k) in
      let i : In l.a (inner l.legs) = closed_reach (λ x. In x (inner l.legs))
      (λ d x y m q i. not_outer k (link_full l.link x d i (f d q.edge) (hits_from q)) (hits_from (joins_sym q)) (λ r. m (first r)) (λ r. m (later (first r))))
      way l.here in
      absurd (omega (arith, l.link.from, l.link.two l.a i))
]
