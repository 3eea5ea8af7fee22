-- In a three-edge-connected graph a way over edges that are not built leads out of the inside of each link; and from the far end of an edge at a built vertex
-- one leads back to a built vertex without that edge.
use mathlib.Core.Path.{◌≡◌}
use mathlib.Core.Logic.{◌⊎◌, inl, inr}
use mathlib.Core.List.Memᴰ.{head as first}
use mathlib.Core.List.Memᴰ.{tail as later}
use mathlib.Core.List.{List, [], ◌∷◌, Memᴰ as In}
use Prim.Native.Nat.{ℕ}
use native.Mathlib.Omega.{arith}
use Rattle.connectivity.specs.Graph.{Graph, Vertex, Joins}
use Rattle.connectivity.specs.Reach.{Reach, here, Without, ThreeEdgeConnected}
use Rattle.connectivity.specs.Walk.{inner, edges_of, Built, Branch}
use Rattle.connectivity.specs.Link.{SameLink}
use Rattle.connectivity.proofs.Lists.{in_dec}
use Rattle.connectivity.proofs.Reach.{joins_sym, joins_vertex, closed_reach}
use Rattle.connectivity.proofs.Through.{Through, stay, through_on}
use Rattle.connectivity.proofs.Degree.{hits_from, in_degree, built_vertex, walk_from, inner_least}
use Rattle.connectivity.proofs.Stage.{Stage}
use Rattle.connectivity.proofs.Link.{lead, some_link, link_full, link_closed, link_bare, not_outer}
use Rattle.connectivity.proofs.Legs.{final}
use Rattle.connectivity.proofs.Build.{walk_edges}
use Rattle.connectivity.proofs.Grow.{Inside}

-- Out of a link.

-- a way out of the link of p passes through its inner vertices and through what is not built
abbrev pub FromLink : Graph → List ℕ → ℕ → ℕ → Type 0
FromLink g built p v = Inside g built p v ⊎ (Built g built v → ⊥)

-- no built vertex outside the link of p is seen from inside it over edges that are not built
abbrev pub NoExit : Graph → List ℕ → ℕ → Type 0
NoExit g built p = (s t : ℕ) → Inside g built p s → Built g built t → (Inside g built p t → ⊥) → Vertex g t
    → Through g (Without built) (FromLink g built p) s t → ⊥

-- v is seen from inside the link of p
record Seen (g : Graph) (built : List ℕ) (p v : ℕ) : Type 0 where
  from : ℕ
  inside : Inside g built p from
  way : Through g (Without built) (FromLink g built p) from v

module _ {g : Graph} {built : List ℕ} {p : ℕ} (l : SameLink g built p p) where
  -- the link has just the vertices inside
  inside_in : {v : ℕ} → Inside g built p v → In v (inner l.legs)
  inside_in r = link_closed l.link l.here r

  in_inside : {v : ℕ} → In v (inner l.legs) → Inside g built p v
  in_inside i = link_bare (record { a = l.a; legs = l.legs; b = l.b; link = l.link; here = l.here; there = i })

module _ {g : Graph} {built : List ℕ} {p : ℕ} (l : SameLink g built p p) (none : NoExit g built p) where
  -- without an exit every vertex that is seen may be passed through
  seen_pass : {v : ℕ} → Vertex g v → Seen g built p v → FromLink g built p v
  seen_pass {v} h k = elim (in_dec v (inner l.legs)) [
    | yes i ↦ inl (in_inside l i)
    | no n ↦ inr (λ b. none k.from v k.inside b (λ r. n (inside_in l r)) h k.way)
  ]

  -- so an edge that leads out of what is seen is built, and one of the link's outer two
  seen_step : (e u v : ℕ) → (In e (edges_of l.legs) → In v (inner l.legs)) → Joins g e u v → Seen g built p u → Seen g built p v
  seen_step e u v f j k = elim (in_dec e built) [
    | yes i ↦ elim (seen_pass (joins_vertex j) k) [
      | inl r ↦ record { from = v; inside = in_inside l (f (link_full l.link u e (inside_in l r) i (hits_from j))); way = stay }
      | inr n ↦ absurd (n (in_degree g u i (hits_from j)))
    ]
    | no n ↦ record { from = k.from; inside = k.inside; way = through_on k.way n (seen_pass (joins_vertex j) k) j }
  ]

-- such a way leads to a built vertex outside the link: else the link's outer two edges would cut off what is seen
pub link_exit : {g : Graph} {built : List ℕ} {p : ℕ} → ThreeEdgeConnected g → Stage g built → Built g built p → (Branch g built p → ⊥)
    → NoExit g built p → ⊥
link_exit {g} {built} {p} t s h n none =
    let l = some_link p s h n in
    let k = l.link.walk in
    let c = lead l.legs in
    let d = final l.legs in
    let hp : Vertex g p = built_vertex (edges_of l.legs) (λ e i. walk_edges k i) (omega (arith, inner_least p k l.here)) in
    let way : Reach g (Without (c ∷ d ∷ [])) p l.a = t.still (c ∷ d ∷ []) (omega arith) p l.a hp (walk_from k) in
    let seen : Seen g built p l.a = closed_reach (Seen g built p)
    (λ e u v m j q. seen_step l none e u v (λ i. not_outer k i (hits_from (joins_sym j)) (λ r. m (first r)) (λ r. m (later (first r)))) j q)
    way (record { from = p; inside = here; way = stay }) in
    elim (seen_pass l none (walk_from k) seen) [
      | inl r ↦ absurd (omega (arith, l.link.from, l.link.two l.a (inside_in l r)))
      | inr m ↦ m (omega (arith, l.link.from))
    ]

-- Back from an edge.

-- where an edge e leads from a built vertex a to u, a way without e leads from u to a built vertex: else e alone would cut off what is seen
-- from u
pub branch_exit : {g : Graph} {built : List ℕ} {e a u : ℕ} → ThreeEdgeConnected g → Joins g e a u → Built g built a
    → ((t : ℕ) → Built g built t → Through g (λ x. (In x built → ⊥) × (x ≡ e → ⊥)) (λ v. Built g built v → ⊥) u t → ⊥)
    → ⊥
branch_exit {g} {built} {e} {a} {u} t j h none = none a h (closed_reach Sees step way stay)
  where
    Sees : ℕ → Type 0
    Sees v = Through g (λ x. (In x built → ⊥) × (x ≡ e → ⊥)) (λ v. Built g built v → ⊥) u v

    step : (x v w : ℕ) → Without (e ∷ []) x → Joins g x v w → Sees v → Sees w
    step x v w m i k = through_on k ((λ b. none v (in_degree g v b (hits_from i)) k), (λ q. m (first q))) (λ b. none v b k) i

    way : Reach g (Without (e ∷ [])) u a
    way = t.still (e ∷ []) (omega arith) u a (joins_vertex (joins_sym j)) (joins_vertex j)
