-- Along a tree the inside of a link is a way up: bare edges are first edges, so with two vertices it has those between them.
use mathlib.Core.Path.{◌≡◌, sym, subst}
use mathlib.Core.Logic.{◌⊎◌, inl, inr}
use mathlib.Core.List.{List, Memᴰ as In}
use Prim.Native.Nat.{ℕ}
use native.Mathlib.Omega.{arith}
use native.Mathlib.Decide.{dec_le}
use Rattle.connectivity.specs.Graph.{Graph, Vertex, Joins}
use Rattle.connectivity.specs.Reach.{here, over}
use Rattle.connectivity.specs.Walk.{Leg, inner, degree, Built, Branch}
use Rattle.connectivity.specs.Link.{SameLink}
use Rattle.connectivity.proofs.Lists.{in_dec}
use Rattle.connectivity.proofs.Reach.{joins_sym, reach_trans, reach_sym, closed_reach}
use Rattle.connectivity.proofs.Degree.{hits_from, in_degree, built_vertex}
use Rattle.connectivity.proofs.Stage.{Bare}
use Rattle.connectivity.proofs.Link.{link_closed, link_bare}
use Rattle.connectivity.proofs.Grow.{Inside}
use Rattle.tree.specs.Tree.{Pointers, Child, Above, higher, Tree, Climb, Held}
use Rattle.tree.proofs.Above.{UpClosed, above_cases, above_once, root_above, first_leads, tree_cases, up_closed, climb_to}

-- neither end of a bare edge is a branch
pub bare_ends : {g : Graph} {built : List ℕ} {e u v : ℕ} → Joins g e u v → Bare g built e → (Branch g built u → ⊥) × (Branch g built v → ⊥)
bare_ends {g} {built} j (i, n, m) = elim j.ends [
  | inl p ↦ (λ b. n (subst (Branch g built) (sym p.0) b), λ b. m (subst (Branch g built) (sym p.1) b))
  | inr p ↦ (λ b. m (subst (Branch g built) (sym p.1) b), λ b. n (subst (Branch g built) (sym p.0) b))
]

-- whether a vertex lies inside the link of p
pub inside_dec : {g : Graph} {built : List ℕ} {p : ℕ} → SameLink g built p p → (v : ℕ) → Dec (Inside g built p v)
inside_dec l v = elim (in_dec v (inner l.legs)) [
  | yes i ↦ yes (link_bare (record { a = l.a; legs = l.legs; b = l.b; link = l.link; here = l.here; there = i }))
  | no n ↦ no (λ r. n (link_closed l.link l.here r))
]

module _ {g : Graph} {t : Pointers} {built : List ℕ} (tree : Tree g t) (held : Held g t built) where
  pub built_is_vertex : {v : ℕ} → Built g built v → Vertex g v
  built_is_vertex b = built_vertex built held.edges b

  -- what is built is closed upwards
  pub built_up : UpClosed g t (Built g built)
  built_up v c b = in_degree g (t.parent v) (held.upwards v c b) (hits_from (joins_sym (tree.joins v c)))

  pub built_above : {u v : ℕ} → Above g t u v → Built g built v → Built g built u
  built_above a b = up_closed built_up a b

  -- the first edge of what is not built is not
  pub first_new : {v : ℕ} → Child g t v → (Built g built v → ⊥) → In (t.first v) built → ⊥
  first_new {v} c n i = n (in_degree g v i (hits_from (tree.joins v c)))

  -- from every vertex a climb comes to a built one
  pub climb_built : {v : ℕ} → Vertex g v → (legs : List Leg) × (w : ℕ) × Climb g t (Built g built) v legs w
  climb_built h = climb_to (λ v. dec_le 1 (degree g built v)) (root_above tree h) (omega (arith, held.rooted))

  -- a bare edge is the first edge of one of its ends
  pub bare_first : {e u v : ℕ} → Joins g e u v → Bare g built e → (Child g t u × (v ≡ t.parent u)) ⊎ (Child g t v × (u ≡ t.parent v))
  bare_first {e} {u} {v} j b = elim (tree_cases tree j) [
    | inl (inl p) ↦ inl (p.0, first_leads tree p.0 p.1 j)
    | inl (inr p) ↦ inr (p.0, first_leads tree p.0 p.1 (joins_sym j))
    | inr off ↦ elim (tree.upright e u v j) [
      | inl a ↦ absurd ((bare_ends j b).0 (held.hung e u v (record { joins = j; above = a; off = off }) b.0))
      | inr a ↦ absurd ((bare_ends j b).1 (held.hung e v u (record { joins = joins_sym j; above = a; off = off }) b.0))
    ]
  ]

  -- strictly below s, inside the link of p
  abbrev Below : ℕ → ℕ → ℕ → Type 0
  Below p s y = Above g t s y × (y ≡ s → ⊥) × Inside g built p y

  -- bare edges lead from below s, which is not inside, only to what is below s
  below_step : {p s : ℕ} → (Inside g built p s → ⊥) → (e y z : ℕ) → Bare g built e → Joins g e y z → Below p s y → Below p s z
  below_step {p} {s} n e y z b j (a, m, i) = elim (bare_first j b) [
    | inl (c, q) ↦ (rw q up, off, on)
    | inr (c, q) ↦ (higher c (subst (Above g t s) q a), off, on)
  ]
    where
      on : Inside g built p z
      on = reach_trans i (over e b j here)

      up : Above g t s (t.parent y)
      up = elim (above_cases a) [ inl q ↦ absurd (m (sym q)) | inr k ↦ k.1 ]

      off : z ≡ s → ⊥
      off q = n (subst (Inside g built p) q on)

  -- with two vertices the inside of a link has those between them
  pub inside_between : {p z s v : ℕ} → SameLink g built p p → Inside g built p z → Above g t z s → Above g t s v → Inside g built p v
      → Inside g built p s
  inside_between {p} {z} {s} {v} l iz azs asv iv = elim (inside_dec l s) [
    | yes i ↦ i
    | no n ↦
        let r : Below p s z = closed_reach (Below p s) (below_step n) (reach_trans (reach_sym iv) iz) (asv, (λ q. n (subst (Inside g built p) q iv)), iv) in
        absurd (r.1 (above_once tree azs r.0))
  ]
