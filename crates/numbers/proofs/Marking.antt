-- The ends of edges and the marks of vertices, as the code has them, in a depth-first tree.
use mathlib.Core.Path.{◌≡◌, refl, sym, subst, ◌∙◌}
use mathlib.Core.Logic.{◌⊎◌, inl, inr}
use mathlib.Core.Bool.{Bool, true, false, cond}
use mathlib.Core.List.{List, Memᴰ as In}
use Prim.Native.Nat.{ℕ, ◌+◌, ◌-◌, ◌*◌, ◌/◌, ◌≤◌, ◌<◌}
use native.Mathlib.Omega.{arith}
use native.Mathlib.Decide.{ℕ_discrete}
use borrow.Author.Tests.{lt-ltb, le-ltb, lt-leb, ltb-true, ltb-false}
use lib.Dec.{ltb}
use lib.ListN.{length, get_or}
use Rattle.connectivity.specs.Plan.{Plan, graph, Limits}
use Rattle.connectivity.specs.Graph.{Graph, Edge, Joins}
use Rattle.connectivity.specs.Walk.{far}
use Rattle.connectivity.proofs.Admission.{cond_both}
use Rattle.connectivity.proofs.Kept.{vertex_size, vertex_or, edge_is}
use Rattle.connectivity.proofs.Reach.{joins_sym}
use Rattle.connectivity.proofs.Legs.{far_is}
use Rattle.tree.specs.Tree.{Pointers, Child, Back}
use Rattle.tree.proofs.Above.{above_cases, above_rank, first_leads, tree_cases}
use Rattle.graph.specs.Marks.{read}
use Rattle.graph.proofs.Joined.{joins_edge, joins_ends}
use Rattle.graph.specs.Ends.{far_end}
use Rattle.numbers.specs.Tables.{lower_end, least_number, higher_of, mark_of}
use Rattle.numbers.specs.Standing.{Rooted, DepthFirst, tree_of}
use Rattle.numbers.proofs.Steps.{edge_some, zero_none}
use Rattle.numbers.proofs.Overs.{Higher, next, stays}

-- how many entries there are
pub size_is : (p : Plan) → (graph p).size ≡ length p.ends / 2
unfolding graph
size_is p = refl

-- the far end
pub far-same : (p : Plan) (e v : ℕ) → far (graph p) e v ≡ far_end p.ends e v
unfolding far graph
far-same p e v = refl

pub far_end_lem : (p : Plan) {e v w : ℕ} → Joins (graph p) e v w → far_end p.ends e v ≡ w
far_end_lem p {e} {v} j = sym (far-same p e v) ∙ far_is j

-- An edge by the numbers of its ends.

module _ {most : Limits} {p : Plan} {root : ℕ} {first : List ℕ} {rank : ℕ → ℕ} (r : Rooted most p root first rank) where
  -- the ends of an edge differ
  pub joins_differ : {e u v : ℕ} → Joins (graph p) e u v → u ≡ v → ⊥
  joins_differ {e} j q = let d = (r.admitted.fit e (joins_edge p j)).different in
      elim (joins_ends p j) [ inl (a, b) ↦ d (a ∙ q ∙ sym b) | inr (a, b) ↦ d (a ∙ sym q ∙ sym b) ]

  -- the lower end of an edge that is not in the tree is not the root, and its number is higher
  pub back_child : {f s w : ℕ} → Back (graph p) (tree_of p root first rank) f s w → Child (graph p) (tree_of p root first rank) w × (rank s < rank w)
  back_child {f} {s} {w} b = elim (above_cases b.above) [
    | inl q ↦ absurd (joins_differ b.joins q)
    | inr (c, a) ↦ (c, omega (arith, above_rank r.tree a, r.tree.falls w c))
  ]

module _ (p : Plan) (number : List ℕ) {e u v : ℕ} (j : Joins (graph p) e u v) (h : read number u < read number v) where
  pub lower_is : lower_end p.ends number e ≡ v
  lower_is = elim (joins_ends p j) [
    | inl (a, b) ↦ rw (a, b, lt-ltb (read number u) (read number v) h)
    | inr (a, b) ↦ rw (a, b, le-ltb (read number v) (read number u) (omega arith))
  ]

  pub least_is : least_number p.ends number e ≡ read number u
  least_is = elim (joins_ends p j) [
    | inl (a, b) ↦ rw (a, b, lt-ltb (read number u) (read number v) h)
    | inr (a, b) ↦ rw (a, b, le-ltb (read number v) (read number u) (omega arith))
  ]

-- The higher of two edges.

-- each is an edge, the first may also be none
pub higher_is : (ends number : List ℕ) {x y : ℕ} → x ≤ length ends / 2 → 1 ≤ y → y ≤ length ends / 2 → Higher (least_number ends number) x y (higher_of ends number x y)
unfolding higher_of
higher_is ends number {x} {y} a b c = elim (ℕ_discrete x 0) [
  | yes q ↦ rw (zero_none ends q) (next refl (λ h. omega arith))
  | no q ↦ rw (edge_some ends x (omega arith) a, edge_some ends y b c) (go (ltb (least_number ends number (y - 1)) (least_number ends number (x - 1))) refl (omega arith))
]
  where
    go : (t : Bool) → ltb (least_number ends number (y - 1)) (least_number ends number (x - 1)) ≡ t → 1 ≤ x → Higher (least_number ends number) x y (cond t y x)
    go true p h = next refl (λ i. omega (arith, ltb-true (least_number ends number (y - 1)) (least_number ends number (x - 1)) p))
    go false p h = stays refl h (omega (arith, ltb-false (least_number ends number (y - 1)) (least_number ends number (x - 1)) p))

-- Marks, and which edges are in the tree.

module _ {most : Limits} {p : Plan} {first order number : List ℕ} (h : DepthFirst most p first order number) where
  abbrev g : Graph
  g = graph p

  abbrev t : Pointers
  t = tree_of p (read order 0) first (read number)

  pub first_edge : {v : ℕ} → Child g t v → (1 ≤ read first v) × (read first v ≤ length p.ends / 2)
  first_edge {v} c = (h.rooted.marked v c, omega (arith, joins_edge p (h.rooted.tree.joins v c)))

  pub mark_child : {v : ℕ} → Child g t v → mark_of p.vertices (length p.ends / 2) first v ≡ read first v
  unfolding mark_of
  mark_child {v} c = rw (lt-leb p.vertices v (vertex_size p c.vertex), le-ltb (length p.ends / 2) (read first v) (first_edge c).1)

  root_none : mark_of p.vertices (length p.ends / 2) first (read order 0) ≡ 0
  unfolding mark_of
  root_none = rw (lt-leb p.vertices (read order 0) (h.listing.at 0 (omega (arith, h.rooted.admitted.two))).0, lt-ltb (length p.ends / 2) (read first (read order 0)) h.rootless)

  pub mark_root : {v : ℕ} → v ≡ read order 0 → mark_of p.vertices (length p.ends / 2) first v ≡ 0
  mark_root {v} q = subst (λ (u : ℕ). mark_of p.vertices (length p.ends / 2) first u ≡ 0) (sym q) root_none

  -- that of an excluded vertex names no edge, either
  pub mark_alone : {v : ℕ} → In v p.excluded → mark_of p.vertices (length p.ends / 2) first v ≡ 0
  unfolding mark_of
  mark_alone {v} i = rw (lt-leb p.vertices v (h.rooted.admitted.inside v i), lt-ltb (length p.ends / 2) (read first v) (h.alone v i))

  -- the lower end of an entry that is no edge is excluded
  lower_alone : {e : ℕ} → e < length p.ends / 2 → (Edge g e → ⊥) → In (lower_end p.ends number e) p.excluded
  lower_alone {e} l n =
      let x = get_or p.ends (2 * e) 0 in
      let y = get_or p.ends (2 * e + 1) 0 in
      let d = h.rooted.admitted.fit e l in
      elim (vertex_or p x d.left) [
        | inl a ↦ elim (vertex_or p y d.right) [
          | inl b ↦ absurd (n ((edge_is p e).1 (l, a, b)))
          | inr j ↦ rw (lt-ltb (read number x) (read number y) (omega (arith, h.listing.kept x a, h.listing.fallen y j))) j
        ]
        | inr i ↦ elim (vertex_or p y d.right) [
          | inl b ↦ rw (le-ltb (read number x) (read number y) (omega (arith, h.listing.kept y b, h.listing.fallen x i))) i
          | inr j ↦ cond_both (λ (z : ℕ). In z p.excluded) (ltb (read number x) (read number y)) j i
        ]
      ]

  pub mark_none : {e : ℕ} → e < length p.ends / 2 → (Edge g e → ⊥) → mark_of p.vertices (length p.ends / 2) first (lower_end p.ends number e) ≡ 0
  mark_none l n = mark_alone (lower_alone l n)

  pub parent_is : {v : ℕ} → Child g t v → t.parent v ≡ far_end p.ends (read first v - 1) v
  parent_is {v} c = far-same p (read first v - 1) v

  pub back_lower : {e s w : ℕ} → Back g t e s w → lower_end p.ends number e ≡ w
  back_lower b = lower_is p number b.joins (back_child h.rooted b).1

  pub levels : (e s w : ℕ) → Back g t e s w → least_number p.ends number e ≡ t.rank s
  levels e s w b = least_is p number b.joins (back_child h.rooted b).1

  -- an edge is the first one of its lower end, or it is not in the tree
  pub edge_cases : {e : ℕ} → Edge g e
      → (Child g t (lower_end p.ends number e) × (e ≡ t.first (lower_end p.ends number e))) ⊎ ((s : ℕ) × Back g t e s (lower_end p.ends number e))
  edge_cases {e} k = elim (tree_cases h.rooted.tree joins) [
    | inl (inl (c, q)) ↦ inl (first_of c q joins)
    | inl (inr (c, q)) ↦ inl (first_of c q (joins_sym joins))
    | inr off ↦ inr (elim (h.rooted.tree.upright e (g.left e) (g.right e) joins) [
      | inl a ↦ (g.left e, at (record { joins = joins; above = a; off = off }))
      | inr a ↦ (g.right e, at (record { joins = joins_sym joins; above = a; off = off }))
    ])
  ]
    where
      joins : Joins g e (g.left e) (g.right e)
      joins = record { edge = k; ends = inl (refl, refl) }

      at : {s w : ℕ} → Back g t e s w → Back g t e s (lower_end p.ends number e)
      at {s} b = subst (Back g t e s) (sym (back_lower b)) b

      first_of : {u v : ℕ} → Child g t u → e ≡ t.first u → Joins g e u v → Child g t (lower_end p.ends number e) × (e ≡ t.first (lower_end p.ends number e))
      first_of {u} {v} c q j =
          let at_v : v ≡ t.parent u = first_leads h.rooted.tree c q j in
          let w = lower_is p number (joins_sym j) (subst (λ (x : ℕ). read number x < read number u) (sym at_v) (h.rooted.tree.falls u c)) in
          (subst (Child g t) (sym w) c, subst (λ (x : ℕ). e ≡ t.first x) (sym w) q)
