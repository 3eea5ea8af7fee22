-- What a depth-first tree says. Of two entered vertices, of which the earlier leads to the later, the earlier is above the later; over the
-- tables of a plan every live edge between entered vertices joins one and one above it. The vertices below one stand together in the
-- order, from it on.
use mathlib.Core.Path.{◌≡◌, refl, sym, ap, ◌∙◌, subst}
use mathlib.Core.Logic.{◌⊎◌, inl, inr, ◌↔◌}
use mathlib.Core.List.{List}
use Prim.Native.Nat.{ℕ, zero, suc, ◌+◌, ◌-◌, ◌/◌, ◌≤◌, ◌<◌}
use native.Mathlib.Omega.{arith}
use native.Mathlib.Decide.{ℕ_discrete, dec_lt}
use lib.ListN.{length}
use Rattle.connectivity.specs.Plan.{Plan, graph, Limits}
use Rattle.connectivity.specs.Graph.{Graph, Joins}
use Rattle.connectivity.proofs.Reach.{joins_sym}
use Rattle.graph.specs.Marks.{Live}
use Rattle.graph.proofs.Joined.{joins_edge}
use Rattle.incidence.specs.Tables.{Tabled}
use Rattle.depth.specs.Depth as d
use Rattle.depth.specs.Depth.{root_mark, Crossing, Entered, Up, Above, Climb, Closed, Tree}
use Rattle.depth.proofs.Crosses.{crosses}

-- Ways up.

pub above_trans : {up : ℕ → ℕ → Type 0} {u v x : ℕ} → Above up u v → Above up v x → Above up u x
above_trans a d.same = a
above_trans a (d.over p b) = d.over p (above_trans a b)

above_cases : {up : ℕ → ℕ → Type 0} {u v : ℕ} → Above up u v → (u ≡ v) ⊎ ((p : ℕ) × up p v × Above up u p)
above_cases d.same = inl refl
above_cases (d.over {w = w} x a) = inr (w, x, a)

climb_above : {up : ℕ → ℕ → Type 0} {closed : ℕ → Type 0} {x p : ℕ} → Climb up closed x p → Above up p x
climb_above d.here = d.same
climb_above (d.rise c h u) = above_trans (d.over u d.same) (climb_above c)

-- one that is above where a climb begins is above where it ends, or was left on the way
climb_cases : {up : ℕ → ℕ → Type 0} {closed : ℕ → Type 0} {x p : ℕ} (i : ℕ) → ((a b v : ℕ) → up a v → up b v → a ≡ b) → Above up i x → Climb up closed x p → Above up i p ⊎ closed i
climb_cases i alone a d.here = inl a
climb_cases {up} {closed} i alone a (d.rise {v} {w} c h u) = elim (climb_cases i alone a c) [
  | inr k ↦ inr k
  | inl b ↦ elim (above_cases b) [
    | inl q ↦ inr (subst closed (sym q) h)
    | inr o ↦ inl (subst (Above up i) (alone o.0 w v o.1 u) o.2)
  ]
]

-- Trees.

module _ (cross : ℕ → ℕ → ℕ → Type 0) (alone : (e a b v : ℕ) → cross e a v → cross e b v → a ≡ b) (n root seen : ℕ) (mark₀ mark at : ℕ → ℕ) (count : ℕ)
    (t : Tree cross n root seen mark₀ mark at count) where
  abbrev up : ℕ → ℕ → Type 0
  up = Up cross n mark₀ mark

  one_up : (a b v : ℕ) → up a v → up b v → a ≡ b
  one_up a b v p q = alone (mark v - 1) a b v p.by q.by

  -- two places of the same vertex are one
  same_place : (i k : ℕ) → seen ≤ i → i < count → seen ≤ k → k < count → at i ≡ at k → i ≡ k
  same_place i k a b c f q = elim (dec_lt i k) [
    | yes l ↦ absurd (t.once i k a l f q)
    | no h ↦ elim (dec_lt k i) [ yes l ↦ absurd (t.once k i c l b (sym q)) | no g ↦ omega arith ]
  ]

  -- the earlier leads to the later: it is above all from it up to the later
  module _ (e i j : ℕ) (low : seen ≤ i) (lt : i < j) (high : j < count) (c : cross e (at i) (at j)) where
    forward : (m : ℕ) → i ≤ m → m ≤ j → Above up (at i) (at m)
    forward zero a b = let q : i ≡ 0 = omega arith in rw q d.same
    forward (suc m) a b = elim (ℕ_discrete i (suc m)) [
      | yes q ↦ rw q d.same
      | no ne ↦
          let h = t.hangs (suc m) (omega arith) (omega arith) in
          let p : suc m - 1 ≡ m = omega arith in
          let w : Climb up (Closed cross mark₀ at seen (suc m)) (at m) h.from = subst (λ (k : ℕ). Climb up (Closed cross mark₀ at seen (suc m)) (at k) h.from) p h.climb in
          elim (climb_cases (at i) one_up (forward m (omega arith) (omega arith)) w) [
            | inl x ↦ d.over h.up x
            | inr x ↦ elim (x e (at j) c) [
              | inl z ↦ absurd (z (t.valid j (omega arith) high).fresh)
              | inr s ↦ absurd (t.once s.place j s.low (omega (arith, s.high)) high s.there)
            ]
          ]
    ]

    pub earlier_above : Above up (at i) (at j)
    earlier_above = forward j (omega arith) (omega arith)

  -- what is between a vertex and one below it is below it
  back_one : (i m : ℕ) → seen ≤ i → i ≤ m → m + 1 < count → Above up (at i) (at (m + 1)) → Above up (at i) (at m)
  back_one i m low a b x = elim (above_cases x) [
    | inl q ↦ absurd (t.once i (m + 1) low (omega arith) b q)
    | inr o ↦
        let h = t.hangs (m + 1) (omega arith) b in
        let p : m + 1 - 1 ≡ m = omega arith in
        above_trans (subst (Above up (at i)) (one_up o.0 h.from (at (m + 1)) o.1 h.up) o.2) (subst (λ (k : ℕ). Above up h.from (at k)) p (climb_above h.climb))
  ]

  pub between : (i j : ℕ) → seen ≤ i → i ≤ j → (k : ℕ) → j ≤ k → k < count → Above up (at i) (at k) → Above up (at i) (at j)
  between i j low a zero b l x = let q : j ≡ 0 = omega arith in rw q x
  between i j low a (suc k) b l x = elim (ℕ_discrete j (suc k)) [
    | yes q ↦ rw q x
    | no ne ↦ let p : suc k ≡ k + 1 = omega arith in between i j low a k (omega arith) (omega arith) (back_one i k low (omega arith) (omega arith) (subst (λ (y : ℕ). Above up (at i) (at y)) p x))
  ]

  module _ (no-up : (p : ℕ) → up p root → ⊥) where
    -- a vertex below another stands behind it
    behind : (m i k : ℕ) → k < m → seen ≤ i → i < count → seen ≤ k → k < count → Above up (at i) (at k) → i ≤ k
    behind zero i k l a b c f x = absurd (omega arith)
    behind (suc m) i k l a b c f x = elim (above_cases x) [
      | inl q ↦ omega (arith, same_place i k a b c f q)
      | inr o ↦ elim (ℕ_discrete k seen) [
        | yes q ↦ absurd (no-up o.0 (subst (up o.0) (ap at q ∙ t.top) o.1))
        | no ne ↦
            let h = t.hangs k (omega arith) f in
            let s = h.stands in
            let y : Above up (at i) (at s.place) = subst (Above up (at i)) (one_up o.0 h.from (at k) o.1 h.up ∙ sym s.there) o.2 in
            omega (arith, s.high, behind m i s.place (omega (arith, s.high)) a b s.low (omega (arith, s.high)) y)
      ]
    ]

    -- whether one is above another can be told
    tell : (m i k : ℕ) → k < m → seen ≤ k → k < count → Above up (at i) (at k) ⊎ (Above up (at i) (at k) → ⊥)
    tell zero i k l a b = absurd (omega arith)
    tell (suc m) i k l a b = elim (ℕ_discrete (at i) (at k)) [
      | yes q ↦ inl (subst (Above up (at i)) q d.same)
      | no ne ↦ elim (ℕ_discrete k seen) [
        | yes q ↦ inr (λ x. elim (above_cases x) [ inl z ↦ ne z | inr o ↦ no-up o.0 (subst (up o.0) (ap at q ∙ t.top) o.1) ])
        | no nk ↦
            let h = t.hangs k (omega arith) b in
            let s = h.stands in
            elim (tell m i s.place (omega (arith, s.high)) s.low (omega (arith, s.high))) [
              | inl y ↦ inl (d.over h.up (subst (Above up (at i)) s.there y))
              | inr y ↦ inr (λ x. elim (above_cases x) [ inl z ↦ ne z | inr o ↦ y (subst (Above up (at i)) (one_up o.0 h.from (at k) o.1 h.up ∙ sym s.there) o.2) ])
            ]
      ]
    ]

    -- the first place from i on that is not below i
    last : (i : ℕ) → seen ≤ i → i < count → (k : ℕ) → i < k → k ≤ count → ((j : ℕ) → i ≤ j → j < k → Above up (at i) (at j)) ⊎ ((m : ℕ) × (i < m) × (m < k) × ((j : ℕ) → i ≤ j → j < m → Above up (at i) (at j)) × (Above up (at i) (at m) → ⊥))
    last i a b zero c f = absurd (omega arith)
    last i a b (suc k) c f = elim (ℕ_discrete i k) [
      | yes q ↦ inl (λ j x y. let p : j ≡ i = omega arith in rw p d.same)
      | no ne ↦ elim (last i a b k (omega arith) (omega arith)) [
        | inr o ↦ inr (o.0, o.1, omega (arith, o.2), o.3, o.4)
        | inl g ↦ elim (tell (suc k) i k (omega arith) (omega arith) (omega arith)) [
          | inl x ↦ inl (λ j u v. elim (ℕ_discrete j k) [ yes q ↦ rw q x | no nj ↦ g j u (omega arith) ])
          | inr x ↦ inr (k, omega arith, omega arith, g, x)
        ]
      ]
    ]

    -- the vertices below the one at place i have the places from i up to some place
    pub together : (i : ℕ) → seen ≤ i → i < count → (m : ℕ) × (i < m) × (m ≤ count) × ((k : ℕ) → seen ≤ k → k < count → Above up (at i) (at k) ↔ ((i ≤ k) × (k < m)))
    together i a b = elim (last i a b count b (omega arith)) [
      | inl g ↦ (count, b, omega arith, λ k c f. (λ x. (behind (suc k) i k (omega arith) a b c f x, f), λ h. g k h.0 f))
      | inr o ↦ (
        o.0,
        o.1,
        omega (arith, o.2),
        λ k c f. (
          λ x. (behind (suc k) i k (omega arith) a b c f x, elim (dec_lt k o.0) [ yes l ↦ l | no h ↦ absurd (o.4 (between i o.0 a (omega (arith, o.1)) k (omega arith) f x)) ]),
          λ h. o.3 k h.0 h.1,
        ),
      )
    ]

-- Over tables.

-- an edge that joins v joins it to one vertex
joins_alone : {g : Graph} (e a b v : ℕ) → Joins g e a v → Joins g e b v → a ≡ b
joins_alone {g} e a b v j k = go j.ends k.ends
  where
    go : ((g.left e ≡ a) × (g.right e ≡ v)) ⊎ ((g.left e ≡ v) × (g.right e ≡ a)) → ((g.left e ≡ b) × (g.right e ≡ v)) ⊎ ((g.left e ≡ v) × (g.right e ≡ b)) → a ≡ b
    go (inl p) (inl q) = sym p.0 ∙ q.0
    go (inl p) (inr q) = sym p.0 ∙ q.0 ∙ sym p.1 ∙ q.1
    go (inr p) (inl q) = sym p.1 ∙ q.1 ∙ sym p.0 ∙ q.0
    go (inr p) (inr q) = sym p.1 ∙ q.1

module _ {p : Plan} {incident begins dead : List ℕ} {n root seen : ℕ} {mark₀ mark at : ℕ → ℕ} {count : ℕ} (t : Tree (Crossing p incident begins dead) n root seen mark₀ mark at count) where
  abbrev over_first : ℕ → ℕ → Type 0
  over_first = Up (Crossing p incident begins dead) n mark₀ mark

  -- a first edge is no root's mark
  pub no_root : length p.ends / 2 < root_mark → (u v : ℕ) → over_first u v → mark v ≡ root_mark → ⊥
  no_root few u v o q = omega (arith, q, joins_edge p o.by.joins)

  -- the vertices below the one at place i have the places from i up to some place
  pub below_together : length p.ends / 2 < root_mark → (i : ℕ) → seen ≤ i → i < count
      → (m : ℕ) × (i < m) × (m ≤ count) × ((k : ℕ) → seen ≤ k → k < count → Above over_first (at i) (at k) ↔ ((i ≤ k) × (k < m)))
  below_together few = together (Crossing p incident begins dead) (λ e a b v x y. joins_alone e a b v x.joins y.joins) n root seen mark₀ mark at count t
      (λ u o. no_root few u root o t.top_mark)

  module _ {most : Limits} (tabled : Tabled most p incident begins) where
    forth : (e u v i j : ℕ) → Live dead e → Joins (graph p) e u v → seen ≤ i → i < j → j < count → at i ≡ u → at j ≡ v → Above over_first u v
    forth e u v i j live x a b c q r = rw (sym q, sym r) (earlier_above (Crossing p incident begins dead) (λ e a b v x y. joins_alone e a b v x.joins y.joins) n root seen mark₀ mark at count t e i j a b c
        (crosses tabled dead e (at i) (at j) live (rw (q, r) x)))

    -- every live edge between two entered vertices joins one and one above it
    pub edge_above : (e u v : ℕ) → Live dead e → Joins (graph p) e u v → Entered n mark₀ mark u → Entered n mark₀ mark v → Above over_first u v ⊎ Above over_first v u
    edge_above e u v live x a b =
        let s = t.listed u a in
        let r = t.listed v b in
        elim (dec_lt s.place r.place) [
          | yes l ↦ inl (forth e u v s.place r.place live x s.low l r.high s.there r.there)
          | no h ↦ elim (dec_lt r.place s.place) [
            | yes l ↦ inr (forth e v u r.place s.place live (joins_sym x) r.low l s.high r.there s.there)
            | no k ↦ let q : s.place ≡ r.place = omega arith in inl (subst (Above over_first u) (sym s.there ∙ ap at q ∙ r.there) d.same)
          ]
        ]
