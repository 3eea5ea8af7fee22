-- Past the first edge of a vertex lead at least two edges that are not in the tree: else it, or it and the only one, would disconnect. And how the
-- highest of them is found from below.
use mathlib.Core.Path.{◌≡◌, refl, sym, subst}
use mathlib.Core.Logic.{◌⊎◌, inl, inr}
use mathlib.Core.List.Memᴰ.{head as first}
use mathlib.Core.List.Memᴰ.{tail as later}
use mathlib.Core.List.{List, [], ◌∷◌, Memᴰ as In}
use Prim.Native.Nat.{ℕ, ◌≤◌}
use native.Mathlib.Omega.{arith}
use lib.ListN.{length}
use Rattle.connectivity.specs.Graph.{Graph, Joins}
use Rattle.connectivity.specs.Reach.{Without, ThreeEdgeConnected}
use Rattle.connectivity.proofs.Reach.{joins_sym, closed_reach}
use Rattle.tree.specs.Tree.{Pointers, Child, Above, same, higher, Tree, Back, Passing, Highest}
use Rattle.tree.proofs.Above.{above_trans, above_cases, above_both, above_rank, above_once, not_over, above_child, root_above, first_leads, tree_cases}

module _ {g : Graph} {t : Pointers} {c : ℕ} (tree : Tree g t) (three : ThreeEdgeConnected g) (h : Child g t c) where
  -- an edge that leads up, out of what is below c
  leads_out : (cut : List ℕ) → In (t.first c) cut → ((e s w : ℕ) → Passing g t c e s w → In e cut)
      → (e y z : ℕ) → Without cut e → Joins g e y z → Above g t c y → Above g t z y → Above g t z (t.parent c) → Above g t c z
  leads_out cut i f e y z n j a up over = elim (tree_cases tree j) [
    | inl (inl (k, p)) ↦ let q = first_leads tree k p j in elim (above_cases a) [
      | inl r ↦ absurd (n (subst (λ (d : ℕ). In d cut) (sym (subst (λ (v : ℕ). e ≡ t.first v) (sym r) p)) i))
      | inr r ↦ subst (Above g t c) (sym q) r.1
    ]
    | inl (inr (k, p)) ↦ absurd (not_over tree k (subst (Above g t z) (first_leads tree k p (joins_sym j)) up))
    | inr off ↦ absurd (n (f e z y (record { back = record { joins = joins_sym j; above = up; off = off }; below = a; above = over })))
  ]

  -- only those edges lead out
  stays_below : (cut : List ℕ) → In (t.first c) cut → ((e s w : ℕ) → Passing g t c e s w → In e cut)
      → (e y z : ℕ) → Without cut e → Joins g e y z → Above g t c y → Above g t c z
  stays_below cut i f e y z n j a = elim (tree.upright e y z j) [
    | inl down ↦ above_trans a down
    | inr up ↦ elim (above_both a up) [
      | inl k ↦ k
      | inr k ↦ elim (above_cases k) [
        | inl p ↦ rw p same
        | inr r ↦ leads_out cut i f e y z n j a up r.1
      ]
    ]
  ]

  -- so no cut of two edges has them all
  passing_cut : (cut : List ℕ) → length cut ≤ 2 → In (t.first c) cut → ((e s w : ℕ) → Passing g t c e s w → In e cut) → ⊥
  passing_cut cut l i f = h.other (above_once tree
      (closed_reach (Above g t c) (stays_below cut i f) (three.still cut l c t.root h.vertex tree.start) same)
      (root_above tree h.vertex))

  -- there is one
  pub one_passing : ((e s w : ℕ) → Passing g t c e s w → ⊥) → ⊥
  one_passing f = passing_cut (t.first c ∷ []) (omega arith) (first refl) (λ e s w k. absurd (f e s w k))

  -- and another
  pub two_passing : ((d e s w y z : ℕ) → Passing g t c d s w → Passing g t c e y z → d ≡ e) → ⊥
  two_passing f = one_passing (λ d s w k. passing_cut (t.first c ∷ d ∷ []) (omega arith) (first refl) (λ e y z q. later (first (f e d y z s w q k))))

-- where the parent of c is the root, they lead to the root
pub passing_root : {g : Graph} {t : Pointers} {c f s w : ℕ} → Tree g t → t.parent c ≡ t.root → Passing g t c f s w → s ≡ t.root
passing_root {g} {t} {c} {f} {s} tree p k = elim (above_cases (subst (Above g t s) p k.above)) [
  | inl q ↦ q
  | inr q ↦ absurd (q.0.other refl)
]

-- The highest.

-- of two vertices above a third, the one whose rank is not larger is above the other
pub above_by_rank : {g : Graph} {t : Pointers} {u v w : ℕ} → Tree g t → Above g t u w → Above g t v w → t.rank u ≤ t.rank v → Above g t u v
above_by_rank {g} {t} {u} {v} tree a b h = elim (above_both a b) [
  | inl k ↦ k
  | inr k ↦ elim (above_cases k) [
    | inl p ↦ subst (Above g t u) (sym p) same
    | inr r ↦ absurd (omega (arith, h, above_rank tree r.1, tree.falls u r.0))
  ]
]

-- an edge that is not in the tree, from c or below it to c or above it
pub record Near (g : Graph) (t : Pointers) (c f s w : ℕ) : Type 0 where
  pub back : Back g t f s w
  pub below : Above g t c w
  pub above : Above g t s c

-- such an edge leads from c itself or stands at a child of c
pub near_cases : {g : Graph} {t : Pointers} {c f s w : ℕ} → Near g t c f s w
    → (w ≡ c) ⊎ ((d : ℕ) × Child g t d × (t.parent d ≡ c) × Passing g t d f s w)
near_cases {g} {t} {s = s} k = elim (above_child k.below) [
  | inl p ↦ inl p
  | inr (d, h, p, a) ↦ inr (d, h, p, record { back = k.back; below = a; above = subst (Above g t s) (sym p) k.above })
]

-- what leads past the first edge of a child of c is near c
pub child_near : {g : Graph} {t : Pointers} {c d f s w : ℕ} → Child g t d → t.parent d ≡ c → Passing g t d f s w → Near g t c f s w
child_near {g} {t} {c} {d} {f} {s} h p k = record {
  back = k.back;
  below = above_trans (higher h (subst (λ (v : ℕ). Above g t v (t.parent d)) p same)) k.below;
  above = subst (Above g t s) p k.above;
}

-- the edge near c whose upper end has the least rank is the highest that leads past the first edge of c
pub highest_near : {g : Graph} {t : Pointers} {c f s w : ℕ} → Tree g t → ThreeEdgeConnected g → Child g t c → Near g t c f s w
    → ((d y z : ℕ) → Near g t c d y z → t.rank s ≤ t.rank y) → Highest g t c f
highest_near {g} {t} {c} {f} {s} {w} tree three h k least = elim (above_cases k.above) [
  | inl p ↦ absurd (one_passing tree three h (λ d y z q.
      omega (arith, rw p at (least d y z (near q)), above_rank tree q.above, tree.falls c h)))
  | inr (_, over) ↦ record {
    upper = s;
    lower = w;
    passing = record { back = k.back; below = k.below; above = over };
    highest = λ d y z q. above_by_rank tree over q.above (least d y z (near q));
  }
]
  where
    near : {d y z : ℕ} → Passing g t c d y z → Near g t c d y z
    near q = record { back = q.back; below = q.below; above = higher h q.above }
