-- The table of roots of a spanning forest has the lowest vertex of each body.
use mathlib.Core.Path.{◌≡◌, refl, sym, ap, ◌∙◌, subst}
use mathlib.Core.Logic.{inl, inr}
use mathlib.Core.Bool.{Bool, cond}
use mathlib.Core.List.Memᴰ.{not-nil as not_in}
use mathlib.Core.List.{List, []}
use Prim.Native.Nat.{ℕ, zero, suc, ◌+◌, ◌-◌, ◌≤◌, ◌<◌}
use native.Mathlib.Omega.{arith}
use native.Mathlib.Decide.{ℕ_discrete, dec_lt}
use lib.Dec.{eqb}
use lib.ListN.{length, get_or, set, length-set}
use borrow.Author.Tests.{eq-eqb, ne_eqb}
use lib.Seq.{get_or-set_same, get_or-set_other}
use Rattle.connectivity.specs.Plan.{Plan, graph}
use Rattle.connectivity.specs.Graph.{Graph, Joins}
use Rattle.connectivity.specs.Reach.{Reach, here, over, Without}
use Rattle.connectivity.proofs.Reach.{joins_sym, reach_sym, reach_trans, closed_reach}
use Rattle.graph.specs.Marks.{read}
use Rattle.graph.proofs.Joined.{joins_below}
use Rattle.depth.specs.Depth.{root_mark}
use Rattle.depth.specs.Forest.{RootsLow}
use Rattle.labels.specs.Answered.{ForestOf}
use Rattle.components.specs.Stars.{Grouping}
use Rattle.components.specs.Bodies.{RootOf, Rooting, Bodied}

root_unique : {mark at : ℕ → ℕ} {i r s : ℕ} → RootOf mark at i r → RootOf mark at i s → r ≡ s
root_unique {at = at} x y = sym x.there ∙ ap at (omega (arith, order x y, order y x)) ∙ y.there
  where
    order : {mark at : ℕ → ℕ} {i r s : ℕ} → (x : RootOf mark at i r) → (y : RootOf mark at i s) → x.place ≤ y.place
    order x y = elim (dec_lt y.place x.place) [ yes l ↦ absurd (y.last x.place l x.before x.root) | no l ↦ omega arith ]

-- up to an earlier place that is not before the root
root_back : {mark at : ℕ → ℕ} {i j r : ℕ} (x : RootOf mark at i r) → x.place ≤ j → j ≤ i → RootOf mark at j r
root_back x l b = record { place = x.place; before = l; there = x.there; root = x.root; last = λ k a c. x.last k a (omega arith) }

-- The pass along the order.

pub rooting_start : (n : ℕ) (first order table : List ℕ) → Rooting n 0 0 first order table table
rooting_start n first order table = record { kept = record { long = refl; rest = λ k l. refl }; each = λ i l. absurd (omega arith); now = λ l. absurd (omega arith) }

module _ (p : Plan) {k : ℕ} {first order table₀ table : List ℕ} (f : ForestOf p first order) (h : k < p.vertices) (room : p.vertices ≤ length table₀) where
  rooting_on : {r x : ℕ} → Rooting p.vertices k r first order table₀ table → RootOf (read first) (read order) k x → Rooting p.vertices (k + 1) x first order table₀ (set table (get_or order k 0) x)
  rooting_on {x = x} s o = record {
    kept = record {
      long = length-set table (get_or order k 0) x ∙ s.kept.long;
      rest = λ j l. get_or-set_other table (get_or order k 0) j x 0 (λ q. omega (arith, f.valid k h)) ∙ s.kept.rest j l;
    };
    each = λ i l. elim (ℕ_discrete i k) [
      | yes q ↦ rw q (rw (get_or-set_same table (get_or order k 0) x 0 (omega (arith, f.valid k h, room, s.kept.long))) o)
      | no q ↦ rw (get_or-set_other table (get_or order k 0) (get_or order i 0) x 0 (λ e. f.once i k (omega arith) h e)) (s.each i (omega arith))
    ];
    now = λ l. let q : k + 1 - 1 ≡ k = omega arith in rw q o;
  }

  -- a root begins a body
  rooting_root : {r : ℕ} → Rooting p.vertices k r first order table₀ table → get_or first (get_or order k 0) 0 ≡ root_mark → Rooting p.vertices (k + 1) (get_or order k 0) first order table₀ (set table (get_or order k 0) (get_or order k 0))
  rooting_root s q = rooting_on s (record { place = k; before = omega arith; there = refl; root = q; last = λ j a b. absurd (omega arith) })

  -- any other is in that of the last root
  rooting_next : {r : ℕ} → Rooting p.vertices k r first order table₀ table → (get_or first (get_or order k 0) 0 ≡ root_mark → ⊥) → Rooting p.vertices (k + 1) r first order table₀ (set table (get_or order k 0) r)
  rooting_next s n = rooting_on s (let o = s.now some in record {
    place = o.place;
    before = omega (arith, o.before);
    there = o.there;
    root = o.root;
    last = λ j a b q. elim (ℕ_discrete j k) [ yes z ↦ n (rw z at q) | no z ↦ o.last j a (omega arith) q ];
  })
    where
      some : 0 < k
      some = elim (f.tree k h) [ inl q ↦ absurd (n q) | inr o ↦ omega (arith, o.1) ]

  pub rooting_step : {r x : ℕ} → x ≡ cond (eqb (get_or first (get_or order k 0) 0) root_mark) (get_or order k 0) r → Rooting p.vertices k r first order table₀ table
      → Rooting p.vertices (k + 1) x first order table₀ (set table (get_or order k 0) x)
  rooting_step {r} q s = elim (ℕ_discrete (get_or first (get_or order k 0) 0) root_mark) [
    | yes z ↦ rw (q ∙ chosen (eq-eqb (get_or first (get_or order k 0) 0) root_mark z)) (rooting_root s z)
    | no z ↦ rw (q ∙ chosen (ne_eqb (get_or first (get_or order k 0) 0) root_mark z)) (rooting_next s z)
  ]
    where
      chosen : {t : Bool} → eqb (get_or first (get_or order k 0) 0) root_mark ≡ t → cond (eqb (get_or first (get_or order k 0) 0) root_mark) (get_or order k 0) r ≡ cond t (get_or order k 0) r
      chosen z = ap (λ (t : Bool). cond t (get_or order k 0) r) z

-- The bodies.

module _ (p : Plan) {root : ℕ} {first order table₀ table : List ℕ} (f : ForestOf p first order) (low : RootsLow p.vertices (read first) (read order)) (s : Rooting p.vertices p.vertices root first order table₀ table) where
  abbrev n : ℕ
  n = p.vertices

  abbrev g : Graph
  g = graph p

  abbrev at : ℕ → ℕ
  at = read order

  abbrev Root : ℕ → ℕ → Type 0
  Root = RootOf (read first) at

  -- down the tree, from place to later place
  from_root : (m i : ℕ) {r : ℕ} → i < m → i < n → Root i r → Reach g (Without []) r (at i)
  from_root zero i l b o = absurd (omega arith)
  from_root (suc m) i {r} l b o = elim (ℕ_discrete o.place i) [
    | yes q ↦ subst (Reach g (Without []) r) (sym o.there ∙ ap at q) here
    | no ne ↦ elim (f.tree i b) [
      | inl q ↦ absurd (o.last i (omega (arith, o.before)) (omega arith) q)
      | inr e ↦ elim (dec_lt e.0 o.place) [
        | yes c ↦ absurd (f.border o.place (omega (arith, o.before)) o.root (get_or first (at i) 0 - 1) e.0 i c o.before b e.2)
        | no c ↦ reach_trans (from_root m e.0 (omega (arith, e.1)) (omega (arith, e.1)) (root_back o (omega arith) (omega (arith, e.1))))
            (over (get_or first (at i) 0 - 1) (λ j. not_in j) e.2 here)
      ]
    ]
  ]

  -- an edge stays in a body
  one_body : (e i j : ℕ) {r t : ℕ} → i < j → j < n → Joins g e (at i) (at j) → Root i r → Root j t → r ≡ t
  one_body e i j l b w x y = elim (dec_lt i y.place) [
    | yes c ↦ absurd (f.border y.place (omega (arith, y.before)) y.root e i j c y.before b w)
    | no c ↦ root_unique x (root_back y (omega arith) (omega arith))
  ]

  rooted : (v : ℕ) → v < n → (i : ℕ) × (i < n) × (at i ≡ v) × Root i (get_or table v 0)
  rooted v l = let o = f.listed v l in (o.0, o.1, o.2, subst (λ (x : ℕ). Root o.0 (get_or table x 0)) o.2 (s.each o.0 o.1))

  joined_same : (e u v : ℕ) → Joins g e u v → get_or table u 0 ≡ get_or table v 0
  joined_same e u v w =
      let x = rooted u (joins_below p (joins_sym w)) in
      let y = rooted v (joins_below p w) in
      let k : Joins g e (at x.0) (at y.0) = rw (x.2, y.2) w in
      elim (dec_lt x.0 y.0) [
        | yes l ↦ one_body e x.0 y.0 l y.1 k x.3 y.3
        | no l ↦ elim (ℕ_discrete x.0 y.0) [
          | yes q ↦ ap (read table) (sym x.2 ∙ ap at q ∙ y.2)
          | no q ↦ sym (one_body e y.0 x.0 (omega arith) x.1 (joins_sym k) y.3 x.3)
        ]
      ]

  bodies_grouping : Grouping g n (read table)
  bodies_grouping = record {
    classes = record { own = own; fixed = fixed };
    sound = λ u v l b t. closed_reach (λ (x : ℕ). get_or table u 0 ≡ get_or table x 0) (λ e x y w j q. q ∙ joined_same e x y j) (t [] (omega arith)) refl;
    whole = λ u v l b q. reach_trans (reach_sym (spoke u l)) (subst (λ (x : ℕ). Reach g (Without []) x v) (sym q) (spoke v b));
  }
    where
      spoke : (v : ℕ) → v < n → Reach g (Without []) (get_or table v 0) v
      spoke v l = let x = rooted v l in subst (Reach g (Without []) (get_or table v 0)) x.2 (from_root (suc x.0) x.0 (omega arith) x.1 x.3)

      own : (v : ℕ) → v < n → get_or table v 0 ≤ v
      own v l = let x = rooted v l in let o = x.3 in elim (ℕ_discrete o.place x.0) [
        | yes q ↦ omega (arith, sym o.there ∙ ap at q ∙ x.2)
        | no q ↦ omega (arith, low o.place x.0 (omega (arith, o.before)) x.1 o.root, o.there, x.2)
      ]

      fixed : (v : ℕ) → v < n → get_or table (get_or table v 0) 0 ≡ get_or table v 0
      fixed v l = let x = rooted v l in let o = x.3 in
          ap (read table) (sym o.there) ∙ root_unique (s.each o.place (omega (arith, o.before, x.1)))
          (record { place = o.place; before = omega arith; there = o.there; root = o.root; last = λ j a b. absurd (omega arith) })

  pub bodied : Bodied p table₀ table
  bodied = record { kept = s.kept; groups = bodies_grouping }
