-- The laws of degrees and of walks: how many edges of a walk end at a vertex, and what is reached along it.
use mathlib.Core.Path.{◌≡◌, refl, sym, ◌∙◌, subst}
use mathlib.Core.Logic.{◌⊎◌, inl, inr}
use mathlib.Core.Bool.{Bool, true, false, cond, ◌||◌}
use mathlib.Core.List.Memᴰ
use mathlib.Core.List.Memᴰ.{cases_cons as in-cons}
use mathlib.Core.List.Memᴰ.{head as first}
use mathlib.Core.List.Memᴰ.{not-nil as not_in}
use mathlib.Core.List.Memᴰ.{tail as later}
use mathlib.Core.List.{List, [], ◌∷◌, ◌++◌, Memᴰ as In}
use Prim.Native.Nat.{ℕ, suc, ◌+◌, ◌≤◌}
use native.Mathlib.Omega.{arith}
use native.Mathlib.Decide.{ℕ_discrete, dec_le}
use borrow.Author.Tests.{eqb-true, eqb-false}
use lib.Dec.{eqb}
use lib.ListN.{length}
use Rattle.connectivity.specs.Lists.{Distinct, no_member, one}
use Rattle.connectivity.specs.Graph.{Graph, Vertex, Edge, Joins}
use Rattle.connectivity.specs.Reach.{Reach, here, over}
use Rattle.connectivity.specs.Walk.{Leg, Walk, last, then, froms, inner, edges_of, hits, degree, Branch}
use Rattle.connectivity.proofs.Reach.{joins_sym, joins_vertex, reach_map}
use Rattle.connectivity.proofs.Lists.{in_dec}
use Rattle.connectivity.proofs.Distinct.{head_distinct, tail_distinct}

-- Degrees.

pub degree-append : (g : Graph) (l r : List ℕ) (v : ℕ) → degree g (l ++ r) v ≡ degree g l v + degree g r v
degree-append g [] r v = omega arith
degree-append g (e ∷ l) r v = omega (arith, degree-append g l r v)

-- an edge counts once at each of its ends, and nowhere else
pub hits_cases : (g : Graph) (e v : ℕ)
    → (((g.left e ≡ v) ⊎ (g.right e ≡ v)) × (hits g e v ≡ 1)) ⊎ ((g.left e ≡ v → ⊥) × (g.right e ≡ v → ⊥) × (hits g e v ≡ 0))
unfolding hits
hits_cases g e v = go (eqb (g.left e) v) (eqb (g.right e) v) refl refl
  where
    go : (s t : Bool) → eqb (g.left e) v ≡ s → eqb (g.right e) v ≡ t
        → (((g.left e ≡ v) ⊎ (g.right e ≡ v)) × (cond {A = ℕ} (s || t) 1 0 ≡ 1))
        ⊎ ((g.left e ≡ v → ⊥) × (g.right e ≡ v → ⊥) × (cond {A = ℕ} (s || t) 1 0 ≡ 0))
    go true t p q = inl (inl (eqb-true _ _ p), refl)
    go false true p q = inl (inr (eqb-true _ _ q), refl)
    go false false p q = inr (eqb-false _ _ p, eqb-false _ _ q, refl)

pub hits_most : (g : Graph) (e v : ℕ) → hits g e v ≤ 1
hits_most g e v = elim (hits_cases g e v) [ inl h ↦ omega arith | inr h ↦ omega arith ]

pub hits_left : (g : Graph) (e v : ℕ) → g.left e ≡ v → hits g e v ≡ 1
hits_left g e v p = elim (hits_cases g e v) [ inl h ↦ h.1 | inr h ↦ absurd (h.0 p) ]

pub hits_right : (g : Graph) (e v : ℕ) → g.right e ≡ v → hits g e v ≡ 1
hits_right g e v p = elim (hits_cases g e v) [ inl h ↦ h.1 | inr h ↦ absurd (h.1 p) ]

pub hits_ends : (g : Graph) (e v : ℕ) → 1 ≤ hits g e v → (g.left e ≡ v) ⊎ (g.right e ≡ v)
hits_ends g e v k = elim (hits_cases g e v) [ inl h ↦ h.0 | inr h ↦ absurd (omega arith) ]

pub hits_from : {g : Graph} {e u v : ℕ} → Joins g e u v → hits g e u ≡ 1
hits_from {g} {e} {u} j = elim j.ends [ inl p ↦ hits_left g e u p.0 | inr p ↦ hits_right g e u p.1 ]

-- what an edge ends at is one of the two that it joins
pub hits_on : {g : Graph} {e u v : ℕ} (x : ℕ) → Joins g e u v → 1 ≤ hits g e x → (x ≡ u) ⊎ (x ≡ v)
hits_on {g} {e} {u} {v} x j h = go (hits_ends g e x h) j.ends
  where
    go : (g.left e ≡ x) ⊎ (g.right e ≡ x) → ((g.left e ≡ u) × (g.right e ≡ v)) ⊎ ((g.left e ≡ v) × (g.right e ≡ u))
        → (x ≡ u) ⊎ (x ≡ v)
    go (inl p) (inl q) = inl (cc)
    go (inl p) (inr q) = inr (cc)
    go (inr p) (inl q) = inr (cc)
    go (inr p) (inr q) = inl (cc)

pub in_degree : {e : ℕ} {l : List ℕ} (g : Graph) (x : ℕ) → In e l → hits g e x ≡ 1 → 1 ≤ degree g l x
in_degree g x (first p) h = omega (arith, rw p at h)
in_degree g x (later i) h = omega (arith, in_degree g x i h)

-- what edges of the graph end at is a vertex
pub built_vertex : {g : Graph} {v : ℕ} (l : List ℕ) → ((e : ℕ) → In e l → Edge g e) → 1 ≤ degree g l v → Vertex g v
built_vertex [] f h = absurd (omega arith)
built_vertex {g} {v} (e ∷ l) f h = elim (hits_cases g e v) [
  | inl p ↦ elim p.0 [ inl q ↦ subst (Vertex g) q (f e (first refl)).left | inr q ↦ subst (Vertex g) q (f e (first refl)).right ]
  | inr p ↦ built_vertex l (λ d i. f d (later i)) (omega (arith, p.2))
]

-- a list less one place of e
pub record Removed (g : Graph) (e : ℕ) (l : List ℕ) : Type 0 where
  pub rest : List ℕ
  pub kept : (d : ℕ) → (d ≡ e → ⊥) → In d l → In d rest
  pub fewer : length l ≡ suc (length rest)
  pub sum : (x : ℕ) → degree g l x ≡ hits g e x + degree g rest x

pub remove : {e : ℕ} {l : List ℕ} (g : Graph) → In e l → Removed g e l
remove {e} g (first {xs = l} p) = record {
  rest = l;
  kept = λ d n i. elim (in-cons i) [ inl q ↦ absurd (n (q ∙ sym p)) | inr j ↦ j ];
  fewer = refl;
  sum = λ x. rw p;
}
remove {e} g (later {x = d} i) = let r = remove g i in record {
  rest = d ∷ r.rest;
  kept = λ c n i. elim (in-cons i) [ inl p ↦ first p | inr j ↦ later (r.kept c n j) ];
  fewer = omega (arith, r.fewer);
  sum = λ x. omega (arith, r.sum x);
}

-- a part has no more edges than the whole, in all and at a vertex
pub part_length : (g : Graph) (l whole : List ℕ) → Distinct l → ((e : ℕ) → In e l → In e whole) → length l ≤ length whole
part_length g [] whole d f = omega arith
part_length g (e ∷ l) whole (one n d) f = let r = remove g (f e (first refl)) in
    omega (arith, r.fewer, part_length g l r.rest d (λ c i. r.kept c (λ p. n (Memᴰ.cast (sym p) i)) (f c (later i))))

pub part-degree : (g : Graph) (l whole : List ℕ) (x : ℕ) → Distinct l → ((e : ℕ) → In e l → In e whole) → degree g l x ≤ degree g whole x
part-degree g [] whole x d f = omega arith
part-degree g (e ∷ l) whole x (one n d) f = let r = remove g (f e (first refl)) in
    omega (arith, r.sum x, part-degree g l r.rest x d (λ c i. r.kept c (λ p. n (Memᴰ.cast (sym p) i)) (f c (later i))))

-- a vertex that is no branch has no third edge: where a part has two of its edges, it has all
pub full : (g : Graph) (l whole : List ℕ) (x e : ℕ) → Distinct l → ((c : ℕ) → In c l → In c whole) → (Branch g whole x → ⊥)
    → 2 ≤ degree g l x → In e whole → hits g e x ≡ 1 → In e l
full g l whole x e d f n h i k = elim (in_dec e l) [
  | yes j ↦ j
  | no m ↦ absurd (n (omega (arith, part-degree g (e ∷ l) whole x (one m d) both)))
]
  where
    both : (c : ℕ) → In c (e ∷ l) → In c whole
    both c j = elim (in-cons j) [ inl p ↦ Memᴰ.cast p i | inr q ↦ f c q ]

-- Walks.

module _ {g : Graph} where
  pub from_first : {u w : ℕ} {legs : List Leg} → Walk g u legs w → In u (froms legs)
  from_first (last e j) = first refl
  from_first (then e j k) = first refl

  pub froms_cases : {u w x : ℕ} {legs : List Leg} → Walk g u legs w → In x (froms legs) → (x ≡ u) ⊎ In x (inner legs)
  froms_cases (last e j) i = in-cons i
  froms_cases (then e j k) i = in-cons i

  -- the ends of a walk are vertices
  pub walk_from : {u w : ℕ} {legs : List Leg} → Walk g u legs w → Vertex g u
  walk_from (last e j) = joins_vertex j
  walk_from (then e j k) = joins_vertex j

  pub walk_to : {u w : ℕ} {legs : List Leg} → Walk g u legs w → Vertex g w
  walk_to (last e j) = joins_vertex (joins_sym j)
  walk_to (then e j k) = walk_to k

  -- along a walk, from each vertex that it leaves from to its end
  pub walk_reach : {u w : ℕ} {legs : List Leg} (x : ℕ) → Walk g u legs w → In x (froms legs) → Reach g (λ e. In e (edges_of legs)) x w
  walk_reach x (last e j) (first p) = rw p (over e (first refl) j here)
  walk_reach x (last e j) (later i) = absurd (not_in i)
  walk_reach x (then {v = v} e j k) (first p) = rw p (over e (first refl) j (reach_map (λ d i. later i) (walk_reach v k (from_first k))))
  walk_reach x (then e j k) (later i) = reach_map (λ d m. later m) (walk_reach x k i)

  pub start-degree : {u w : ℕ} {legs : List Leg} → Walk g u legs w → 1 ≤ degree g (edges_of legs) u
  start-degree (last e j) = omega (arith, hits_from j)
  start-degree (then e j k) = omega (arith, hits_from j)

  pub stop-degree : {u w : ℕ} {legs : List Leg} → Walk g u legs w → 1 ≤ degree g (edges_of legs) w
  stop-degree (last e j) = omega (arith, hits_from (joins_sym j))
  stop-degree (then e j k) = omega (arith, stop-degree k)

  -- what a walk's edges end at is on the walk
  pub on : {u w : ℕ} {legs : List Leg} (x : ℕ) → Walk g u legs w → 1 ≤ degree g (edges_of legs) x → In x (froms legs) ⊎ (x ≡ w)
  on x (last e j) h = elim (hits_on x j (omega arith)) [ inl p ↦ inl (first p) | inr p ↦ inr p ]
  on x (then e j k) h = elim (dec_le 1 (hits g e x)) [
    | yes q ↦ elim (hits_on x j q) [ inl p ↦ inl (first p) | inr p ↦ inl (later (Memᴰ.cast p (from_first k))) ]
    | no n ↦ elim (on x k (omega arith)) [ inl i ↦ inl (later i) | inr p ↦ inr p ]
  ]

  -- and inside it if it is no end
  pub on_inner : {u w : ℕ} {legs : List Leg} (x : ℕ) → Walk g u legs w → (x ≡ u → ⊥) → (x ≡ w → ⊥) → 1 ≤ degree g (edges_of legs) x
      → In x (inner legs)
  on_inner x k n m h = elim (on x k h) [ inl i ↦ elim (froms_cases k i) [ inl p ↦ absurd (n p) | inr j ↦ j ] | inr p ↦ absurd (m p) ]

  pub start_most : {u w : ℕ} {legs : List Leg} → Walk g u legs w → Distinct (froms legs) → (u ≡ w → ⊥) → degree g (edges_of legs) u ≤ 1
  start_most (last {u = u} e j) d n = omega (arith, hits_most g e u)
  start_most (then {u = u} {legs = legs} e j k) d n = elim (dec_le 1 (degree g (edges_of legs) u)) [
    | yes h ↦ elim (on u k h) [ inl i ↦ absurd (head_distinct d i) | inr p ↦ absurd (n p) ]
    | no m ↦ omega (arith, hits_most g e u)
  ]

  inner-distinct : {u w : ℕ} {legs : List Leg} → Walk g u legs w → Distinct (froms legs) → Distinct (inner legs)
  inner-distinct (last e j) d = no_member
  inner-distinct (then e j k) d = tail_distinct d

  -- away from its ends a walk whose inner vertices are all different has at most two edges at a vertex
  pub inner_most : {u w : ℕ} {legs : List Leg} (x : ℕ) → Walk g u legs w → (x ≡ u → ⊥) → (x ≡ w → ⊥) → Distinct (inner legs)
      → degree g (edges_of legs) x ≤ 2
  inner_most x (last e j) n m d = omega (arith, hits_most g e x)
  inner_most x (then {v = v} e j k) n m d = elim (ℕ_discrete x v) [
    | yes p ↦ omega (arith, hits_most g e x, rw (← p) at (start_most k d (λ q. m (p ∙ q))))
    | no f ↦ elim (dec_le 1 (hits g e x)) [
      | yes h ↦ elim (hits_on x j h) [ inl p ↦ absurd (n p) | inr p ↦ absurd (f p) ]
      | no h ↦ omega (arith, inner_most x k f m (inner-distinct k d))
    ]
  ]

  -- and every walk at least two at its inner vertices
  pub inner_least : {u w : ℕ} {legs : List Leg} (x : ℕ) → Walk g u legs w → In x (inner legs) → 2 ≤ degree g (edges_of legs) x
  inner_least x (last e j) i = absurd (not_in i)
  inner_least x (then e j k) i = elim (froms_cases k i) [
    | inl p ↦ omega (arith, rw (← p) at (hits_from (joins_sym j)), rw (← p) at (start-degree k))
    | inr h ↦ omega (arith, inner_least x k h)
  ]
