-- The first three walks along the tree: over each of two edges that lead from below c, a child of the root, to the root, and up to where the ways
-- up meet; and from there up to the root.
use mathlib.Core.Path.{◌≡◌, refl, sym, ◌∙◌, subst}
use mathlib.Core.Logic.{◌⊎◌, inl, inr}
use mathlib.Core.List.Memᴰ
use mathlib.Core.List.Memᴰ.{append_cases as in-cases}
use mathlib.Core.List.Memᴰ.{append_left as in_left}
use mathlib.Core.List.Memᴰ.{append_right as in_right}
use mathlib.Core.List.Memᴰ.{cases_cons as in-cons}
use mathlib.Core.List.Memᴰ.{head as first}
use mathlib.Core.List.Memᴰ.{not-nil as not_in}
use mathlib.Core.List.Memᴰ.{tail as later}
use mathlib.Core.List.{List, [], ◌∷◌, ◌++◌, Memᴰ as In}
use Prim.Native.Nat.{ℕ, ◌≤◌}
use native.Mathlib.Omega.{arith}
use native.Mathlib.Decide.{dec_le}
use Rattle.connectivity.specs.Lists.{Distinct, one}
use Rattle.connectivity.specs.Graph.{Graph, Vertex, Edge, Joins}
use Rattle.connectivity.specs.Walk.{Leg, Walk, last, then, froms, edges_of, all_edges, hits, degree, Built, Branch}
use Rattle.connectivity.specs.Mader.{Theta}
use Rattle.connectivity.proofs.Reach.{joins_sym, joins_vertex}
use Rattle.connectivity.proofs.Distinct.{join_distinct}
use Rattle.connectivity.proofs.Degree.{hits_on, hits_most}
use Rattle.connectivity.proofs.Stage.{all_degree}
use Rattle.connectivity.proofs.Legs.{leg, final, final_cons}
use Rattle.connectivity.proofs.Theta.{theta_from}
use Rattle.connectivity.proofs.Once.{theta_once}
use Rattle.tree.specs.Tree.{Pointers, Child, Above, Tree, OffTree, Back, Passing, Climb, there, on as up, Held}
use Rattle.tree.proofs.Above.{above_trans, above_once, parent_vertex, root_above, back_once, climb_end, climb_new, climb_below, climb_once, climb_first, climb_edge, climb_child, climb_on, climb_under, climb_walk}
use Rattle.tree.proofs.Step.{step}

final_in : {g : Graph} {u w : ℕ} {legs : List Leg} → Walk g u legs w → In (final legs) (edges_of legs)
final_in (last e j) = first refl
final_in (then {u = u} e j k) = later (Memᴰ.cast (final_cons (leg e u) k) (final_in k))

-- edges that end at v
pub built_edge : (g : Graph) (v : ℕ) (l : List ℕ) → 1 ≤ degree g l v → (e : ℕ) × In e l × (hits g e v ≡ 1)
built_edge g v [] h = absurd (omega arith)
built_edge g v (e ∷ l) h = elim (dec_le 1 (degree g l v)) [
  | yes k ↦ let r = built_edge g v l k in (r.0, later r.1, r.2)
  | no n ↦ (e, first refl, omega (arith, hits_most g e v))
]

module _ {g : Graph} {t : Pointers} {S : ℕ → Type 0} (tree : Tree g t) where
  -- a climb that has a leg is a walk
  climb_up : {v w : ℕ} {legs : List Leg} → (S v → ⊥) → Climb g t S v legs w → Walk g v legs w
  climb_up n (there s) = absurd (n s)
  climb_up n (up {v = v} c m k) = climb_walk tree (tree.joins v c) k

  climb_vertex : {v w : ℕ} {legs : List Leg} → Vertex g v → Climb g t S v legs w → Vertex g w
  climb_vertex h (there s) = h
  climb_vertex h (up c m k) = climb_vertex (parent_vertex tree c) k

  pub climb_start : {v w : ℕ} {legs : List Leg} → Climb g t S v legs w → In v (froms legs) ⊎ (v ≡ w)
  climb_start (there s) = inr refl
  climb_start (up c m k) = inl (first refl)

  -- what its edges end at it leaves or comes to
  pub climb_ends : {v w x e : ℕ} {legs : List Leg} → Climb g t S v legs w → In e (edges_of legs) → hits g e x ≡ 1 → In x (froms legs) ⊎ (x ≡ w)
  climb_ends (there s) i h = absurd (not_in i)
  climb_ends {x = x} (up {v = v} c m k) i h = elim (in-cons i) [
    | inl p ↦ elim (hits_on x (tree.joins v c) (omega (arith, rw p at h))) [
      | inl q ↦ inl (first q)
      | inr q ↦ elim (climb_start k) [ inl o ↦ inl (later (Memᴰ.cast q o)) | inr o ↦ inr (q ∙ o) ]
    ]
    | inr o ↦ elim (climb_ends k o h) [ inl q ↦ inl (later q) | inr q ↦ inr q ]
  ]

-- where the ways up meet is not the root: it is c or below c
module _ {g : Graph} {t : Pointers} {c f d w u x : ℕ} {r : List Leg} (tree : Tree g t) (child : Child g t c)
    (one_door : Passing g t c f t.root w) (other_door : Passing g t c d t.root u) (meets : Climb g t (λ v. Above g t v w) u r x) where
  pub meeting_below : x ≡ t.root → ⊥
  meeting_below h = child.other (above_once tree (subst (Above g t c) h (climb_below meets other_door.below one_door.below)) (root_above tree child.vertex))

  pub meeting_child : Child g t x
  meeting_child = record { vertex = climb_vertex tree (joins_vertex (joins_sym other_door.back.joins)) meets; other = meeting_below }

module _ {g : Graph} {t : Pointers} {c f d w u x : ℕ} {p q r : List Leg} (tree : Tree g t) (child : Child g t c)
    (one_door : Passing g t c f t.root w) (other_door : Passing g t c d t.root u) (differ : f ≡ d → ⊥)
    (meets : Climb g t (λ v. Above g t v w) u r x) (to_x : Climb g t (λ v. v ≡ x) w q x)
    (to_root : Climb g t (λ v. v ≡ t.root) x p t.root) where
  not_root : x ≡ t.root → ⊥
  not_root = meeting_below tree child one_door other_door meets

  walk_one : Walk g t.root (step f t.root q) x
  walk_one = climb_walk tree one_door.back.joins to_x

  walk_two : Walk g x p t.root
  walk_two = climb_up tree not_root to_root

  walk_three : Walk g t.root (step d t.root r) x
  walk_three = climb_walk tree other_door.back.joins meets

  -- the first two pass each vertex once
  pub round : Distinct (t.root ∷ (froms q ++ froms p))
  round = one {x = t.root}
      (λ i. elim (in-cases (froms q) {t = froms p} i) [ inl m ↦ (climb_child tree to_x m).other refl | inr m ↦ (climb_child tree to_root m).other refl ])
      (join_distinct (froms q) (climb_once tree to_x) (climb_once tree to_root)
      (λ v i m. climb_new to_x i (above_once tree (climb_on tree to_root m) (climb_under tree to_x i))))

  -- and the third none of theirs
  pub beside : (v : ℕ) → In v (froms r) → In v (t.root ∷ (froms q ++ froms p)) → ⊥
  beside v i m = elim (in-cons m) [
    | inl h ↦ (climb_child tree meets i).other h
    | inr o ↦ elim (in-cases (froms q) o) [
      | inl k ↦ climb_new meets i (climb_on tree to_x k)
      | inr k ↦ climb_new meets i (above_trans (climb_on tree to_root k) (climb_end meets))
    ]
  ]

  off_two : {e : ℕ} → OffTree g t e → e ≡ final p → ⊥
  off_two off h = let k = climb_edge tree to_root (final_in walk_two) in off k.0 k.1 (h ∙ k.3)

  pub begin_theta : Theta g t.root x (step d t.root r ∷ step f t.root q ∷ p ∷ [])
  begin_theta = theta_from walk_two walk_one walk_three round (climb_once tree meets) beside

  pub begin_once : Distinct (all_edges (step d t.root r ∷ step f t.root q ∷ p ∷ []))
  begin_once = theta_once walk_two walk_one round walk_three (climb_once tree meets) beside (off_two one_door.back.off)
      (λ h. differ (sym h)) (off_two other_door.back.off)

  -- What is built.

  abbrev pub begun : List ℕ
  begun = all_edges (step d t.root r ∷ step f t.root q ∷ p ∷ [])

  in_r : {e : ℕ} → In e (edges_of r) → In e begun
  in_r i = later (in_left (f ∷ (edges_of q ++ (edges_of p ++ []))) i)

  in_q : {e : ℕ} → In e (edges_of q) → In e begun
  in_q i = later (in_right (edges_of r) (later (in_left (edges_of p ++ []) i)))

  pub in_p : {e : ℕ} → In e (edges_of p) → In e begun
  in_p i = later (in_right (edges_of r) (later (in_right (edges_of q) (in_left [] i))))

  -- an edge of theirs is d, f, or one of a climb
  pub cases : {e : ℕ} → In e begun → ((e ≡ d) ⊎ (e ≡ f)) ⊎ (In e (edges_of r) ⊎ (In e (edges_of q) ⊎ In e (edges_of p)))
  cases i = elim (in-cons i) [
    | inl h ↦ inl (inl h)
    | inr m ↦ elim (in-cases (edges_of r) m) [
      | inl k ↦ inr (inl k)
      | inr k ↦ elim (in-cons k) [
        | inl h ↦ inl (inr h)
        | inr o ↦ elim (in-cases (edges_of q) o) [
          | inl a ↦ inr (inr (inl a))
          | inr a ↦ elim (in-cases (edges_of p) a) [ inl b ↦ inr (inr (inr b)) | inr b ↦ absurd (not_in b) ]
        ]
      ]
    ]
  ]

  -- what is left by a climb, and x, have their first edges there
  pub first_x : In (t.first x) begun
  first_x = elim (climb_start tree to_root) [ inl i ↦ in_p (climb_first tree to_root i) | inr h ↦ absurd (not_root h) ]

  pub first_r : {v : ℕ} → In v (froms r) ⊎ (v ≡ x) → In (t.first v) begun
  first_r (inl i) = in_r (climb_first tree meets i)
  first_r (inr h) = rw h first_x

  pub first_q : {v : ℕ} → In v (froms q) ⊎ (v ≡ x) → In (t.first v) begun
  first_q (inl i) = in_q (climb_first tree to_x i)
  first_q (inr h) = rw h first_x

  first_at : {v e y z : ℕ} → Child g t v → e ≡ z → Joins g z t.root y → hits g e v ≡ 1 → v ≡ y
  first_at {v} {e} k h j m = elim (hits_on v j (omega (arith, rw h at m))) [ inl a ↦ absurd (k.other a) | inr a ↦ a ]

  begin_upwards : (v : ℕ) → Child g t v → Built g begun v → In (t.first v) begun
  begin_upwards v k h = let (e, i, m) = built_edge g v begun h in elim (cases i) [
    | inl (inl a) ↦ let b = first_at k a other_door.back.joins m in
        elim (climb_start tree meets) [ inl o ↦ first_r (inl (Memᴰ.cast b o)) | inr o ↦ first_r (inr (b ∙ o)) ]
    | inl (inr a) ↦ let b = first_at k a one_door.back.joins m in
        elim (climb_start tree to_x) [ inl o ↦ first_q (inl (Memᴰ.cast b o)) | inr o ↦ first_q (inr (b ∙ o)) ]
    | inr (inl a) ↦ first_r (climb_ends tree meets a m)
    | inr (inr (inl a)) ↦ first_q (climb_ends tree to_x a m)
    | inr (inr (inr a)) ↦ elim (climb_ends tree to_root a m) [ inl o ↦ in_p (climb_first tree to_root o) | inr o ↦ absurd (k.other o) ]
  ]

  pub root_branch : Branch g begun t.root
  root_branch = omega (arith, all_degree (step d t.root r ∷ step f t.root q ∷ p ∷ []) begin_theta.between)

  climbed : {S : ℕ → Type 0} {v y e : ℕ} {legs : List Leg} → Climb g t S v legs y → In e (edges_of legs) → Edge g e × (OffTree g t e → ⊥)
  climbed k i = let a = climb_edge tree k i in (subst (Edge g) (sym a.3) (tree.joins a.0 a.1).edge, λ off. off a.0 a.1 a.3)

  pub begin_held : Held g t begun
  begin_held = record {
    edges = λ e i. elim (cases i) [
      | inl (inl a) ↦ subst (Edge g) (sym a) other_door.back.joins.edge
      | inl (inr a) ↦ subst (Edge g) (sym a) one_door.back.joins.edge
      | inr (inl a) ↦ (climbed meets a).0
      | inr (inr (inl a)) ↦ (climbed to_x a).0
      | inr (inr (inr a)) ↦ (climbed to_root a).0
    ];
    rooted = root_branch;
    upwards = begin_upwards;
    hung = λ e s y b i. elim (cases i) [
      | inl (inl a) ↦ subst (Branch g begun) (sym (back_once tree other_door.back (subst (λ (z : ℕ). Back g t z s y) a b)).0) root_branch
      | inl (inr a) ↦ subst (Branch g begun) (sym (back_once tree one_door.back (subst (λ (z : ℕ). Back g t z s y) a b)).0) root_branch
      | inr (inl a) ↦ absurd ((climbed meets a).1 b.off)
      | inr (inr (inl a)) ↦ absurd ((climbed to_x a).1 b.off)
      | inr (inr (inr a)) ↦ absurd ((climbed to_root a).1 b.off)
    ];
  }
