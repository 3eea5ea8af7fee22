-- Where legs lead: the start and the stop of a walk, and a walk with one leg more.
use mathlib.Core.Path.{◌≡◌, refl, sym, ap}
use mathlib.Core.Logic.{inl, inr}
use mathlib.Core.Bool.{◌||◌}
use mathlib.Core.List.Memᴰ.{append_cases as in-cases}
use mathlib.Core.List.Memᴰ.{append_left as in_left}
use mathlib.Core.List.Memᴰ.{append_right as in_right}
use mathlib.Core.List.Memᴰ.{eq_of_singleton}
use mathlib.Core.List.Memᴰ.{head as first}
use mathlib.Core.List.Memᴰ.{tail as later}
use mathlib.Core.List.{List, [], ◌∷◌, ◌++◌, Memᴰ as In}
use Prim.Native.Nat.{ℕ, suc}
use native.Mathlib.Decide.{ℕ_discrete}
use lib.Dec.{T, eqb, eqb→eq}
use lib.ListN.{length}
use borrow.Author.Tests.{eq-eqb, ne_eqb}
use Rattle.connectivity.specs.Lists.{Distinct, one}
use Rattle.connectivity.specs.Graph.{Graph, Edge, Joins}
use Rattle.connectivity.specs.Walk.{Leg, Walk, last, then, edges_of, far, start, stop}
use Rattle.connectivity.proofs.Lists.{or_one, or_left, or_right, eq-T}

abbrev pub leg : ℕ → ℕ → Leg
leg e v = record { edge = e; from = v }

-- the far end of an edge that joins u and v, seen from u, is v
pub far_is : {g : Graph} {e u v : ℕ} → Joins g e u v → far g e u ≡ v
unfolding far
far_is {g} {e} {u} {v} j = elim (ℕ_discrete (g.left e) u) [
  | yes p ↦ rw (eq-eqb (g.left e) u p) (elim j.ends [ inl q ↦ q.1 | inr q ↦ cc ])
  | no n ↦ rw (ne_eqb (g.left e) u n) (elim j.ends [ inl q ↦ absurd (n q.0) | inr q ↦ q.0 ])
]

-- an edge joins each of its ends to the far one
pub joins_far : {g : Graph} {e u : ℕ} → Edge g e → T (eqb (g.left e) u || eqb (g.right e) u) → Joins g e u (far g e u)
unfolding far
joins_far {g} {e} {u} h t = elim (ℕ_discrete (g.left e) u) [
  | yes p ↦ rw (eq-eqb (g.left e) u p) (record { edge = h; ends = inl (p, refl) })
  | no n ↦ rw (ne_eqb (g.left e) u n) (record { edge = h; ends = inr (refl, elim (or_one (eqb (g.left e) u) _ t) [ inl q ↦ absurd (n (eqb→eq (g.left e) u q)) | inr q ↦ eqb→eq (g.right e) u q ]) })
]

pub joins_end : {g : Graph} {e u v : ℕ} → Joins g e u v → T (eqb (g.left e) u || eqb (g.right e) u)
joins_end {g} {e} {u} j = elim j.ends [ inl p ↦ or_left (eqb (g.left e) u) _ (eq-T p.0) | inr p ↦ or_right (eqb (g.left e) u) _ (eq-T p.1) ]

pub walk_start : {g : Graph} {u w : ℕ} {legs : List Leg} → Walk g u legs w → start legs ≡ u
unfolding start
walk_start (last e j) = refl
walk_start (then e j k) = refl

pub walk_stop : {g : Graph} {u w : ℕ} {legs : List Leg} → Walk g u legs w → stop g legs ≡ w
unfolding stop
walk_stop (last e j) = far_is j
walk_stop (then e j (last d i)) = far_is i
walk_stop (then e j (then d i k)) = walk_stop (then d i k)

-- one leg more
pub stop_snoc : (g : Graph) (legs : List Leg) (l : Leg) → stop g (legs ++ (l ∷ [])) ≡ far g l.edge l.from
unfolding stop
stop_snoc g [] l = refl
stop_snoc g (k ∷ []) l = refl
stop_snoc g (k ∷ (m ∷ legs)) l = stop_snoc g (m ∷ legs) l

pub walk_snoc : {g : Graph} {u v w e : ℕ} {legs : List Leg} → Walk g u legs v → Joins g e v w → Walk g u (legs ++ (leg e v ∷ [])) w
walk_snoc (last d i) j = then d i (last _ j)
walk_snoc (then d i k) j = then d i (walk_snoc k j)

pub edges_snoc : (legs : List Leg) (l : Leg) → edges_of (legs ++ (l ∷ [])) ≡ edges_of legs ++ (l.edge ∷ [])
edges_snoc [] l = refl
edges_snoc (k ∷ legs) l = ap (λ (m : List ℕ). k.edge ∷ m) (edges_snoc legs l)

-- a number between two parts of a list
pub distinct_between : {x : ℕ} (l r : List ℕ) → (In x l → ⊥) → (In x r → ⊥) → Distinct (l ++ r) → Distinct ((l ++ (x ∷ [])) ++ r)
distinct_between [] r n m d = one m d
distinct_between {x} (y ∷ l) r n m (one h d) = one off (distinct_between l r (λ i. n (later i)) m d)
  where
    off : In y ((l ++ (x ∷ [])) ++ r) → ⊥
    off i = elim (in-cases (l ++ (x ∷ [])) i) [
      | inl j ↦ elim (in-cases l j) [ inl k ↦ h (in_left r k) | inr k ↦ n (first (sym (eq_of_singleton k))) ]
      | inr j ↦ h (in_right l j)
    ]

pub legs_edges : (legs : List Leg) → length (edges_of legs) ≡ length legs
legs_edges [] = refl
legs_edges (l ∷ legs) = ap suc (legs_edges legs)

-- the last edge
abbrev pub final : List Leg → ℕ
final [] = 0
final (l ∷ []) = l.edge
final (l ∷ (m ∷ legs)) = final (m ∷ legs)

pub final_snoc : (legs : List Leg) (l : Leg) → final (legs ++ (l ∷ [])) ≡ l.edge
final_snoc [] l = refl
final_snoc (k ∷ []) l = refl
final_snoc (k ∷ (m ∷ legs)) l = final_snoc (m ∷ legs) l

pub final_cons : {g : Graph} {u w : ℕ} {legs : List Leg} (l : Leg) → Walk g u legs w → final (l ∷ legs) ≡ final legs
final_cons l (last e j) = refl
final_cons l (then e j k) = refl
