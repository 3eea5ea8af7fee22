-- Walks over different vertices have different edges: a Mader-path, and the first three walks if their edges at x are different.
use mathlib.Core.Path.{◌≡◌, sym, ◌∙◌}
use mathlib.Core.Logic.{◌⊎◌, inl, inr}
use mathlib.Core.List.Memᴰ
use mathlib.Core.List.Memᴰ.{append_cases as in-cases}
use mathlib.Core.List.Memᴰ.{append_left as in_left}
use mathlib.Core.List.Memᴰ.{append_right as in_right}
use mathlib.Core.List.Memᴰ.{cases_cons as in-cons}
use mathlib.Core.List.Memᴰ.{eq_of_singleton}
use mathlib.Core.List.Memᴰ.{head as first}
use mathlib.Core.List.Memᴰ.{not-nil as not_in}
use mathlib.Core.List.Memᴰ.{tail as later}
use mathlib.Core.List.{List, [], ◌∷◌, ◌++◌, append-nil, Memᴰ as In}
use Prim.Native.Nat.{ℕ}
use native.Mathlib.Omega.{arith}
use Rattle.connectivity.specs.Lists.{Distinct, no_member, one}
use Rattle.connectivity.specs.Graph.{Graph}
use Rattle.connectivity.specs.Walk.{Leg, Walk, last, then, froms, inner, edges_of, all_edges, hits}
use Rattle.connectivity.specs.Mader.{MaderPath}
use Rattle.connectivity.proofs.Distinct.{head_distinct, tail_distinct, left_distinct, right_distinct, apart_distinct, join_distinct}
use Rattle.connectivity.proofs.Degree.{hits_from, hits_on, in_degree, from_first, froms_cases, on}
use Rattle.connectivity.proofs.Link.{lead, walk_edge}
use Rattle.connectivity.proofs.Legs.{leg, final, final_cons}
use Rattle.connectivity.proofs.Fresh.{froms-distinct, first_apart}

module _ {g : Graph} where
  -- what an edge of a walk ends at is left by the walk or its end
  ends_on : {u w e x : ℕ} {legs : List Leg} → Walk g u legs w → In e (edges_of legs) → hits g e x ≡ 1 → In x (froms legs) ⊎ (x ≡ w)
  ends_on {x = x} k i h = on x k (in_degree g x i h)

  -- a walk that comes to no vertex twice
  pub walk_once : {u w : ℕ} {legs : List Leg} → Walk g u legs w → Distinct (froms legs) → (In w (froms legs) → ⊥) → Distinct (edges_of legs)
  walk_once (last e j) d n = one not_in no_member
  walk_once (then e j k) d n = one
      (λ i. elim (ends_on k i (hits_from j)) [ inl m ↦ head_distinct d m | inr p ↦ n (first (sym p)) ])
      (walk_once k (tail_distinct d) (λ i. n (later i)))

  -- a walk that does not come back to its start has one edge there, the first
  lead_at : {u w e : ℕ} {legs : List Leg} → Walk g u legs w → (In u (inner legs) → ⊥) → (u ≡ w → ⊥) → In e (edges_of legs) → hits g e u ≡ 1
      → e ≡ lead legs
  lead_at (last d j) n m i h = eq_of_singleton i
  lead_at (then d j k) n m i h = elim (in-cons i) [
    | inl p ↦ p
    | inr q ↦ elim (ends_on k q h) [ inl o ↦ absurd (n o) | inr p ↦ absurd (m p) ]
  ]

  -- and one that comes to its end once has one edge there, the last
  final_at : {u w e : ℕ} {legs : List Leg} → Walk g u legs w → (In w (froms legs) → ⊥) → In e (edges_of legs) → hits g e w ≡ 1 → e ≡ final legs
  final_at (last d j) n i h = eq_of_singleton i
  final_at {w = w} (then {u = u} d j k) n i h = elim (in-cons i) [
    | inl p ↦ elim (hits_on w j (omega (arith, rw p at h))) [ inl q ↦ absurd (n (first q)) | inr q ↦ absurd (n (later (Memᴰ.cast q (from_first k)))) ]
    | inr q ↦ final_at k (λ m. n (later m)) q h ∙ sym (final_cons (leg d u) k)
  ]

-- a Mader-path that is not closed, over edges that are not built
pub path_once : {g : Graph} {built : List ℕ} {u w : ℕ} {legs : List Leg} → MaderPath g built u legs w → (u ≡ w → ⊥)
    → ((e : ℕ) → In e (edges_of legs) → In e built → ⊥) → Distinct built → Distinct (edges_of legs ++ built)
path_once {u = u} {w = w} {legs = legs} r n f d = join_distinct (edges_of legs)
    (walk_once r.walk (froms-distinct r.walk (λ i. r.fresh u i r.begins) r.simple)
    (λ i. elim (froms_cases r.walk i) [ inl p ↦ n (sym p) | inr m ↦ r.fresh w m r.ends ]))
    d f

-- The first three walks: one from x to y and on to x that passes each vertex once, and another from x to y that meets it only there.

module _ {g : Graph} {x y : ℕ} {p q : List Leg} (k : Walk g y p x) (l : Walk g x q y) (d : Distinct (froms q ++ froms p)) where
  different : x ≡ y → ⊥
  different h = apart_distinct (froms q) d (from_first l) (Memᴰ.cast h (from_first k))

  end_off : In x (froms p) → ⊥
  end_off i = apart_distinct (froms q) d (from_first l) i

  start_off : In x (inner q) → ⊥
  start_off i = first_apart l (left_distinct (froms q) (froms p) d) i

  -- what the two walks' edges end at is on them
  on_round : {e v : ℕ} → In e (edges_of q ++ edges_of p) → hits g e v ≡ 1 → In v (froms q ++ froms p)
  on_round i h = elim (in-cases (edges_of q) i) [
    | inl m ↦ elim (ends_on l m h) [ inl o ↦ in_left (froms p) o | inr o ↦ in_right (froms q) (Memᴰ.cast o (from_first k)) ]
    | inr m ↦ elim (ends_on k m h) [ inl o ↦ in_right (froms q) o | inr o ↦ in_left (froms p) (Memᴰ.cast o (from_first l)) ]
  ]

  -- their edges at x are the first and the last
  round_at : {e : ℕ} → In e (edges_of q ++ edges_of p) → hits g e x ≡ 1 → (e ≡ lead q) ⊎ (e ≡ final p)
  round_at i h = elim (in-cases (edges_of q) i) [
    | inl m ↦ inl (lead_at l start_off different m h)
    | inr m ↦ inr (final_at k end_off m h)
  ]

  round_once : (lead q ≡ final p → ⊥) → Distinct (edges_of q ++ edges_of p)
  round_once n = join_distinct (edges_of q)
      (walk_once l (left_distinct (froms q) (froms p) d) (λ i. apart_distinct (froms q) d i (from_first k)))
      (walk_once k (right_distinct (froms q) d) end_off)
      (λ e i m. let (v, o, h) = walk_edge l i in elim (ends_on k m h) [
        | inl s ↦ apart_distinct (froms q) d o s
        | inr s ↦ let at : hits g e x ≡ 1 = rw (← s) h in n (sym (lead_at l start_off different i at) ∙ final_at k end_off m at)
      ])

  pub theta_once : {r : List Leg} → Walk g x r y → Distinct (inner r) → ((v : ℕ) → In v (inner r) → In v (froms q ++ froms p) → ⊥)
      → (lead q ≡ final p → ⊥) → (lead r ≡ lead q → ⊥) → (lead r ≡ final p → ⊥) → Distinct (all_edges (r ∷ q ∷ p ∷ []))
  theta_once {r} m c f n o s = rw (append-nil (edges_of p)) (join_distinct (edges_of r)
      (walk_once m (froms-distinct m off c) (λ i. elim (froms_cases m i) [
        | inl h ↦ different (sym h)
        | inr h ↦ f y h (in_right (froms q) (from_first k))
      ]))
      (round_once n)
      (λ e i h. let (v, a, b) = walk_edge m i in elim (froms_cases m a) [
        | inl z ↦ let at : hits g e x ≡ 1 = rw (← z) b in let w = lead_at m off different i at in elim (round_at h at) [
          | inl t ↦ o (sym w ∙ t)
          | inr t ↦ s (sym w ∙ t)
        ]
        | inr z ↦ f v z (on_round h b)
      ]))
    where
      off : In x (inner r) → ⊥
      off i = f x i (in_left (froms p) (from_first l))
