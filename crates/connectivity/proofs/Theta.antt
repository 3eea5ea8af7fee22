-- Three walks between two vertices, over different vertices, are the first three.
use mathlib.Core.Path.{◌≡◌, refl, sym, subst}
use mathlib.Core.Logic.{inl, inr}
use mathlib.Core.List.Memᴰ.{append_cases as in-cases}
use mathlib.Core.List.Memᴰ.{append_left as in_left}
use mathlib.Core.List.Memᴰ.{append_right as in_right}
use mathlib.Core.List.Memᴰ.{cases_cons as in-cons}
use mathlib.Core.List.Memᴰ.{eq_of_singleton}
use mathlib.Core.List.Memᴰ.{head as first}
use mathlib.Core.List.Memᴰ.{tail as later}
use mathlib.Core.List.{List, [], ◌∷◌, ◌++◌, append-nil, Memᴰ as In}
use Prim.Native.Nat.{ℕ}
use Rattle.connectivity.specs.Lists.{Distinct, one}
use Rattle.connectivity.specs.Graph.{Graph}
use Rattle.connectivity.specs.Walk.{Leg, Walk, last, then, froms, inner}
use Rattle.connectivity.specs.Mader.{Theta}
use Rattle.connectivity.proofs.Distinct.{head_distinct, tail_distinct, left_distinct, right_distinct, apart_distinct, join_distinct}

froms-inner : {g : Graph} {u w : ℕ} {legs : List Leg} → Walk g u legs w → froms legs ≡ u ∷ inner legs
froms-inner (last e j) = refl
froms-inner (then e j k) = refl

-- x, a, y and b without a repetition, and c beside them
simple_theta : {x y : ℕ} (a b c : List ℕ) → Distinct (x ∷ (a ++ (y ∷ b))) → Distinct c
    → ((v : ℕ) → In v c → In v (x ∷ (a ++ (y ∷ b))) → ⊥) → Distinct (x ∷ y ∷ (c ++ (a ++ b)))
simple_theta {x} {y} a b c d e f = one off_x (one off_y
    (join_distinct c e (join_distinct a (left_distinct a (y ∷ b) rest) (tail_distinct from_y) (λ v i m. apart_distinct a rest i (later m)))
    (λ v i m. f v i (later (around m)))))
  where
    rest : Distinct (a ++ (y ∷ b))
    rest = tail_distinct d

    from_y : Distinct (y ∷ b)
    from_y = right_distinct a rest

    around : {v : ℕ} → In v (a ++ b) → In v (a ++ (y ∷ b))
    around i = elim (in-cases a i) [ inl m ↦ in_left (y ∷ b) m | inr m ↦ in_right a (later m) ]

    off_x : In x (y ∷ (c ++ (a ++ b))) → ⊥
    off_x i = elim (in-cons i) [
      | inl p ↦ head_distinct d (in_right a (first p))
      | inr m ↦ elim (in-cases c m) [ inl k ↦ f x k (first refl) | inr k ↦ head_distinct d (around k) ]
    ]

    off_y : In y (c ++ (a ++ b)) → ⊥
    off_y i = elim (in-cases c i) [
      | inl k ↦ f y k (later (in_right a (first refl)))
      | inr k ↦ elim (in-cases a k) [ inl m ↦ apart_distinct a rest m (first refl) | inr m ↦ head_distinct from_y m ]
    ]

-- a walk from x to y and on to x that passes each vertex once, and another from x to y that meets it only there, are three paths
pub theta_from : {g : Graph} {x y : ℕ} {p q r : List Leg} → Walk g y p x → Walk g x q y → Walk g x r y
    → Distinct (froms q ++ froms p) → Distinct (inner r) → ((v : ℕ) → In v (inner r) → In v (froms q ++ froms p) → ⊥)
    → Theta g x y (r ∷ q ∷ p ∷ [])
theta_from {g} {x} {y} {p} {q} {r} k l m d e f = record {
  three = refl;
  between = λ legs i. elim (in-cons i) [
    | inl h ↦ inl (subst (λ w. Walk g x w y) (sym h) m)
    | inr n ↦ elim (in-cons n) [
      | inl h ↦ inl (subst (λ w. Walk g x w y) (sym h) l)
      | inr o ↦ inr (subst (λ w. Walk g y w x) (sym (eq_of_singleton o)) k)
    ]
  ];
  simple = rw (append-nil (inner p)) (simple_theta (inner q) (inner p) (inner r) (subst Distinct whole d) e (λ v i n. f v i (subst (λ w. In v w) (sym whole) n)));
}
  where
    whole : froms q ++ froms p ≡ x ∷ (inner q ++ (y ∷ inner p))
    whole = rw (froms-inner l) (rw (froms-inner k) refl)
