-- The laws of `Distinct`, and whether two lists have a member in common.
use mathlib.Core.Path.{refl, sym}
use mathlib.Core.Logic.{◌⊎◌, inl, inr}
use mathlib.Core.List.Memᴰ
use mathlib.Core.List.Memᴰ.{append_cases as in-cases}
use mathlib.Core.List.Memᴰ.{append_left as in_left}
use mathlib.Core.List.Memᴰ.{append_right as in_right}
use mathlib.Core.List.Memᴰ.{cases_cons as in-cons}
use mathlib.Core.List.Memᴰ.{head as first}
use mathlib.Core.List.Memᴰ.{not-nil as not_in}
use mathlib.Core.List.Memᴰ.{tail as later}
use mathlib.Core.List.{List, [], ◌∷◌, ◌++◌, Memᴰ as In}
use Prim.Native.Nat.{ℕ, ◌<◌}
use native.Mathlib.Omega.{arith}
use Rattle.connectivity.specs.Lists.{Distinct, no_member, one, Ordered, nil, cons}
use Rattle.connectivity.proofs.Lists.{in_dec}

-- two lists have a member in common, or none
pub common : (l r : List ℕ) → ((x : ℕ) × In x l × In x r) ⊎ ((x : ℕ) → In x l → In x r → ⊥)
common [] r = inr (λ x i. absurd (not_in i))
common (y ∷ l) r = elim (in_dec y r) [
  | yes j ↦ inl (y, first refl, j)
  | no n ↦ elim (common l r) [
    | inl h ↦ inl (h.0, later h.1, h.2)
    | inr h ↦ inr (λ x i j. elim (in-cons i) [ inl p ↦ n (Memᴰ.cast (sym p) j) | inr k ↦ h x k j ])
  ]
]

pub head_distinct : {x : ℕ} {l : List ℕ} → Distinct (x ∷ l) → In x l → ⊥
head_distinct (one n d) = n

pub tail_distinct : {x : ℕ} {l : List ℕ} → Distinct (x ∷ l) → Distinct l
tail_distinct (one n d) = d

pub left_distinct : (l r : List ℕ) → Distinct (l ++ r) → Distinct l
left_distinct [] r d = no_member
left_distinct (x ∷ l) r (one n d) = one (λ i. n (in_left r i)) (left_distinct l r d)

pub right_distinct : (l : List ℕ) {r : List ℕ} → Distinct (l ++ r) → Distinct r
right_distinct [] d = d
right_distinct (x ∷ l) (one n d) = right_distinct l d

-- what stands in one part does not stand in the other
pub apart_distinct : (l : List ℕ) {r : List ℕ} {x : ℕ} → Distinct (l ++ r) → In x l → In x r → ⊥
apart_distinct [] _ i j = elim i [ ]
apart_distinct (y ∷ l) (one n d) (first p) j = n (in_right l (Memᴰ.cast (sym p) j))
apart_distinct (y ∷ l) (one n d) (later i) j = apart_distinct l d i j

pub join_distinct : (l : List ℕ) {r : List ℕ} → Distinct l → Distinct r → ((x : ℕ) → In x l → In x r → ⊥) → Distinct (l ++ r)
join_distinct [] d e f = e
join_distinct (x ∷ l) {r} (one n d) e f = one {x = x} (λ i. elim (in-cases l {t = r} i) [ inl j ↦ n j | inr j ↦ f x (first refl) j ]) (join_distinct l d e (λ y i. f y (later i)))

-- the first two changed round, and what stands behind them less a part
pub swap_distinct : {a b : ℕ} {l : List ℕ} → Distinct (a ∷ b ∷ l) → Distinct (b ∷ a ∷ l)
swap_distinct {a} {b} {l} (one n (one m d)) =
    one {x = b} (λ i. elim (in-cons {b = a} {l = l} i) [ inl e ↦ n (first (sym e)) | inr j ↦ m j ]) (one {x = a} (λ i. n (later i)) d)

pub skip_distinct : {a b : ℕ} (l : List ℕ) {r : List ℕ} → Distinct (a ∷ b ∷ (l ++ r)) → Distinct (a ∷ b ∷ r)
skip_distinct {a} {b} l {r} (one n (one m d)) =
    one {x = a} (λ i. elim (in-cons {b = b} {l = r} i) [ inl e ↦ n (first e) | inr j ↦ n (later (in_right l j)) ]) (one {x = b} (λ i. m (in_right l i)) (right_distinct l d))

-- an ascending list
pub ordered_distinct : {l : List ℕ} → Ordered ◌<◌ l → Distinct l
ordered_distinct nil = no_member
ordered_distinct (cons {x = x} h o) = one (λ i. let l = h x i in omega arith) (ordered_distinct o)
