-- A finite search: of the lists of a length over the numbers below a bound, one has a property that is decided, or none.
use mathlib.Core.Path.{◌≡◌, refl}
use mathlib.Core.Logic.{◌⊎◌, inl, inr}
use mathlib.Core.List.Memᴰ.{head as first}
use mathlib.Core.List.Memᴰ.{tail as later}
use mathlib.Core.List.{List, [], ◌∷◌, Memᴰ as In}
use Prim.Native.Nat.{ℕ, zero, suc, ◌<◌}
use native.Mathlib.Omega.{arith}
use native.Mathlib.Decide.{ℕ_discrete}
use lib.ListN.{length}

-- one number has the first property, or all below the bound have the second
one_or_all : {P Q : ℕ → Type 0} → ((x : ℕ) → P x ⊎ Q x) → (bound : ℕ) → ((x : ℕ) × P x) ⊎ ((x : ℕ) → x < bound → Q x)
one_or_all f zero = inr (λ x h. absurd (omega (arith, h)))
one_or_all f (suc b) = elim (f b) [
  | inl p ↦ inl (b, p)
  | inr q ↦ elim (one_or_all f b) [
    | inl p ↦ inl p
    | inr h ↦ inr (λ x l. elim (ℕ_discrete x b) [ yes e ↦ rw e q | no n ↦ h x (omega (arith, l, n)) ])
  ]
]

-- no list of k numbers below the bound has the property
abbrev pub None : (List ℕ → Type 0) → ℕ → ℕ → Type 0
None P bound k = (list : List ℕ) → length list ≡ k → ((n : ℕ) → In n list → n < bound) → P list → ⊥

pub find : {P : List ℕ → Type 0} → ((list : List ℕ) → Dec (P list)) → (bound k : ℕ) → ((list : List ℕ) × P list) ⊎ None P bound k
find {P} d b zero = elim (d []) [ yes p ↦ inl ([], p) | no n ↦ inr (empty n) ]
  where
    empty : (P [] → ⊥) → None P b 0
    empty n [] h l p = n p
    empty n (x ∷ list) h l p = omega (arith, h)
find {P} d b (suc k) = elim (one_or_all (λ x. find {P = λ l. P (x ∷ l)} (λ l. d (x ∷ l)) b k) b) [
  | inl p ↦ inl (p.0 ∷ p.1.0, p.1.1)
  | inr h ↦ inr (longer h)
]
  where
    longer : ((x : ℕ) → x < b → None (λ l. P (x ∷ l)) b k) → None P b (suc k)
    longer f [] h l p = omega (arith, h)
    longer f (x ∷ list) h l p = f x (l x (first refl)) list (omega (arith, h)) (λ n i. l n (later i)) p
