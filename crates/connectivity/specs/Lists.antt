-- Lists of numbers: what it means that no member stands twice, and small functions that compute.
use Rattle.std.specs.Prelude.{Bool, true, false, not, cond, ◌&&◌, ◌||◌, ℕ, zero, suc, eqb}
use mathlib.Core.List.{List, [], ◌∷◌, Memᴰ as In}

-- no member stands twice
pub data Distinct : List ℕ → Type 0 where
  no_member : Distinct []
  one : {x : ℕ} {l : List ℕ} → (In x l → ⊥) → Distinct l → Distinct (x ∷ l)

-- each member stands in a relation to all later ones: for `◌<◌`, ascending
pub data Ordered {A : Type 0} (R : A → A → Type 0) : List A → Type 0 where
  nil : Ordered R []
  cons : {x : A} {l : List A} → ((y : A) → In y l → R x y) → Ordered R l → Ordered R (x ∷ l)

-- i, i + 1 and so on, k numbers
unfoldable pub range : ℕ → ℕ → List ℕ
range i zero = []
range i (suc k) = i ∷ range (suc i) k

-- some member passes a test
unfoldable pub any : (ℕ → Bool) → List ℕ → Bool
any f [] = false
any f (x ∷ l) = f x || any f l

-- every member does
unfoldable pub all : (ℕ → Bool) → List ℕ → Bool
all f [] = true
all f (x ∷ l) = f x && all f l

-- the members that pass a test, in their order
unfoldable pub keep : (ℕ → Bool) → List ℕ → List ℕ
keep f [] = []
keep f (x ∷ l) = cond (f x) (x ∷ keep f l) (keep f l)

-- x is a member
unfoldable pub mem : ℕ → List ℕ → Bool
mem x [] = false
mem x (y ∷ l) = eqb x y || mem x l

-- no member stands twice, computed
unfoldable pub distinct : List ℕ → Bool
distinct [] = true
distinct (x ∷ l) = not (mem x l) && distinct l

-- there is no member
unfoldable pub empty : List ℕ → Bool
empty [] = true
empty (x ∷ l) = false
