-- The numbers of the lines, before they are text, as the code goes over the marks.
use Rattle.std.specs.Prelude.{◌≡◌, Bool, cond, List, [], ◌∷◌, ◌++◌, ℕ, ◌/◌, ◌%◌, ◌^◌, ◌≤◌, eqb, length, get_or, take}
use Rattle.connectivity.specs.Lists.{range, keep}
use Rattle.connectivity.specs.Fallen.{per_word}

-- v has its mark
unfoldable pub is_marked : List ℕ → ℕ → Bool
is_marked words v = eqb (get_or words (v / per_word) 0 / 2 ^ (v % per_word) % 2) 1

-- a number, then the vertices below n that are marked
unfoldable pub marked_below : ℕ → List ℕ → ℕ → List ℕ
marked_below count words n = count ∷ keep (is_marked words) (range 0 n)

-- some numbers, and v if it is marked
unfoldable pub one_more : List ℕ → List ℕ → ℕ → List ℕ
one_more before words v = before ++ cond (is_marked words v) (v ∷ []) []

-- the first `size` numbers of a list
pub record Begins (front list : List ℕ) (size : ℕ) : Type 0 where
  pub long : size ≡ length front
  pub inside : size ≤ length list
  pub same : take size list ≡ front
