-- Excluded vertices (02: slugs) as the code finds its way around them: the first number that is none, and the edges that end there.
use Rattle.std.specs.Prelude.{◌≡◌, Bool, cond, ◌&&◌, ◌||◌, ℕ, suc, ◌+◌, ◌*◌, ◌/◌, ◌≤◌, ◌<◌, T, eqb, ltb, length, get_or}
use mathlib.Core.List.{List, [], ◌∷◌, Memᴰ as In}
use Rattle.connectivity.specs.Lists.{mem}
use Rattle.connectivity.specs.Plan.{Limits}

-- the first number from k on that a list, which begins with k, k + 1 and so on, does not go on with: of an ascending list from 0 on, the lowest
-- number that is not in it
unfoldable pub first_gap : ℕ → List ℕ → ℕ
first_gap k [] = k
first_gap k (v ∷ list) = cond (eqb v k) (first_gap (suc k) list) k

-- an excluded vertex; only one that is below the limit can be marked
unfoldable pub is_barred : Limits → List ℕ → ℕ → Bool
is_barred most excluded v = ltb v most.vertices && mem v excluded

-- an entry of the table of ends that has such an end
unfoldable pub is_covered : Limits → List ℕ → List ℕ → ℕ → Bool
is_covered most ends excluded e = is_barred most excluded (get_or ends (2 * e) 0) || is_barred most excluded (get_or ends (2 * e + 1) 0)

-- `mask`: their marks are 1, and every other stays
pub record Masked (most : Limits) (ends excluded dead₀ dead : List ℕ) : Type 0 where
  pub long : length dead ≡ length dead₀
  pub covered : (e : ℕ) → e < length ends / 2 → e < length dead₀ → T (is_covered most ends excluded e) → get_or dead e 0 ≡ 1
  pub spared : (e : ℕ) → (T (is_covered most ends excluded e) → ⊥) → get_or dead e 0 ≡ get_or dead₀ e 0
  pub behind : (e : ℕ) → length ends / 2 ≤ e → get_or dead e 0 ≡ get_or dead₀ e 0

-- `mark`: the marks at the places that the list names are 1, and every other stays
pub record MarkedAll (list marks₀ marks : List ℕ) : Type 0 where
  pub long : length marks ≡ length marks₀
  pub named : (k : ℕ) → k < length marks₀ → In k list → get_or marks k 0 ≡ 1
  pub other : (k : ℕ) → (In k list → ⊥) → get_or marks k 0 ≡ get_or marks₀ k 0

-- a place has a mark
abbrev pub is_marked : List ℕ → ℕ → Bool
is_marked marks k = eqb (get_or marks k 0) 1

-- an edge has none
abbrev pub is_open : List ℕ → ℕ → Bool
is_open dead e = eqb (get_or dead e 0) 0

-- what `cover` goes by: the marks of the excluded vertices
abbrev pub Barring : Limits → List ℕ → List ℕ → Type 0
Barring most excluded barred = (v : ℕ) → is_marked barred v ≡ is_barred most excluded v
