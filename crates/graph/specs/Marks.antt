-- Marks of edges and vertices, as a search reads and leaves them. No notion of 01.
use Rattle.std.specs.Prelude.{◌≡◌, Bool, cond, List, ℕ, zero, suc, ◌+◌, get_or}

-- the numbers of a table by place, 0 behind its end
abbrev pub read : List ℕ → ℕ → ℕ
read table k = get_or table k 0

-- an edge is live if its mark is 0
abbrev pub Live : List ℕ → ℕ → Type 0
Live dead e = get_or dead e 0 ≡ 0

-- a vertex was seen if its mark is not 0: that of a start or root, or one more than the edge by which it was first reached
abbrev pub Marked : (ℕ → ℕ) → ℕ → Type 0
Marked mark v = mark v ≡ 0 → ⊥

-- how many numbers below d pass a test
unfoldable pub rank : (ℕ → Bool) → ℕ → ℕ
rank f zero = 0
rank f (suc d) = cond (f d) 1 0 + rank f d

-- how many of the first n vertices have been seen
unfoldable pub flag : ℕ → ℕ
flag zero = 0
flag (suc k) = 1

unfoldable pub tally : (ℕ → ℕ) → ℕ → ℕ
unfolding flag
tally mark zero = 0
tally mark (suc n) = flag (mark n) + tally mark n
