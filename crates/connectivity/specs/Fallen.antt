-- The pieces that would fall (02, note 4) as marks: sixty-four vertices to a word, the lowest in the lowest bit.
use Rattle.std.specs.Prelude.{◌≡◌, Bool, cond, List, [], ◌∷◌, ℕ, zero, suc, ◌+◌, ◌*◌, ◌/◌, ◌%◌, ◌^◌, get_or}
use Rattle.std.specs.Int.Count.{ones}
use Rattle.connectivity.specs.Lists.{mem}
use Rattle.connectivity.specs.Plan.{Limits}
use Rattle.connectivity.specs.Graph.{Graph}
use Rattle.connectivity.specs.Cut.{cut_off}
use Rattle.connectivity.specs.Verdict.{Verdict, refused, weak, firm}

-- 02: so many pieces to a word
abbrev pub per_word : ℕ
per_word = 64

-- 02: the mark of v is set: bit v % 64 of word v / 64, the lowest being bit 0 of word 0
abbrev pub Marked : List ℕ → ℕ → Type 0
Marked words v = get_or words (v / per_word) 0 / 2 ^ (v % per_word) % 2 ≡ 1

-- 02: how many are set: the sum of each word's ones
unfoldable pub marked : List ℕ → ℕ
marked [] = 0
marked (w ∷ rest) = ones w + marked rest

-- How the marks are made.

-- k vertices from v on in one word: a bit is set where the test holds, v's is the lowest
unfoldable pub word_from : (ℕ → Bool) → ℕ → ℕ → ℕ
word_from f v zero = 0
word_from f v (suc k) = 2 * word_from f (suc v) k + cond (f v) 1 0

-- k words of the vertices from v on
unfoldable pub words_from : (ℕ → Bool) → ℕ → ℕ → List ℕ
words_from f v zero = []
words_from f v (suc k) = word_from f v per_word ∷ words_from f (v + per_word) k

-- as many words as hold a mark for each vertex within the limits
abbrev pub words_for : Limits → ℕ
words_for most = (most.vertices + 63) / per_word

-- the marks of some vertices
unfoldable pub marks_of : Limits → List ℕ → List ℕ
marks_of most list = words_from (λ v. mem v list) 0 (words_for most)

-- 02: the marks of the pieces that the lowest one does not reach once the tabs of `cut` are lost
abbrev pub fallen : Limits → Graph → List ℕ → List ℕ
fallen most g cut = marks_of most (cut_off g cut)

-- 02: the pieces that fall with a verdict: those that the named tabs of a weak one cut off; none with a firm one, and none with a refusal
unfoldable pub fall_with : Graph → Verdict → List ℕ
fall_with g (weak cut) = cut_off g cut
fall_with g firm = []
fall_with g (refused a) = []
