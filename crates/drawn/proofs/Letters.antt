-- A letter in its column, byte by byte.
use mathlib.Core.Path.{◌≡◌, refl, ap, ◌∙◌}
use mathlib.Core.Bool.{true, cond, ◌&&◌}
use mathlib.Core.List.{List, [], ◌∷◌}
use Prim.Native.Nat.{ℕ, zero, suc, ◌+◌, ◌≤◌, ◌<◌}
use native.Mathlib.Omega.{arith}
use native.Mathlib.Numerals.{add-one}
use lib.Dec.{eqb, ltb}
use lib.ListN.{length, take, drop, get_or, drop_of_length-le}
use lib.Seq.{drop-cons}
use Rattle.text.specs.Column.{same}
use Rattle.text.proofs.Laws.{col_long, col_at}
use Rattle.drawn.specs.Text.{letter_column}

pub letter_long : (ws : List ℕ) (b : ℕ) → length (letter_column ws b) ≡ length ws
unfolding letter_column
letter_long [] b = refl
letter_long (p ∷ ws) b = ap suc (letter_long ws b)

letter_at : (ws : List ℕ) (b i : ℕ) → i < length ws → get_or (letter_column ws b) i 0 ≡ cond (ltb 1 (get_or ws i 0)) 32 b
unfolding letter_column
letter_at [] b i h = absurd (omega arith)
letter_at (p ∷ ws) b zero h = refl
letter_at (p ∷ ws) b (suc i) h = letter_at ws b i (omega arith)

same_next : (a b : List ℕ) (i : ℕ) → i < length a → i < length b → same (drop i a) (drop i b) ≡ (eqb (get_or a i 0) (get_or b i 0) && same (drop (i + 1) a) (drop (i + 1) b))
unfolding same
same_next a b i h k = rw (add-one i, drop-cons a i 0 h, drop-cons b i 0 k)

-- from one byte to the next, of the column that begins at a place of a line
pub letter_next : (ws line : List ℕ) (at b i : ℕ) → i < length ws → at + length ws ≤ length line
    → let col = take (length ws) (drop at line) in
    same (drop i (letter_column ws b)) (drop i col) ≡ (eqb (cond (ltb 1 (get_or ws i 0)) 32 b) (get_or line (at + i) 0) && same (drop (i + 1) (letter_column ws b)) (drop (i + 1) col))
letter_next ws line at b i h k =
    same_next (letter_column ws b) (take (length ws) (drop at line)) i (omega (arith, letter_long ws b)) (col_long ws line at i h k)
    ∙ rw (letter_at ws b i h, col_at ws line at i h k)

-- when all have been looked at
pub letter_done : (a b : List ℕ) (i : ℕ) → length a ≤ i → length b ≤ i → same (drop i a) (drop i b) ≡ true
unfolding same
letter_done a b i h k = rw (drop_of_length-le a {i = i} h, drop_of_length-le b {i = i} k)
