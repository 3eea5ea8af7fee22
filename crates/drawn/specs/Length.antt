-- Lengths: millimetres with decimals in their columns, and as a value a whole number of the last decimal's unit.
use Rattle.std.specs.Prelude.{Bool, cond, ◌&&◌, List, [], ◌∷◌, ℕ, zero, suc, ◌+◌, ◌/◌, ◌%◌, ◌^◌, eqb, ltb}
use Rattle.text.specs.Column.{worths, value, same}

-- 02: what a digit counts at each place of a length with w digits before the point and d behind it; the point itself counts 0
unfoldable pub length_worths : ℕ → ℕ → List ℕ
length_worths zero d = 0 ∷ worths d
length_worths (suc w) d = 10 ^ (w + d) ∷ length_worths w d

-- 02: eight columns with three decimals, in thousandths: the table of their worths. It is `length_worths 4 3` (`proofs/Lengths`, `eight_worths`)
abbrev pub eight : List ℕ
eight = 1000000 ∷ (100000 ∷ (10000 ∷ (1000 ∷ (0 ∷ (100 ∷ (10 ∷ (1 ∷ [])))))))

-- 02: a millimetre in thousandths: the worth of the last digit before the point
abbrev pub thousand : ℕ
thousand = 1000

-- 02: the byte of a length x at a worth: the point (46); blanks (32) before, one digit or more before the point, no needless zero. `unit` is the
-- worth of the last digit before the point
unfoldable pub length_byte : ℕ → ℕ → ℕ → ℕ
length_byte unit p x = cond (eqb p 0) 46 (cond (ltb unit p && ltb x p) 32 (48 + x / p % 10))

-- 02: the bytes of a length, right-justified, one for each worth
unfoldable pub length_column : ℕ → List ℕ → ℕ → List ℕ
length_column unit [] x = []
length_column unit (p ∷ ls) x = length_byte unit p x ∷ length_column unit ls x

-- 02: a length in the form: writing the value gives the very bytes
unfoldable pub length_fits : ℕ → List ℕ → List ℕ → Bool
length_fits unit ls bytes = same (length_column unit ls (value ls bytes)) bytes
