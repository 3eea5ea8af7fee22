-- A column and a line as the code reads them: whether they are in the form, and then their numbers.
use Rattle.std.specs.Prelude.{◌≡◌, true, false, cond, ◌&&◌, Option, MatchOption, List, [], ◌∷◌, ℕ, ◌+◌, eqb, ltb, length, take, drop, get_or}
use Rattle.text.specs.Column.{digit, value, column_fits, line_fits, numbers}
use Rattle.text_read.specs.declared.line.Line.{Line}

-- the byte of the digit 0 at a worth: a blank in front of the number x, else a 0; the last digit is always written
unfoldable pub zero_at : ℕ → ℕ → ℕ
zero_at p x = cond (ltb 1 p && ltb x p) 32 48

-- 1 where a byte is not the one that its digit has at a worth in the number x
unfoldable pub misfit : ℕ → ℕ → ℕ → ℕ
misfit p x b = cond (eqb (zero_at p x + digit b) b) 0 1

-- how many bytes of a column are so
unfoldable pub misfits : List ℕ → ℕ → List ℕ → ℕ
misfits [] x bytes = 0
misfits (p ∷ ws) x [] = 0
misfits (p ∷ ws) x (b ∷ bytes) = misfit p x b + misfits ws x bytes

-- the number of the bytes of a column in the form
pub record ColumnOf (ws : List ℕ) (most : ℕ) (bytes : List ℕ) (number : ℕ) : Type 0 where
  pub fits : column_fits ws most bytes ≡ true
  pub is : number ≡ value ws bytes

-- what is read of the bytes of a column: their number, or none where they are not in the form
abbrev pub ColumnRead : List ℕ → ℕ → List ℕ → Option ℕ → Type 0
ColumnRead ws most bytes r = MatchOption r (column_fits ws most bytes ≡ false) (λ x. ColumnOf ws most bytes x)

-- the number in the column that begins at a place of a text; one above the largest where it is not in the form, as where bytes are missing
unfoldable pub number_at : List ℕ → ℕ → List ℕ → ℕ → ℕ
number_at ws most text at = let bytes = take (length ws) (drop at text) in cond (column_fits ws most bytes) (value ws bytes) (most + 1)

-- the numbers of a line of so many columns in the form at the front of a text; those of columns that it does not have are 0
pub record LineOf (ws : List ℕ) (most columns : ℕ) (text : List ℕ) (l : Line) : Type 0 where
  pub fits : line_fits ws most columns text ≡ true
  pub first : l.first ≡ get_or (numbers ws columns text) 0 0
  pub second : l.second ≡ get_or (numbers ws columns text) 1 0
  pub third : l.third ≡ get_or (numbers ws columns text) 2 0

-- what is read of such a line: its numbers, or none where it is not in the form
abbrev pub LineRead : List ℕ → ℕ → ℕ → List ℕ → Option Line → Type 0
LineRead ws most columns text r = MatchOption r (line_fits ws most columns text ≡ false) (λ l. LineOf ws most columns text l)
