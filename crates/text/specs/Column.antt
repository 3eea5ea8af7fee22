-- Numbers in columns, and the lines that they stand in.
use Rattle.std.specs.Prelude.{Bool, true, false, cond, ◌&&◌, List, [], ◌∷◌, ◌++◌, ℕ, zero, suc, ◌+◌, ◌*◌, ◌-◌, ◌/◌, ◌%◌, ◌^◌, eqb, ltb, leb, length, take, drop}

-- 01: worths: what a digit counts at each place of a column of a given width: .., 100, 10, 1
unfoldable pub worths : ℕ → List ℕ
worths zero = []
worths (suc w) = 10 ^ w ∷ worths w

-- 01: columns of five: the table of their worths. It is `worths 5` (`proofs/Digits`, `five_worths`)
abbrev pub five : List ℕ
five = 10000 ∷ (1000 ∷ (100 ∷ (10 ∷ (1 ∷ []))))

-- 01: the largest value in the form: 65,535
abbrev pub largest : ℕ
largest = 65535

-- 01: the byte of x at a worth: blanks (32) before, no zeros in front; the last digit is always written, so that the number zero is
-- one 0 (48)
unfoldable pub byte_at : ℕ → ℕ → ℕ
byte_at p x = cond (ltb 1 p && ltb x p) 32 (48 + x / p % 10)

-- 01: column: the bytes of x, right-justified, one for each worth
unfoldable pub column : List ℕ → ℕ → List ℕ
column [] x = []
column (p ∷ ws) x = byte_at p x ∷ column ws x

-- 01: a line: the columns of its numbers, then one line feed (10)
unfoldable pub line : List ℕ → List ℕ → List ℕ
line ws [] = 10 ∷ []
line ws (x ∷ xs) = column ws x ++ line ws xs

-- 01: m lines of k numbers each
unfoldable pub lines : List ℕ → ℕ → ℕ → List ℕ → List ℕ
lines ws k zero list = []
lines ws k (suc m) list = line ws (take k list) ++ lines ws k m (drop k list)

-- how many bytes a line of k numbers has
abbrev pub line_size : List ℕ → ℕ → ℕ
line_size ws k = k * length ws + 1

-- the digit that a byte stands for; any other byte counts 0
unfoldable pub digit : ℕ → ℕ
digit b = cond (leb 48 b && leb b 57) (b - 48) 0

-- 01: value: the number that bytes stand for, each digit times its worth
unfoldable pub value : List ℕ → List ℕ → ℕ
value [] bytes = 0
value (p ∷ ws) [] = 0
value (p ∷ ws) (b ∷ bytes) = p * digit b + value ws bytes

-- the two lists are the same
unfoldable pub same : List ℕ → List ℕ → Bool
same [] [] = true
same [] (b ∷ bs) = false
same (a ∷ l) [] = false
same (a ∷ l) (b ∷ bs) = eqb a b && same l bs

-- 01: a column in the form: its value is not above the largest, and writing the number gives the very bytes
unfoldable pub column_fits : List ℕ → ℕ → List ℕ → Bool
column_fits ws most bytes = leb (value ws bytes) most && same (column ws (value ws bytes)) bytes

-- 01: the text begins with a line of k numbers in the form
unfoldable pub line_fits : List ℕ → ℕ → ℕ → List ℕ → Bool
line_fits ws most zero text = same (take 1 text) (10 ∷ [])
line_fits ws most (suc k) text = column_fits ws most (take (length ws) text) && line_fits ws most k (drop (length ws) text)

-- the numbers of the first k columns of a text
unfoldable pub numbers : List ℕ → ℕ → List ℕ → List ℕ
numbers ws zero text = []
numbers ws (suc k) text = value ws (take (length ws) text) ∷ numbers ws k (drop (length ws) text)

-- 01: the text begins with m lines of k numbers each, in the form
unfoldable pub lines_begin : List ℕ → ℕ → ℕ → ℕ → List ℕ → Bool
lines_begin ws most k zero text = true
lines_begin ws most k (suc m) text = line_fits ws most k text && lines_begin ws most k m (drop (line_size ws k) text)

-- the text behind m lines of k numbers each
abbrev pub behind_lines : List ℕ → ℕ → ℕ → List ℕ → List ℕ
behind_lines ws k m text = drop (m * line_size ws k) text

-- 01: the text is m lines of k numbers each, in the form, and nothing follows the last
unfoldable pub lines_fit : List ℕ → ℕ → ℕ → ℕ → List ℕ → Bool
lines_fit ws most k m text = lines_begin ws most k m text && same (behind_lines ws k m text) []

-- the numbers of m lines of k numbers each
unfoldable pub lines_numbers : List ℕ → ℕ → ℕ → List ℕ → List ℕ
lines_numbers ws k zero text = []
lines_numbers ws k (suc m) text = numbers ws k text ++ lines_numbers ws k m (drop (line_size ws k) text)
