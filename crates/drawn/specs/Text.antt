-- Drawn lists as text: what is written of one, and what is read of any text.
use Rattle.std.specs.Prelude.{Bool, cond, ◌&&◌, ◌||◌, List, [], ◌∷◌, ◌++◌, ℕ, zero, suc, ◌+◌, ◌*◌, eqb, ltb, length, take, drop}
use Rattle.connectivity.specs.Plan.{Limits}
use Rattle.connectivity.specs.Admission.{Answer, answer, ends_answer}
use Rattle.text.specs.Column as column
use Rattle.text.specs.Column.{value, same, column_fits, five, largest}
use Rattle.drawn.specs.Length.{eight, thousand, length_column, length_fits}
use Rattle.drawn.specs.Drawing.{Letter, full, half, Drawn, Drawing, all_ends}

-- the columns of a drawn list: the worths of a number's and its largest value, the worths of a length's and that of the last digit before the
-- point
pub record Form : Type 0 where
  pub worths : List ℕ
  pub most : ℕ
  pub lengths : List ℕ
  pub unit : ℕ

-- 02: numbers in five columns, lengths in eight
abbrev pub form : Form
form = record { worths = five; most = largest; lengths = eight; unit = thousand }

-- what is written

-- 02: the byte of a letter: F is 70, H is 72
unfoldable pub letter_byte : Letter → ℕ
letter_byte full = 70
letter_byte half = 72

-- 02: a letter right-justified in a column with these worths: blanks (32) before
unfoldable pub letter_column : List ℕ → ℕ → List ℕ
letter_column [] b = []
letter_column (p ∷ ws) b = cond (ltb 1 p) 32 b ∷ letter_column ws b

-- 02: the first line: pieces, tabs, least width, kerf and letter
unfoldable pub header_line : Form → Drawing → List ℕ
header_line f d =
    column.column f.worths d.vertices ++ (column.column f.worths (length d.edges) ++ (length_column f.unit f.lengths d.least
    ++ (length_column f.unit f.lengths d.kerf ++ (letter_column f.worths (letter_byte d.letter) ++ (10 ∷ [])))))

-- 02: the line of a drawn tab: two pieces and a gap
unfoldable pub edge_line : Form → Drawn → List ℕ
edge_line f x = column.column f.worths x.left ++ (column.column f.worths x.right ++ (length_column f.unit f.lengths x.gap ++ (10 ∷ [])))

unfoldable pub edge_lines : Form → List Drawn → List ℕ
edge_lines f [] = []
edge_lines f (x ∷ l) = edge_line f x ++ edge_lines f l

-- 02: a drawn list as text: every line ends with one line feed (10), and nothing follows the last
unfoldable pub drawn_text : Form → Drawing → List ℕ
drawn_text f d = header_line f d ++ edge_lines f d.edges

-- what is read

-- the bytes of a text from a place on, so many of them
abbrev pub part : ℕ → ℕ → List ℕ → List ℕ
part at size text = take size (drop at text)

-- the number and the length in the column at a place
abbrev pub number_in : Form → ℕ → List ℕ → ℕ
number_in f at text = value f.worths (part at (length f.worths) text)

abbrev pub length_in : Form → ℕ → List ℕ → ℕ
length_in f at text = value f.lengths (part at (length f.lengths) text)

-- the column at a place is in the form
abbrev pub number_fits : Form → ℕ → List ℕ → Bool
number_fits f at text = column_fits f.worths f.most (part at (length f.worths) text)

abbrev pub measure_fits : Form → ℕ → List ℕ → Bool
measure_fits f at text = length_fits f.unit f.lengths (part at (length f.lengths) text)

abbrev pub letter_fits : Form → Letter → ℕ → List ℕ → Bool
letter_fits f a at text = same (letter_column f.worths (letter_byte a)) (part at (length f.worths) text)

-- where the columns begin: the second, the third, and in the first line the fourth, the fifth and the line feed
abbrev pub at₁ : Form → ℕ
at₁ f = length f.worths

abbrev pub at₂ : Form → ℕ
at₂ f = at₁ f + length f.worths

abbrev pub at₃ : Form → ℕ
at₃ f = at₂ f + length f.lengths

abbrev pub at₄ : Form → ℕ
at₄ f = at₃ f + length f.lengths

abbrev pub at₅ : Form → ℕ
at₅ f = at₄ f + length f.worths

-- how many bytes the first line has, and each other
abbrev pub header_size : Form → ℕ
header_size f = at₅ f + 1

abbrev pub edge_size : Form → ℕ
edge_size f = at₃ f + 1

-- 02: the first line is in the form
unfoldable pub header_fits : Form → List ℕ → Bool
header_fits f text =
    number_fits f 0 text && (number_fits f (at₁ f) text && (measure_fits f (at₂ f) text && (measure_fits f (at₃ f) text
    && ((letter_fits f full (at₄ f) text || letter_fits f half (at₄ f) text) && same (part (at₅ f) 1 text) (10 ∷ [])))))

-- a drawn tab's line at the front of a text is in the form, and the tab on it
unfoldable pub edge_fits : Form → List ℕ → Bool
edge_fits f text = number_fits f 0 text && (number_fits f (at₁ f) text && (measure_fits f (at₂ f) text && same (part (at₃ f) 1 text) (10 ∷ [])))

abbrev pub edge_in : Form → List ℕ → Drawn
edge_in f text = record { left = number_in f 0 text; right = number_in f (at₁ f) text; gap = length_in f (at₂ f) text }

-- 02: the text is the lines of m drawn tabs, in the form, and nothing follows the last
unfoldable pub edges_fit : Form → ℕ → List ℕ → Bool
edges_fit f zero text = same text []
edges_fit f (suc m) text = edge_fits f text && edges_fit f m (drop (edge_size f) text)

-- the drawn tabs on m lines
unfoldable pub edges_in : Form → ℕ → List ℕ → List Drawn
edges_in f zero text = []
edges_in f (suc m) text = edge_in f text ∷ edges_in f m (drop (edge_size f) text)

-- how many tabs the first line tells, and the lines behind it
abbrev pub count : Form → List ℕ → ℕ
count f text = number_in f (at₁ f) text

abbrev pub behind_header : Form → List ℕ → List ℕ
behind_header f text = drop (header_size f) text

-- the letter in the first line
unfoldable pub letter_in : Form → List ℕ → Letter
letter_in f text = cond (letter_fits f full (at₄ f) text) full half

-- the drawn list that the columns of a text tell
unfoldable pub spelled : Form → List ℕ → Drawing
spelled f text = record {
  vertices = number_in f 0 text;
  least = length_in f (at₂ f) text;
  kerf = length_in f (at₃ f) text;
  letter = letter_in f text;
  edges = edges_in f (count f text) (behind_header f text);
}

-- 02: order of reading: the header's 20, 21, then 2, 3, 6 (two numbers of the table of ends, and one of the table of drawn numbers, for each
-- drawn tab; `ends` and `numbers` are their lengths), the lines' 20, then the first drawn tab with 4 or 5
unfoldable pub read_answer : Form → Limits → List ℕ → ℕ → ℕ → Answer
read_answer f limits text ends numbers =
    let n = number_in f 0 text in
    let m = count f text in
    cond (header_fits f text)
    (cond (eqb (length_in f (at₂ f) text) 0) (answer 21 0)
    (cond (ltb n 2 || ltb limits.vertices n) (answer 2 0)
    (cond (ltb limits.edges m) (answer 3 0)
    (cond (ltb ends (2 * m) || ltb numbers m) (answer 6 0)
    (cond (edges_fit f m (behind_header f text)) (ends_answer n 0 (all_ends (edges_in f m (behind_header f text)))) (answer 20 0))))))
    (answer 20 0)

-- what reading gives: a refusal, or the drawn list
pub data Reading : Type 0 where
  refused : Answer → Reading
  read : Drawing → Reading

-- the first refusal, else the drawn list
unfoldable pub read_drawn : Form → Limits → List ℕ → ℕ → ℕ → Reading
read_drawn f limits text ends numbers =
    let a = read_answer f limits text ends numbers in
    cond (eqb a.number 0) (read (spelled f text)) (refused a)
