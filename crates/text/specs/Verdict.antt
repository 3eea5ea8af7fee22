-- Verdict text: what is written of a verdict, and what is read of any text.
use Rattle.std.specs.Prelude.{Bool, false, cond, ◌&&◌, ◌||◌, List, [], ◌∷◌, ◌++◌, ℕ, ◌*◌, ◌/◌, ◌%◌, eqb, ltb, leb, length, get_or}
use Rattle.connectivity.specs.Plan.{Limits}
use Rattle.connectivity.specs.Admission.{Answer, answer}
use Rattle.text.specs.Column.{line, lines, line_fits, lines_fit, lines_numbers}
use Rattle.text.specs.Plan.{Writing, header_first, header_second, behind_header}

-- what reading a verdict text gives: a refusal, or the kind and the list of numbers
pub data VerdictReading : Type 0 where
  refused : Answer → VerdictReading
  read : ℕ → List ℕ → VerdictReading

-- 01: how many numbers stand on a line: for kind 0, firm, rows of three; for kind 1, weak, one edge on each line
unfoldable pub per_line : ℕ → ℕ
per_line kind = cond (eqb kind 0) 3 1

-- 01: how many lines follow the header: for kind 2, a refused plan, none, else the count
unfoldable pub lines_of : ℕ → ℕ → ℕ
lines_of kind count = cond (eqb kind 2) 0 count

-- 01: how many numbers are needed: three for each row, one for each weak edge, one for kind 2
unfoldable pub needed : ℕ → ℕ → ℕ
needed kind count = cond (eqb kind 2) 1 (per_line kind * count)

-- 01: count: how many rows or weak edges there are, or the refusal of kind 2
unfoldable pub count_of : ℕ → List ℕ → ℕ
count_of kind list = cond (eqb kind 2) (get_or list 0 0) (length list / per_line kind)

-- 01: the refusals of a plan: 1 to 7; 02: 18 and 19
unfoldable pub is_refusal : ℕ → Bool
is_refusal number = (leb 1 number && leb number 7) || (leb 18 number && leb number 19)

-- 01: kind 0 with count 0 to the limit of edges, kind 1 with 0 to 2, kind 2 with a refusal; anything else is not in the form
unfoldable pub count_fits : Limits → ℕ → ℕ → Bool
count_fits limits kind count =
    cond (eqb kind 0) (leb count limits.edges)
    (cond (eqb kind 1) (leb count 2)
    (cond (eqb kind 2) (is_refusal count) false))

-- 01: a list-level verdict has a text form: three numbers for each row and rows to the limit of edges, at most two weak edges, or the
-- one refusal
unfoldable pub has_text : Limits → ℕ → List ℕ → Bool
has_text limits kind list =
    cond (eqb kind 0) (eqb (length list % 3) 0 && leb (length list / 3) limits.edges)
    (cond (eqb kind 1) (leb (length list) 2)
    (cond (eqb kind 2) (eqb (length list) 1 && is_refusal (get_or list 0 0)) false))

-- 01: verdict text: kind and count on one line, then the lines
unfoldable pub verdict_text : List ℕ → ℕ → List ℕ → List ℕ
verdict_text ws kind list =
    line ws (kind ∷ (count_of kind list ∷ [])) ++ lines ws (per_line kind) (lines_of kind (count_of kind list)) list

-- the numbers of a verdict text: the refusal of kind 2 stands in the header, all others in the lines
unfoldable pub list_read : List ℕ → ℕ → ℕ → List ℕ → List ℕ
list_read ws kind count rest = cond (eqb kind 2) (count ∷ []) (lines_numbers ws (per_line kind) count rest)

-- 01: a bad header gives 8 first, then 6, then 8 for the lines. `most` is the largest value, `space` the length of the list that is lent
unfoldable pub read_verdict : List ℕ → ℕ → Limits → List ℕ → ℕ → VerdictReading
read_verdict ws most limits text space =
    let kind = header_first ws text in
    let count = header_second ws text in
    let rest = behind_header ws text in
    cond (line_fits ws most 2 text && count_fits limits kind count)
    (cond (ltb space (needed kind count)) (refused (answer 6 0))
    (cond (lines_fit ws most (per_line kind) (lines_of kind count) rest)
    (read kind (list_read ws kind count rest))
    (refused (answer 8 0))))
    (refused (answer 8 0))

-- 01: writing verdict text: 8 where the verdict has no text form, then 6 where the lent bytes, `space` of them, are fewer than the text
unfoldable pub write_verdict : List ℕ → Limits → ℕ → List ℕ → ℕ → Writing
write_verdict ws limits kind list space =
    cond (has_text limits kind list)
    (cond (ltb space (length (verdict_text ws kind list))) (Writing.refused (answer 6 0)) (Writing.written (verdict_text ws kind list)))
    (Writing.refused (answer 8 0))
