-- Plan text: what is written of a plan, and what is read of any text.
use Rattle.std.specs.Prelude.{Bool, cond, ◌&&◌, ◌||◌, List, [], ◌∷◌, ◌++◌, ℕ, ◌+◌, ◌*◌, ◌/◌, eqb, ltb, leb, length, drop, get_or}
use Rattle.connectivity.specs.Plan.{Plan, plan, Limits}
use Rattle.connectivity.specs.Admission.{Answer, answer, and_then, ends_answer, excluded_answer, kept_answer, admission}
use Rattle.text.specs.Column.{line, lines, line_size, line_fits, numbers, lines_begin, behind_lines, lines_fit, lines_numbers}

-- what reading a plan text gives: a refusal, or the plan
pub data PlanReading : Type 0 where
  refused : Answer → PlanReading
  read : Plan → PlanReading

-- what writing a text gives: a refusal, or the bytes
pub data Writing : Type 0 where
  refused : Answer → Writing
  written : List ℕ → Writing

-- 01: reading and writing fill only the numbers or bytes they need; those behind stay
abbrev pub filled : List ℕ → List ℕ → List ℕ
filled xs lent = xs ++ drop (length xs) lent

-- 01: the numbers of a plan's header: pieces and tabs; 02: a third where there are slugs, how many
unfoldable pub header_of : Plan → List ℕ
header_of p = p.vertices ∷ (length p.ends / 2 ∷ cond (eqb (length p.excluded) 0) [] (length p.excluded ∷ []))

-- 01: plan text: the header, then a line of two ends for each tab; 02: then a line for each slug
unfoldable pub plan_text : List ℕ → Plan → List ℕ
plan_text ws p = line ws (header_of p) ++ (lines ws 2 (length p.ends / 2) p.ends ++ lines ws 1 (length p.excluded) p.excluded)

-- 01: header, the first line of a text: its two numbers, and the text behind it
abbrev pub header_first : List ℕ → List ℕ → ℕ
header_first ws text = get_or (numbers ws 2 text) 0 0

abbrev pub header_second : List ℕ → List ℕ → ℕ
header_second ws text = get_or (numbers ws 2 text) 1 0

abbrev pub behind_header : List ℕ → List ℕ → List ℕ
behind_header ws text = drop (line_size ws 2) text

-- 02: the header of a plan may have a third column: how many slugs, none where the first line has two; `most` is the largest value
unfoldable pub header_third : List ℕ → ℕ → List ℕ → ℕ
header_third ws most text = cond (line_fits ws most 2 text) 0 (get_or (numbers ws 3 text) 2 0)

-- 02: a header of two columns, or of three with 1 slug or more and no more than there are pieces
unfoldable pub header_fits : List ℕ → ℕ → List ℕ → Bool
header_fits ws most text =
    let third = header_third ws most text in
    line_fits ws most 2 text || (line_fits ws most 3 text && (leb 1 third && leb third (header_first ws text)))

-- the lines of the tabs, and behind them those of the slugs
unfoldable pub edge_lines : List ℕ → ℕ → List ℕ → List ℕ
edge_lines ws most text = drop (line_size ws (cond (line_fits ws most 2 text) 2 3)) text

abbrev pub excluded_lines : List ℕ → ℕ → List ℕ → List ℕ
excluded_lines ws most text = behind_lines ws 2 (header_second ws text) (edge_lines ws most text)

-- both in the form, and nothing follows
abbrev pub plan_lines_fit : List ℕ → ℕ → List ℕ → Bool
plan_lines_fit ws most text =
    lines_begin ws most 2 (header_second ws text) (edge_lines ws most text) && lines_fit ws most 1 (header_third ws most text) (excluded_lines ws most text)

-- the plan that the numbers of a text list
abbrev pub spelled : List ℕ → ℕ → List ℕ → Plan
spelled ws most text =
    plan (header_first ws text) (lines_numbers ws 2 (header_second ws text) (edge_lines ws most text)) (lines_numbers ws 1 (header_third ws most text) (excluded_lines ws most text))

-- how many numbers it needs: two for each tab and one for each slug
abbrev pub plan_needed : List ℕ → ℕ → List ℕ → ℕ
plan_needed ws most text = 2 * header_second ws text + header_third ws most text

-- 01: 4 and 5, the first edge with one of them; 02: then 18, then 19
unfoldable pub listed_answer : Plan → Answer
listed_answer p = and_then (ends_answer p.vertices 0 p.ends) (and_then (excluded_answer p.vertices 0 0 p.excluded) (kept_answer p))

-- 01: order of reading: header 7, then 2, 3, 6, the remaining lines 7, then 4 and 5; 02: then 18 and 19. `space` is the length of the table
-- that is lent
unfoldable pub read_answer : List ℕ → ℕ → Limits → List ℕ → ℕ → Answer
read_answer ws most limits text space =
    let n = header_first ws text in
    cond (header_fits ws most text)
    (cond (ltb n 2 || ltb limits.vertices n) (answer 2 0)
    (cond (ltb limits.edges (header_second ws text)) (answer 3 0)
    (cond (ltb space (plan_needed ws most text)) (answer 6 0)
    (cond (plan_lines_fit ws most text) (listed_answer (spelled ws most text)) (answer 7 0)))))
    (answer 7 0)

-- reading plan text: the first refusal, else the plan that the text lists
unfoldable pub read_plan : List ℕ → ℕ → Limits → List ℕ → ℕ → PlanReading
read_plan ws most limits text space =
    let a = read_answer ws most limits text space in
    cond (eqb a.number 0) (read (spelled ws most text)) (refused a)

-- 01: writing plan text: the plan's own 1 to 5, 18 and 19, then 6 where the lent bytes, `space` of them, are fewer than the text
unfoldable pub write_plan : List ℕ → Limits → Plan → ℕ → Writing
write_plan ws limits p space =
    let a = admission limits p in
    cond (eqb a.number 0)
    (cond (ltb space (length (plan_text ws p))) (refused (answer 6 0)) (written (plan_text ws p)))
    (refused a)
