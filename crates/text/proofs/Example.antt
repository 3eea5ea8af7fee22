-- 01's whole example: the plan's text and its verdict's text, written and read, by computation. That this is the plan's verdict is the row
-- `example` of `connectivity/specs/Table`. Then a plan's text with a slug.
use mathlib.Core.Path.{◌≡◌, refl}
use mathlib.Core.List.{List, [], ◌∷◌, ◌++◌}
use Prim.Native.Nat.{ℕ}
use Rattle.connectivity.specs.Lists.{range, keep, mem}
use Rattle.connectivity.specs.Graph.{is_vertex, vertices}
use Rattle.connectivity.specs.Plan.{Plan, plan, entire, graph, limits}
use Rattle.connectivity.specs.Admission.{answer, and_then, edge_number, ends_answer, excluded_answer, kept_answer}
use Rattle.text.specs.Column.{five, largest, byte_at, column, line, lines, digit, value, same, column_fits, line_fits, numbers, lines_begin, lines_fit, lines_numbers}
use Rattle.text.specs.Plan.{PlanReading, header_of, plan_text, header_third, header_fits, edge_lines, listed_answer, read_answer, read_plan}
use Rattle.text.specs.Verdict.{VerdictReading, per_line, lines_of, needed, count_of, count_fits, verdict_text, list_read, read_verdict}

-- a line of the example: each number has one digit, after four blanks
abbrev single : ℕ → List ℕ
single digit = 32 ∷ 32 ∷ 32 ∷ 32 ∷ digit ∷ []

abbrev row : ℕ → ℕ → List ℕ
row a b = single a ++ single b ++ 10 ∷ []

--     3    4
--     0    1
--     0    1
--     1    2
--     1    2
abbrev planned : List ℕ
planned = row 51 52 ++ row 48 49 ++ row 48 49 ++ row 49 50 ++ row 49 50

abbrev given : Plan
given = entire 3 (0 ∷ 1 ∷ 0 ∷ 1 ∷ 1 ∷ 2 ∷ 1 ∷ 2 ∷ [])

--     1    2
--     0
--     1
abbrev judged : List ℕ
judged = row 49 50 ++ (single 48 ++ 10 ∷ []) ++ (single 49 ++ 10 ∷ [])

pub example : (plan_text five given ≡ planned) × (read_plan five largest limits planned 8 ≡ PlanReading.read given)
    × (verdict_text five 1 (0 ∷ 1 ∷ []) ≡ judged) × (read_verdict five largest limits judged 2 ≡ VerdictReading.read 1 (0 ∷ 1 ∷ []))
unfolding mem range keep graph is_vertex vertices and_then edge_number ends_answer excluded_answer kept_answer byte_at column line lines digit value same column_fits line_fits numbers lines_begin lines_fit lines_numbers header_of plan_text header_third header_fits edge_lines listed_answer read_answer read_plan per_line lines_of needed count_of count_fits verdict_text list_read read_verdict
example = (refl, refl, refl, refl)

--     4    3    1
--     0    1
--     1    2
--     3    1
--     2
abbrev slotted : List ℕ
slotted = single 52 ++ row 51 49 ++ row 48 49 ++ row 49 50 ++ row 51 49 ++ (single 50 ++ 10 ∷ [])

abbrev holed : Plan
holed = plan 4 (0 ∷ 1 ∷ 1 ∷ 2 ∷ 3 ∷ 1 ∷ []) (2 ∷ [])

-- seven numbers are needed for it
pub example_slug : (plan_text five holed ≡ slotted) × (read_plan five largest limits slotted 7 ≡ PlanReading.read holed)
    × (read_plan five largest limits slotted 6 ≡ PlanReading.refused (answer 6 0))
unfolding mem range keep graph is_vertex vertices and_then edge_number ends_answer excluded_answer kept_answer byte_at column line lines digit value same column_fits line_fits numbers lines_begin lines_fit lines_numbers header_of plan_text header_third header_fits edge_lines listed_answer read_answer read_plan
example_slug = (refl, refl, refl)
