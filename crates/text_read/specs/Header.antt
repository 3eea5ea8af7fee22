-- A plan text as the code goes over it: its header, and the lines from a place on.
use Rattle.std.specs.Prelude.{◌≡◌, Bool, true, false, cond, ◌&&◌, Option, MatchOption, List, ℕ, ◌≤◌, length, drop}
use Rattle.connectivity.specs.Plan.{plan, Limits}
use Rattle.connectivity.specs.Admission.{Answer, answer, ends_answer, excluded_answer}
use Rattle.text.specs.Column.{lines_begin, behind_lines, lines_fit, lines_numbers}
use Rattle.text.specs.Plan.{header_first, header_second, header_third, header_fits, edge_lines, listed_answer}
use Rattle.text_read.specs.declared.plan.Header.{Header}

-- the header of a text that has one in the form
pub record Headed (ws : List ℕ) (most : ℕ) (text : List ℕ) (h : Header) : Type 0 where
  pub form : header_fits ws most text ≡ true
  pub vertices : h.vertices ≡ header_first ws text
  pub edges : h.edges ≡ header_second ws text
  pub excluded : h.excluded ≡ header_third ws most text
  pub inside : h.next ≤ length text
  pub behind : drop h.next text ≡ edge_lines ws most text

-- what is read of the header of any text: none where it has none in the form
abbrev pub HeaderRead : List ℕ → ℕ → List ℕ → Option Header → Type 0
HeaderRead ws most text r = MatchOption r (header_fits ws most text ≡ false) (λ h. Headed ws most text h)

-- the ends, and the excluded vertices, on the lines from a place on
abbrev pub ends_at : List ℕ → List ℕ → ℕ → ℕ → List ℕ
ends_at ws text at edges = lines_numbers ws 2 edges (drop at text)

abbrev pub excluded_at : List ℕ → List ℕ → ℕ → ℕ → ℕ → List ℕ
excluded_at ws text at edges excluded = lines_numbers ws 1 excluded (behind_lines ws 2 edges (drop at text))

-- these lines are in the form, and their counts within the limits
pub record Fitting (ws : List ℕ) (most : ℕ) (limits : Limits) (text : List ℕ) (at vertices edges excluded : ℕ) : Type 0 where
  pub inside : at ≤ length text
  pub short : edges ≤ limits.edges
  pub few : excluded ≤ vertices
  pub begin : lines_begin ws most 2 edges (drop at text) ≡ true
  pub fit : lines_fit ws most 1 excluded (behind_lines ws 2 edges (drop at text)) ≡ true

-- an answer to lines, if they are in the form; else 7
abbrev pub if_fits : Bool → Answer → Answer
if_fits fits a = cond fits a (answer 7 0)

-- the answer to the lines of the edges at the front of a text, from number e on: 7, else the first edge with 4 or 5
unfoldable pub edge_lines_answer : List ℕ → ℕ → ℕ → ℕ → ℕ → List ℕ → Answer
edge_lines_answer ws most n e m text = if_fits (lines_begin ws most 2 m text) (ends_answer n e (lines_numbers ws 2 m text))

-- the answer to the lines of the excluded vertices at the front of a text, from position k on: 7, else the first one with 18
unfoldable pub excluded_lines_answer : List ℕ → ℕ → ℕ → ℕ → ℕ → ℕ → List ℕ → Answer
excluded_lines_answer ws most n k low m text = if_fits (lines_begin ws most 1 m text) (excluded_answer n k low (lines_numbers ws 1 m text))

-- the answer to both, one behind the other: 7, else 4 and 5, 18, 19
abbrev pub lines_answer : List ℕ → ℕ → ℕ → ℕ → ℕ → List ℕ → Answer
lines_answer ws most n m k text =
    let rest = behind_lines ws 2 m text in
    if_fits (lines_begin ws most 2 m text && lines_fit ws most 1 k rest) (listed_answer (plan n (lines_numbers ws 2 m text) (lines_numbers ws 1 k rest)))
