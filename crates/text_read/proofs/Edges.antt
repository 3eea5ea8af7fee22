-- The answer to the lines of the edges, and to those of the excluded vertices, of a plan text, from one line to the next; and to both, one after the
-- other.
use mathlib.Core.Path.{◌≡◌, refl, ap, ◌∙◌}
use mathlib.Core.Bool.{Bool, true, false, cond, ◌&&◌}
use mathlib.Core.List.{List, [], ◌∷◌, ◌++◌}
use Prim.Native.Nat.{ℕ, suc, ◌+◌, ◌*◌, ◌-◌, ◌≤◌, ◌<◌}
use native.Mathlib.Omega.{arith}
use native.Mathlib.Numerals.{add-one}
use lib.Dec.{eqb, ltb, leb}
use lib.ListN.{length, drop, get_or, length-drop}
use borrow.Author.Tests.{lt-ltb}
use Rattle.connectivity.specs.Plan.{Plan, plan}
use Rattle.connectivity.specs.Admission.{Answer, answer, passed, and_then, kept_vertices, edge_number, ends_answer, excluded_answer, kept_answer}
use Rattle.connectivity.proofs.Admission.{passed_then, failed_then, excluded_told, told_zero, rising_is, kept_two}
use Rattle.connectivity.proofs.Kept.{kept_count}
use Rattle.text.specs.Column.{line_size, line_fits, numbers, lines_begin, behind_lines, lines_fit, lines_numbers}
use Rattle.text.specs.Plan.{listed_answer}
use Rattle.text.proofs.Laws.{and_true, lines_next, lines-numbers_next, begin_long, fit_true, fit_begin}
use Rattle.text_read.specs.Header.{if_fits, edge_lines_answer, excluded_lines_answer, lines_answer}

-- the number of the edge on the line that begins at a place
abbrev pub edge_at : List ℕ → ℕ → List ℕ → ℕ
edge_at ws n t = edge_number n (get_or (numbers ws 2 t) 0 0) (get_or (numbers ws 2 t) 1 0)

first_line : (ws : List ℕ) (n e : ℕ) (t rest : List ℕ) → ends_answer n e (numbers ws 2 t ++ rest) ≡ and_then (answer (edge_at ws n t) e) (ends_answer n (suc e) rest)
unfolding numbers ends_answer
first_line ws n e t rest = refl

module _ (ws : List ℕ) (most n e next left : ℕ) (text : List ℕ) (h : 0 < left) where
  abbrev behind : List ℕ
  behind = drop (next + line_size ws 2) text

  abbrev rest : List ℕ
  rest = lines_numbers ws 2 (left - 1) behind

  step : ends_answer n e (lines_numbers ws 2 left (drop next text)) ≡ and_then (answer (edge_at ws n (drop next text)) e) (ends_answer n (e + 1) rest)
  step =
      let p : suc e ≡ e + 1 = omega arith in
      rw (lines-numbers_next ws 2 left next text h) (first_line ws n e (drop next text) rest ∙ rw p)

  pub edge_none : line_fits ws most 2 (drop next text) ≡ false → edge_lines_answer ws most n e left (drop next text) ≡ answer 7 0
  unfolding edge_lines_answer
  edge_none f = rw (lines_next ws 2 left next text h most, f)

  module _ (f : line_fits ws most 2 (drop next text) ≡ true) where
    whole : edge_lines_answer ws most n e left (drop next text)
        ≡ if_fits (lines_begin ws most 2 (left - 1) behind) (and_then (answer (edge_at ws n (drop next text)) e) (ends_answer n (e + 1) rest))
    unfolding edge_lines_answer
    whole = rw (lines_next ws 2 left next text h most, f, step)

    pub edge_next : edge_at ws n (drop next text) ≡ 0 → edge_lines_answer ws most n e left (drop next text) ≡ edge_lines_answer ws most n (e + 1) (left - 1) behind
    unfolding edge_lines_answer
    edge_next p = whole ∙ ap (if_fits (lines_begin ws most 2 (left - 1) behind)) (passed_then (answer (edge_at ws n (drop next text)) e) (ends_answer n (e + 1) rest) p)

    pub edge_stop : (edge_at ws n (drop next text) ≡ 0 → ⊥)
        → edge_lines_answer ws most n e left (drop next text) ≡ if_fits (lines_begin ws most 2 (left - 1) behind) (answer (edge_at ws n (drop next text)) e)
    edge_stop p = whole ∙ ap (if_fits (lines_begin ws most 2 (left - 1) behind)) (failed_then (answer (edge_at ws n (drop next text)) e) (ends_answer n (e + 1) rest) p)

pub edges_over : (ws : List ℕ) (most n e left : ℕ) (t : List ℕ) → left ≡ 0 → edge_lines_answer ws most n e left t ≡ passed
unfolding edge_lines_answer lines_begin lines_numbers ends_answer
edges_over ws most n e left t p = rw p

-- the excluded vertex on the line that begins at a place
abbrev pub excluded_on : List ℕ → List ℕ → ℕ
excluded_on ws t = get_or (numbers ws 1 t) 0 0

module _ (ws : List ℕ) (most n k low next left : ℕ) (text : List ℕ) (h : 0 < left) where
  abbrev after : List ℕ
  after = drop (next + line_size ws 1) text

  abbrev others : List ℕ
  others = lines_numbers ws 1 (left - 1) after

  one_line : (rest : List ℕ) → excluded_answer n k low (numbers ws 1 (drop next text) ++ rest)
      ≡ cond (leb low (excluded_on ws (drop next text)) && ltb (excluded_on ws (drop next text)) n) (excluded_answer n (suc k) (suc (excluded_on ws (drop next text))) rest) (answer 18 k)
  unfolding numbers excluded_answer
  one_line rest = refl

  pub excluded_none : line_fits ws most 1 (drop next text) ≡ false → excluded_lines_answer ws most n k low left (drop next text) ≡ answer 7 0
  unfolding excluded_lines_answer
  excluded_none f = rw (lines_next ws 1 left next text h most, f)

  module _ (f : line_fits ws most 1 (drop next text) ≡ true) where
    entire : excluded_lines_answer ws most n k low left (drop next text)
        ≡ if_fits (lines_begin ws most 1 (left - 1) after) (excluded_answer n k low (numbers ws 1 (drop next text) ++ others))
    unfolding excluded_lines_answer
    entire = rw (lines_next ws 1 left next text h most, f, lines-numbers_next ws 1 left next text h)

    pub excluded_next : (leb low (excluded_on ws (drop next text)) && ltb (excluded_on ws (drop next text)) n) ≡ true
        → excluded_lines_answer ws most n k low left (drop next text) ≡ excluded_lines_answer ws most n (k + 1) (excluded_on ws (drop next text) + 1) (left - 1) after
    unfolding excluded_lines_answer
    excluded_next p = entire ∙ rw (one_line others, p, add-one k, add-one (excluded_on ws (drop next text)))

    pub excluded_stop : (leb low (excluded_on ws (drop next text)) && ltb (excluded_on ws (drop next text)) n) ≡ false
        → excluded_lines_answer ws most n k low left (drop next text) ≡ if_fits (lines_begin ws most 1 (left - 1) after) (answer 18 k)
    excluded_stop p = entire ∙ rw (one_line others, p)

pub excluded_over : (ws : List ℕ) (most n k low left : ℕ) (t : List ℕ) → left ≡ 0 → excluded_lines_answer ws most n k low left t ≡ passed
unfolding excluded_lines_answer lines_begin lines_numbers excluded_answer
excluded_over ws most n k low left t p = rw p

-- neither answer is 7 where the lines are in the form
edge_five : (n a b : ℕ) → edge_number n a b ≤ 5
unfolding edge_number
edge_five n a b = go (ltb a n && ltb b n) (eqb a b)
  where
    go : (s t : Bool) → cond s (cond t 5 0) 4 ≤ 5
    go true true = omega arith
    go true false = omega arith
    go false t = omega arith

ends_five : (n e : ℕ) (ends : List ℕ) → (ends_answer n e ends).number ≤ 5
unfolding ends_answer and_then
ends_five n e [] = omega arith
ends_five n e (a ∷ []) = omega arith
ends_five n e (a ∷ (b ∷ ends)) = go (eqb (edge_number n a b) 0) (ends_answer n (suc e) ends) (ends_five n (suc e) ends)
  where
    go : (t : Bool) (x : Answer) → x.number ≤ 5 → (cond t x (answer (edge_number n a b) e)).number ≤ 5
    go true x h = h
    go false x h = edge_five n a b

excluded_eighteen : (n k low : ℕ) (list : List ℕ) → (excluded_answer n k low list).number ≡ 7 → ⊥
unfolding excluded_answer
excluded_eighteen n k low [] z = omega arith
excluded_eighteen n k low (v ∷ rest) z = go (leb low v && ltb v n) (excluded_answer n (suc k) (suc v) rest) (excluded_eighteen n (suc k) (suc v) rest) z
  where
    go : (t : Bool) (x : Answer) → (x.number ≡ 7 → ⊥) → (cond t x (answer 18 k)).number ≡ 7 → ⊥
    go true x h y = h y
    go false x h y = omega arith

-- so 7 tells that they are not
out_of_form : (t : Bool) (a : Answer) → (a.number ≡ 7 → ⊥) → (if_fits t a).number ≡ 7 → t ≡ false
out_of_form true a other z = absurd (other z)
out_of_form false a other z = refl

in_form : (t : Bool) (a : Answer) → ((if_fits t a).number ≡ 7 → ⊥) → t ≡ true
in_form true a z = refl
in_form false a z = absurd (z refl)

-- the lines of both
module _ (ws : List ℕ) (most n m k : ℕ) (text : List ℕ) where
  abbrev behind_edges : List ℕ
  behind_edges = behind_lines ws 2 m text

  abbrev pub drawn : Plan
  drawn = plan n (lines_numbers ws 2 m text) (lines_numbers ws 1 k behind_edges)

  abbrev first : Answer
  first = edge_lines_answer ws most n 0 m text

  abbrev second : Answer
  second = excluded_lines_answer ws most n 0 0 k behind_edges

  pub edges_unread : first.number ≡ 7 → lines_answer ws most n m k text ≡ first
  unfolding edge_lines_answer
  edges_unread z =
      let ends = ends_answer n 0 (lines_numbers ws 2 m text) in
      let p = out_of_form (lines_begin ws most 2 m text) ends (λ y. omega (arith, ends_five n 0 (lines_numbers ws 2 m text))) z in
      rw p

  pub edges-read : (first.number ≡ 7 → ⊥) → (lines_begin ws most 2 m text ≡ true) × (first ≡ ends_answer n 0 drawn.ends)
  unfolding edge_lines_answer
  edges-read z = let p = in_form (lines_begin ws most 2 m text) (ends_answer n 0 (lines_numbers ws 2 m text)) z in (p, rw p)

  -- a text of another length is not in the form
  pub other_length : (length text ≡ m * line_size ws 2 + k * line_size ws 1 → ⊥) → lines_answer ws most n m k text ≡ answer 7 0
  other_length h = go (lines_begin ws most 2 m text && lines_fit ws most 1 k behind_edges) refl
    where
      go : (t : Bool) → (lines_begin ws most 2 m text && lines_fit ws most 1 k behind_edges) ≡ t → lines_answer ws most n m k text ≡ answer 7 0
      go false p = rw p
      go true p =
          let q = and_true (lines_begin ws most 2 m text) (lines_fit ws most 1 k behind_edges) p in
          absurd (h (omega (arith, begin_long ws most 2 m text q.0, (fit_true ws most 1 k behind_edges q.1).1, length-drop (m * line_size ws 2) text)))

  module _ (begun : lines_begin ws most 2 m text ≡ true) (whole-text : length text ≡ m * line_size ws 2 + k * line_size ws 1) where
    nothing_more : lines_fit ws most 1 k behind_edges ≡ lines_begin ws most 1 k behind_edges
    nothing_more = fit_begin ws most 1 k behind_edges (omega (arith, length-drop (m * line_size ws 2) text))

    pub excluded_unread : second.number ≡ 7 → lines_answer ws most n m k text ≡ second
    unfolding excluded_lines_answer
    excluded_unread z =
        let numbers = lines_numbers ws 1 k behind_edges in
        let p = out_of_form (lines_begin ws most 1 k behind_edges) (excluded_answer n 0 0 numbers) (excluded_eighteen n 0 0 numbers) z in
        rw (begun, nothing_more, p)

    pub excluded_read : (second.number ≡ 7 → ⊥) → (lines_answer ws most n m k text ≡ listed_answer drawn) × (second ≡ excluded_answer n 0 0 drawn.excluded)
    unfolding excluded_lines_answer
    excluded_read z =
        let p = in_form (lines_begin ws most 1 k behind_edges) (excluded_answer n 0 0 (lines_numbers ws 1 k behind_edges)) z in
        (rw (begun, nothing_more, p), rw p)

-- 4 and 5, then 18, then 19
module _ (p : Plan) where
  pub ends_refused : ((ends_answer p.vertices 0 p.ends).number ≡ 0 → ⊥) → listed_answer p ≡ ends_answer p.vertices 0 p.ends
  unfolding listed_answer
  ends_refused h = failed_then (ends_answer p.vertices 0 p.ends) _ h

  module _ (fit : (ends_answer p.vertices 0 p.ends).number ≡ 0) where
    behind_ends : listed_answer p ≡ and_then (excluded_answer p.vertices 0 0 p.excluded) (kept_answer p)
    unfolding listed_answer
    behind_ends = passed_then (ends_answer p.vertices 0 p.ends) _ fit

    pub excluded_refused : ((excluded_answer p.vertices 0 0 p.excluded).number ≡ 0 → ⊥) → listed_answer p ≡ excluded_answer p.vertices 0 0 p.excluded
    excluded_refused h = behind_ends ∙ failed_then (excluded_answer p.vertices 0 0 p.excluded) (kept_answer p) h

    module _ (rise : (excluded_answer p.vertices 0 0 p.excluded).number ≡ 0) where
      behind_excluded : listed_answer p ≡ kept_answer p
      behind_excluded = behind_ends ∙ passed_then (excluded_answer p.vertices 0 0 p.excluded) (kept_answer p) rise

      counted : kept_vertices p + length p.excluded ≡ p.vertices
      counted = kept_count p ((rising_is p.vertices 0 0 p.excluded).0 (told_zero (excluded_told p.vertices 0 0 p.excluded) rise))

      pub few_kept : p.vertices < length p.excluded + 2 → listed_answer p ≡ answer 19 0
      unfolding kept_answer
      few_kept h = behind_excluded ∙ rw (lt-ltb (kept_vertices p) 2 (omega (arith, counted)))

      pub two_kept : length p.excluded + 2 ≤ p.vertices → listed_answer p ≡ answer 0 0
      two_kept h = behind_excluded ∙ (kept_two p).1 (omega (arith, counted))
