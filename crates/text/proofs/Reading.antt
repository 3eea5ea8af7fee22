-- What reading gives, by its tests; and how the lent memory is filled.
use mathlib.Core.Path.{◌≡◌, refl, sym, ap, ◌∙◌}
use mathlib.Core.Bool.{Bool, true, false, cond, ◌&&◌, ◌||◌}
use mathlib.Core.List.{List, [], ◌∷◌, ◌++◌}
use Prim.Native.Nat.{ℕ, zero, suc, ◌+◌, ◌*◌, ◌≤◌, ◌<◌}
use native.Mathlib.Omega.{arith}
use native.Mathlib.Nat.{mul-suc, mul-le-mul_right}
use lib.Dec.{ltb, leb}
use lib.ListN.{length, drop, get_or, length-append, length-drop}
use lib.Seq.{sets, sets-eq}
use borrow.Author.Tests.{leb-true, lt-ltb, le-ltb, ltb-false, eq-eqb, ne_eqb}
use Rattle.connectivity.specs.Plan.{Plan, plan, Limits}
use Rattle.connectivity.specs.Admission.{Answer, answer}
use Rattle.text.specs.Column.{line_size, line_fits, numbers, lines_begin, behind_lines, lines_fit, lines_numbers}
use Rattle.text.specs.Plan.{PlanReading, filled, header_first, header_second, behind_header, header_third, header_fits, edge_lines, excluded_lines, plan_lines_fit, spelled, plan_needed, listed_answer, read_answer, read_plan}
use Rattle.text.specs.Verdict.{VerdictReading, per_line, lines_of, needed, count_fits, list_read, read_verdict}
use Rattle.text.proofs.Laws.{and_true, length-numbers, begin_long, fit_true}

pub length-lines-numbers : (ws : List ℕ) (k m : ℕ) (text : List ℕ) → length (lines_numbers ws k m text) ≡ k * m
unfolding lines_numbers
length-lines-numbers ws k zero text = omega arith
length-lines-numbers ws k (suc m) text =
    omega (arith, length-append (numbers ws k text) (lines_numbers ws k m (drop (line_size ws k) text)), length-numbers ws k text, length-lines-numbers ws k m (drop (line_size ws k) text), mul-suc k m)

pub sets_filled : (l xs : List ℕ) → length xs ≤ length l → sets l 0 xs ≡ filled xs l
sets_filled l xs h = let p : 0 + length xs ≡ length xs = omega arith in sets-eq xs l 0 (omega arith) ∙ ap (λ (n : ℕ). xs ++ drop n l) p

abbrev pub no_verdict : ℕ → VerdictReading
no_verdict k = VerdictReading.refused (answer k 0)

-- the header of a plan text, by the columns of its first line
module _ (ws : List ℕ) (most : ℕ) (text : List ℕ) where
  module _ (h : line_fits ws most 2 text ≡ true) where
    pub short_header : header_fits ws most text ≡ true
    unfolding header_fits
    short_header = rw h

    pub short_third : header_third ws most text ≡ 0
    unfolding header_third
    short_third = rw h

    pub short_lines : edge_lines ws most text ≡ drop (line_size ws 2) text
    unfolding edge_lines
    short_lines = rw h

  module _ (h : line_fits ws most 2 text ≡ false) where
    pub long_header : header_fits ws most text ≡ (line_fits ws most 3 text && (leb 1 (header_third ws most text) && leb (header_third ws most text) (header_first ws text)))
    unfolding header_fits
    long_header = rw h

    pub long_third : header_third ws most text ≡ get_or (numbers ws 3 text) 2 0
    unfolding header_third
    long_third = rw h

    pub long_lines : edge_lines ws most text ≡ drop (line_size ws 3) text
    unfolding edge_lines
    long_lines = rw h

  -- there are no more excluded vertices than vertices
  pub third_most : header_fits ws most text ≡ true → header_third ws most text ≤ header_first ws text
  third_most f = go (line_fits ws most 2 text) refl
    where
      go : (t : Bool) → line_fits ws most 2 text ≡ t → header_third ws most text ≤ header_first ws text
      go true h = omega (arith, short_third h)
      go false h =
          let third = header_third ws most text in
          let q = and_true (line_fits ws most 3 text) (leb 1 third && leb third (header_first ws text)) (sym (long_header h) ∙ f) in
          leb-true third (header_first ws text) (and_true (leb 1 third) (leb third (header_first ws text)) q.1).1

  -- how long the text is
  lines_rest : length text ≤ line_size ws 3 + length (edge_lines ws most text)
  lines_rest = go (line_fits ws most 2 text) refl
    where
      go : (t : Bool) → line_fits ws most 2 text ≡ t → length text ≤ line_size ws 3 + length (edge_lines ws most text)
      go true h = omega (arith, ap length (short_lines h), length-drop (line_size ws 2) text)
      go false h = omega (arith, ap length (long_lines h), length-drop (line_size ws 3) text)

-- the longest plan text in the form: a header of three columns, and a line for every edge and every vertex that the limits allow
abbrev pub plan_size : List ℕ → Limits → ℕ
plan_size ws limits = line_size ws 3 + limits.edges * line_size ws 2 + limits.vertices * line_size ws 1

-- so a longer one, with a header in the form and within the limits, has other lines
pub too_much : (ws : List ℕ) (most : ℕ) (limits : Limits) (text : List ℕ) → header_fits ws most text ≡ true → header_first ws text ≤ limits.vertices → header_second ws text ≤ limits.edges
    → plan_size ws limits < length text → plan_lines_fit ws most text ≡ false
too_much ws most limits text f few short long = go (plan_lines_fit ws most text) refl
  where
    m : ℕ
    m = header_second ws text

    k : ℕ
    k = header_third ws most text

    lines : List ℕ
    lines = edge_lines ws most text

    go : (t : Bool) → plan_lines_fit ws most text ≡ t → plan_lines_fit ws most text ≡ false
    go false p = p
    go true p =
        let q = and_true (lines_begin ws most 2 m lines) (lines_fit ws most 1 k (behind_lines ws 2 m lines)) p in
        let edges : m * line_size ws 2 ≤ limits.edges * line_size ws 2 = mul-le-mul_right (line_size ws 2) short in
        let vertices : k * line_size ws 1 ≤ limits.vertices * line_size ws 1 = mul-le-mul_right (line_size ws 1) (omega (arith, third_most ws most text f)) in
        absurd (omega (arith, lines_rest ws most text, begin_long ws most 2 m lines q.0, (fit_true ws most 1 k (behind_lines ws 2 m lines) q.1).1, length-drop (m * line_size ws 2) lines))

-- the answer to a plan text with these counts in its header and these lines behind it, by its tests
module _ (ws : List ℕ) (most : ℕ) (limits : Limits) (text : List ℕ) (space n m k : ℕ) (lines : List ℕ)
    (first : n ≡ header_first ws text) (second : m ≡ header_second ws text) (third : k ≡ header_third ws most text) (behind : lines ≡ edge_lines ws most text) where
  abbrev own : Plan
  own = plan n (lines_numbers ws 2 m lines) (lines_numbers ws 1 k (behind_lines ws 2 m lines))

  abbrev body : Answer
  body =
      cond (header_fits ws most text)
      (cond (ltb n 2 || ltb limits.vertices n) (answer 2 0)
      (cond (ltb limits.edges m) (answer 3 0)
      (cond (ltb space (2 * m + k)) (answer 6 0)
      (cond (lines_begin ws most 2 m lines && lines_fit ws most 1 k (behind_lines ws 2 m lines)) (listed_answer own) (answer 7 0)))))
      (answer 7 0)

  whole : read_answer ws most limits text space ≡ body
  unfolding read_answer
  whole = rw (first, second, third, behind)

  module _ (h : header_fits ws most text ≡ true) where
    pub too_few : n < 2 → read_answer ws most limits text space ≡ answer 2 0
    too_few z = whole ∙ rw (h, lt-ltb n 2 z)

    module _ (two : 2 ≤ n) where
      pub too_many : limits.vertices < n → read_answer ws most limits text space ≡ answer 2 0
      too_many z = whole ∙ rw (h, le-ltb n 2 two, lt-ltb limits.vertices n z)

      module _ (few : n ≤ limits.vertices) where
        pub too_long : limits.edges < m → read_answer ws most limits text space ≡ answer 3 0
        too_long z = whole ∙ rw (h, le-ltb n 2 two, le-ltb limits.vertices n few, lt-ltb limits.edges m z)

        module _ (short : m ≤ limits.edges) where
          pub no_space : space < 2 * m + k → read_answer ws most limits text space ≡ answer 6 0
          no_space z = whole ∙ rw (h, le-ltb n 2 two, le-ltb limits.vertices n few, le-ltb limits.edges m short, lt-ltb space (2 * m + k) z)

          module _ (room : 2 * m + k ≤ space) where
            pub to_lines : (t : Bool) → (lines_begin ws most 2 m lines && lines_fit ws most 1 k (behind_lines ws 2 m lines)) ≡ t
                → read_answer ws most limits text space ≡ cond t (listed_answer own) (answer 7 0)
            to_lines t z = whole ∙ rw (h, le-ltb n 2 two, le-ltb limits.vertices n few, le-ltb limits.edges m short, le-ltb space (2 * m + k) room, z)

module _ (ws : List ℕ) (most : ℕ) (limits : Limits) (text : List ℕ) (space : ℕ) where
  pub no_header : header_fits ws most text ≡ false → read_answer ws most limits text space ≡ answer 7 0
  unfolding read_answer
  no_header h = rw h

  -- the tests that a plan text has met once it is read
  pub record Met : Type 0 where
    pub header : header_fits ws most text ≡ true
    pub two : 2 ≤ header_first ws text
    pub few : header_first ws text ≤ limits.vertices
    pub short : header_second ws text ≤ limits.edges
    pub room : plan_needed ws most text ≤ space
    pub edges : lines_begin ws most 2 (header_second ws text) (edge_lines ws most text) ≡ true
    pub excluded : lines_fit ws most 1 (header_third ws most text) (excluded_lines ws most text) ≡ true
    pub own : (listed_answer (spelled ws most text)).number ≡ 0

  pub met : (read_answer ws most limits text space).number ≡ 0 → Met
  unfolding read_answer
  met z =
      go (header_fits ws most text) refl (ltb n 2) refl (ltb limits.vertices n) refl (ltb limits.edges m) refl (ltb space (plan_needed ws most text)) refl (plan_lines_fit ws most text) refl z
    where
      n : ℕ
      n = header_first ws text

      m : ℕ
      m = header_second ws text

      go : (a : Bool) → header_fits ws most text ≡ a → (b : Bool) → ltb n 2 ≡ b → (c : Bool) → ltb limits.vertices n ≡ c → (d : Bool) → ltb limits.edges m ≡ d
          → (e : Bool) → ltb space (plan_needed ws most text) ≡ e → (f : Bool) → plan_lines_fit ws most text ≡ f
          → (cond a (cond (b || c) (answer 2 0) (cond d (answer 3 0) (cond e (answer 6 0) (cond f (listed_answer (spelled ws most text)) (answer 7 0))))) (answer 7 0)).number ≡ 0 → Met
      go false h b i c j d k e l f q z = absurd (omega arith)
      go true h true i c j d k e l f q z = absurd (omega arith)
      go true h false i true j d k e l f q z = absurd (omega arith)
      go true h false i false j true k e l f q z = absurd (omega arith)
      go true h false i false j false k true l f q z = absurd (omega arith)
      go true h false i false j false k false l false q z = absurd (omega arith)
      go true h false i false j false k false l true q z =
          let t = and_true (lines_begin ws most 2 m (edge_lines ws most text)) (lines_fit ws most 1 (header_third ws most text) (excluded_lines ws most text)) q in
          record {
            header = h;
            two = ltb-false n 2 i;
            few = ltb-false limits.vertices n j;
            short = ltb-false limits.edges m k;
            room = ltb-false space (plan_needed ws most text) l;
            edges = t.0;
            excluded = t.1;
            own = z;
          }

  pub read-refused : (a : Answer) → read_answer ws most limits text space ≡ a → (a.number ≡ 0 → ⊥) → read_plan ws most limits text space ≡ PlanReading.refused a
  unfolding read_plan
  read-refused a p h = rw (p, ne_eqb a.number 0 h)

  pub read-listed : (read_answer ws most limits text space).number ≡ 0 → read_plan ws most limits text space ≡ PlanReading.read (spelled ws most text)
  unfolding read_plan
  read-listed z = rw (eq-eqb (read_answer ws most limits text space).number 0 z)

-- reading a verdict with this kind and count in its header, by its tests
module _ (ws : List ℕ) (most : ℕ) (limits : Limits) (text : List ℕ) (space kind count : ℕ) (p : kind ≡ header_first ws text) (q : count ≡ header_second ws text) where
  abbrev verdict_body : VerdictReading
  verdict_body =
      cond (line_fits ws most 2 text && count_fits limits kind count)
      (cond (ltb space (needed kind count)) (no_verdict 6)
      (cond (lines_fit ws most (per_line kind) (lines_of kind count) (behind_header ws text))
      (VerdictReading.read kind (list_read ws kind count (behind_header ws text))) (no_verdict 8)))
      (no_verdict 8)

  whole_verdict : read_verdict ws most limits text space ≡ verdict_body
  unfolding read_verdict
  whole_verdict = rw (p, q)

  module _ (h : line_fits ws most 2 text ≡ true) where
    pub bad_count : count_fits limits kind count ≡ false → read_verdict ws most limits text space ≡ no_verdict 8
    bad_count z = whole_verdict ∙ rw (h, z)

    module _ (g : count_fits limits kind count ≡ true) where
      pub no_room : space < needed kind count → read_verdict ws most limits text space ≡ no_verdict 6
      no_room z = whole_verdict ∙ rw (h, g, lt-ltb space (needed kind count) z)

      module _ (room : needed kind count ≤ space) where
        pub bad_lines : lines_fit ws most (per_line kind) (lines_of kind count) (behind_header ws text) ≡ false → read_verdict ws most limits text space ≡ no_verdict 8
        bad_lines z = whole_verdict ∙ rw (h, g, le-ltb space (needed kind count) room, z)

        pub verdict-fits : lines_fit ws most (per_line kind) (lines_of kind count) (behind_header ws text) ≡ true
            → read_verdict ws most limits text space ≡ VerdictReading.read kind (list_read ws kind count (behind_header ws text))
        verdict-fits z = whole_verdict ∙ rw (h, g, le-ltb space (needed kind count) room, z)

pub bad_header : (ws : List ℕ) (most : ℕ) (limits : Limits) (text : List ℕ) (space : ℕ) → line_fits ws most 2 text ≡ false
    → read_verdict ws most limits text space ≡ no_verdict 8
unfolding read_verdict
bad_header ws most limits text space h = rw h

-- a refused plan's verdict, and any other
pub refusal-read : (ws : List ℕ) (kind count : ℕ) (rest : List ℕ) → kind ≡ 2 → (list_read ws kind count rest ≡ count ∷ []) × (needed kind count ≡ 1)
unfolding list_read needed
refusal-read ws kind count rest p = (rw (eq-eqb kind 2 p), rw (eq-eqb kind 2 p))

pub lines-read : (ws : List ℕ) (kind count : ℕ) (rest : List ℕ) → (kind ≡ 2 → ⊥)
    → (list_read ws kind count rest ≡ lines_numbers ws (per_line kind) count rest) × (needed kind count ≡ per_line kind * count) × (lines_of kind count ≡ count)
unfolding list_read needed lines_of
lines-read ws kind count rest p = (rw (ne_eqb kind 2 p), rw (ne_eqb kind 2 p), rw (ne_eqb kind 2 p))
