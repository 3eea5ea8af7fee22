-- What reading a drawn list answers, by its tests.
use mathlib.Core.Path.{◌≡◌, refl, ◌∙◌}
use mathlib.Core.Bool.{Bool, true, false, cond, ◌||◌}
use mathlib.Core.List.{List}
use Prim.Native.Nat.{ℕ, ◌*◌, ◌≤◌, ◌<◌}
use native.Mathlib.Omega.{arith}
use lib.Dec.{eqb, ltb}
use borrow.Author.Tests.{eqb-true, eqb-false, ltb-false, lt-ltb, le-ltb, eq-eqb, ne_eqb}
use Rattle.connectivity.specs.Plan.{Limits}
use Rattle.connectivity.specs.Admission.{Answer, answer, ends_answer}
use Rattle.drawn.specs.Drawing.{Drawing, all_ends}
use Rattle.drawn.specs.Text.{Form, number_in, length_in, at₂, count, header_fits, edges_fit, edges_in, behind_header, spelled, read_answer, Reading, read_drawn}
use Rattle.drawn.specs.Line.{lines_answer}

-- the answer to a text with these numbers in its header, by its tests
module _ (f : Form) (limits : Limits) (text : List ℕ) (ends numbers n m least : ℕ)
    (first : n ≡ number_in f 0 text) (second : m ≡ count f text) (third : least ≡ length_in f (at₂ f) text) where
  abbrev body : Answer
  body =
      cond (header_fits f text)
      (cond (eqb least 0) (answer 21 0)
      (cond (ltb n 2 || ltb limits.vertices n) (answer 2 0)
      (cond (ltb limits.edges m) (answer 3 0)
      (cond (ltb ends (2 * m) || ltb numbers m) (answer 6 0)
      (cond (edges_fit f m (behind_header f text)) (ends_answer n 0 (all_ends (edges_in f m (behind_header f text)))) (answer 20 0))))))
      (answer 20 0)

  whole : read_answer f limits text ends numbers ≡ body
  unfolding read_answer
  whole = rw (first, second, third)

  module _ (h : header_fits f text ≡ true) where
    pub no_width : least ≡ 0 → read_answer f limits text ends numbers ≡ answer 21 0
    no_width z = whole ∙ rw (h, eq-eqb least 0 z)

    module _ (wide : least ≡ 0 → ⊥) where
      pub too_few : n < 2 → read_answer f limits text ends numbers ≡ answer 2 0
      too_few z = whole ∙ rw (h, ne_eqb least 0 wide, lt-ltb n 2 z)

      module _ (two : 2 ≤ n) where
        pub too_many : limits.vertices < n → read_answer f limits text ends numbers ≡ answer 2 0
        too_many z = whole ∙ rw (h, ne_eqb least 0 wide, le-ltb n 2 two, lt-ltb limits.vertices n z)

        module _ (few : n ≤ limits.vertices) where
          pub too_long : limits.edges < m → read_answer f limits text ends numbers ≡ answer 3 0
          too_long z = whole ∙ rw (h, ne_eqb least 0 wide, le-ltb n 2 two, le-ltb limits.vertices n few, lt-ltb limits.edges m z)

          module _ (short : m ≤ limits.edges) where
            abbrev roomed : Bool → Bool → Answer
            roomed a b = cond (a || b) (answer 6 0) (lines_answer f n 0 m (behind_header f text))

            to_room : read_answer f limits text ends numbers ≡ roomed (ltb ends (2 * m)) (ltb numbers m)
            unfolding lines_answer
            to_room = whole ∙ rw (h, ne_eqb least 0 wide, le-ltb n 2 two, le-ltb limits.vertices n few, le-ltb limits.edges m short)

            pub short_ends : ends < 2 * m → read_answer f limits text ends numbers ≡ answer 6 0
            short_ends z = to_room ∙ rw (lt-ltb ends (2 * m) z)

            module _ (room : 2 * m ≤ ends) where
              pub short_numbers : numbers < m → read_answer f limits text ends numbers ≡ answer 6 0
              short_numbers z = to_room ∙ rw (le-ltb ends (2 * m) room, lt-ltb numbers m z)

              module _ (table : m ≤ numbers) where
                -- by its lines
                pub by_lines : read_answer f limits text ends numbers ≡ lines_answer f n 0 m (behind_header f text)
                by_lines = to_room ∙ rw (le-ltb ends (2 * m) room, le-ltb numbers m table)

                pub to_lines : (t : Bool) → edges_fit f m (behind_header f text) ≡ t
                    → read_answer f limits text ends numbers ≡ cond t (ends_answer n 0 (all_ends (edges_in f m (behind_header f text)))) (answer 20 0)
                unfolding lines_answer
                to_lines t z = by_lines ∙ rw z

module _ (f : Form) (limits : Limits) (text : List ℕ) (ends numbers : ℕ) where
  pub no_header : header_fits f text ≡ false → read_answer f limits text ends numbers ≡ answer 20 0
  unfolding read_answer
  no_header h = rw h

  -- the tests that a text has met once it is read
  pub record Met : Type 0 where
    pub header : header_fits f text ≡ true
    pub width : length_in f (at₂ f) text ≡ 0 → ⊥
    pub two : 2 ≤ number_in f 0 text
    pub few : number_in f 0 text ≤ limits.vertices
    pub short : count f text ≤ limits.edges
    pub room : 2 * count f text ≤ ends
    pub table : count f text ≤ numbers
    pub lines : edges_fit f (count f text) (behind_header f text) ≡ true
    pub own : (ends_answer (number_in f 0 text) 0 (all_ends (edges_in f (count f text) (behind_header f text)))).number ≡ 0

  pub met : (read_answer f limits text ends numbers).number ≡ 0 → Met
  unfolding read_answer
  met z =
      go (header_fits f text) refl (eqb w 0) refl (ltb n 2) refl (ltb limits.vertices n) refl (ltb limits.edges m) refl
      (ltb ends (2 * m)) refl (ltb numbers m) refl (edges_fit f m (behind_header f text)) refl z
    where
      n : ℕ
      n = number_in f 0 text

      m : ℕ
      m = count f text

      w : ℕ
      w = length_in f (at₂ f) text

      own : Answer
      own = ends_answer n 0 (all_ends (edges_in f m (behind_header f text)))

      go : (a : Bool) → header_fits f text ≡ a → (b : Bool) → eqb w 0 ≡ b → (c : Bool) → ltb n 2 ≡ c → (d : Bool) → ltb limits.vertices n ≡ d
          → (e : Bool) → ltb limits.edges m ≡ e → (g : Bool) → ltb ends (2 * m) ≡ g → (t : Bool) → ltb numbers m ≡ t
          → (l : Bool) → edges_fit f m (behind_header f text) ≡ l
          → (cond a (cond b (answer 21 0) (cond (c || d) (answer 2 0) (cond e (answer 3 0) (cond (g || t) (answer 6 0) (cond l own (answer 20 0)))))) (answer 20 0)).number ≡ 0 → Met
      go false h b i c j d k e p g q t r l s z = absurd (omega arith)
      go true h true i c j d k e p g q t r l s z = absurd (omega arith)
      go true h false i true j d k e p g q t r l s z = absurd (omega arith)
      go true h false i false j true k e p g q t r l s z = absurd (omega arith)
      go true h false i false j false k true p g q t r l s z = absurd (omega arith)
      go true h false i false j false k false p true q t r l s z = absurd (omega arith)
      go true h false i false j false k false p false q true r l s z = absurd (omega arith)
      go true h false i false j false k false p false q false r false s z = absurd (omega arith)
      go true h false i false j false k false p false q false r true s z = record {
        header = h;
        width = eqb-false w 0 i;
        two = ltb-false n 2 j;
        few = ltb-false limits.vertices n k;
        short = ltb-false limits.edges m p;
        room = ltb-false ends (2 * m) q;
        table = ltb-false numbers m r;
        lines = s;
        own = z;
      }

  pub read-refused : (a : Answer) → read_answer f limits text ends numbers ≡ a → (a.number ≡ 0 → ⊥) → read_drawn f limits text ends numbers ≡ Reading.refused a
  unfolding read_drawn
  read-refused a p h = rw (p, ne_eqb a.number 0 h)

  pub read-listed : (read_answer f limits text ends numbers).number ≡ 0 → read_drawn f limits text ends numbers ≡ Reading.read (spelled f text)
  unfolding read_drawn
  read-listed z = rw (eq-eqb (read_answer f limits text ends numbers).number 0 z)

  -- and a list that is read has met them, and is the one that the columns tell
  pub read_met : (d : Drawing) → read_drawn f limits text ends numbers ≡ Reading.read d → Met × (d ≡ spelled f text)
  unfolding read_drawn
  read_met d p = go (eqb a.number 0) refl p
    where
      a : Answer
      a = read_answer f limits text ends numbers

      go : (t : Bool) → eqb a.number 0 ≡ t → cond t (Reading.read (spelled f text)) (Reading.refused a) ≡ Reading.read d → Met × (d ≡ spelled f text)
      go true q p = (met (eqb-true a.number 0 q), (cc))
      go false q p = let z : ◌≡◌ {A = ℕ} 0 1 = cc in absurd (omega arith)
