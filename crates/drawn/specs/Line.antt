-- A length, a letter, a header and a line as the code goes over them. No part of the meaning.
use Rattle.std.specs.Prelude.{◌≡◌, true, false, cond, ◌&&◌, Option, None, Some, MatchOption, List, [], ◌∷◌, ℕ, ◌+◌, ◌*◌, ◌≤◌, eqb, ltb, length}
use Rattle.std.proofs.lemmas.List.Edits.{sets}
use Rattle.connectivity.specs.Admission.{Answer, answer, ends_answer}
use Rattle.text.specs.Column.{digit, value}
use Rattle.drawn.specs.Length.{length_fits}
use Rattle.drawn.specs.Drawing.{full, half, full_kerf, Drawn, all_ends, wide_ones, wide_numbers}
use Rattle.drawn.specs.Text.{Form, number_in, length_in, letter_fits, letter_in, at₁, at₂, at₃, header_size, count, header_fits, edge_fits, edges_fit, edges_in}
use Rattle.drawn.specs.declared.line.Header.{Header}
use Rattle.drawn.specs.declared.line.Edge.{Edge}

-- the longest length in eight columns
abbrev pub longest : ℕ
longest = 9999999

-- the byte of the digit 0 at a worth: the point, a blank in front of the length x, else a 0
unfoldable pub zero_at : ℕ → ℕ → ℕ → ℕ
zero_at unit p x = cond (eqb p 0) 46 (cond (ltb unit p && ltb x p) 32 48)

-- 1 where a byte is not the one that its digit has at a worth in the length x
unfoldable pub misfit : ℕ → ℕ → ℕ → ℕ → ℕ
misfit unit p x b = cond (eqb (zero_at unit p x + digit b) b) 0 1

-- how many bytes of a length are so
unfoldable pub misfits : ℕ → List ℕ → ℕ → List ℕ → ℕ
misfits unit [] x bytes = 0
misfits unit (p ∷ ls) x [] = 0
misfits unit (p ∷ ls) x (b ∷ bytes) = misfit unit p x b + misfits unit ls x bytes

-- the value of the bytes of a length in the form
pub record LengthOf (unit : ℕ) (ls bytes : List ℕ) (x : ℕ) : Type 0 where
  pub fits : length_fits unit ls bytes ≡ true
  pub is : x ≡ value ls bytes

-- what is read of the bytes of a length: its value, or none where they are not in the form
abbrev pub LengthRead : ℕ → List ℕ → List ℕ → Option ℕ → Type 0
LengthRead unit ls bytes r = MatchOption r (length_fits unit ls bytes ≡ false) (λ x. LengthOf unit ls bytes x)

-- how often a kerf counts by the letter at a place: once for F, twice for H; none where neither stands there
unfoldable pub times : Form → ℕ → List ℕ → Option ℕ
times f at text = cond (letter_fits f full at text) (Some 1) (cond (letter_fits f half at text) (Some 2) None)

-- the header of a text that has one in the form; the kerf is the full one
pub record Headed (f : Form) (text : List ℕ) (h : Header) : Type 0 where
  pub form : header_fits f text ≡ true
  pub vertices : h.vertices ≡ number_in f 0 text
  pub edges : h.edges ≡ count f text
  pub least : h.least ≡ length_in f (at₂ f) text
  pub kerf : h.kerf ≡ full_kerf (letter_in f text) (length_in f (at₃ f) text)
  pub inside : header_size f ≤ length text

-- what is read of the first line of any text: none where it is not in the form
abbrev pub HeaderRead : Form → List ℕ → Option Header → Type 0
HeaderRead f text r = MatchOption r (header_fits f text ≡ false) (λ h. Headed f text h)

-- the line of a drawn tab in the form at the front of a text
pub record EdgeOf (f : Form) (text : List ℕ) (x : Edge) : Type 0 where
  pub fits : edge_fits f text ≡ true
  pub left : x.left ≡ number_in f 0 text
  pub right : x.right ≡ number_in f (at₁ f) text
  pub gap : x.gap ≡ length_in f (at₂ f) text

-- what is read of such a line: none where it is not in the form
abbrev pub EdgeRead : Form → List ℕ → Option Edge → Type 0
EdgeRead f text r = MatchOption r (edge_fits f text ≡ false) (λ x. EdgeOf f text x)

-- the answer to the lines of m drawn tabs, from number e on: 20, else the first one with 4 or 5
unfoldable pub lines_answer : Form → ℕ → ℕ → ℕ → List ℕ → Answer
lines_answer f n e m text = cond (edges_fit f m text) (ends_answer n e (all_ends (edges_in f m text))) (answer 20 0)

-- a drawn tab
abbrev pub drawn : ℕ → ℕ → ℕ → Drawn
drawn left right gap = record { left = left; right = right; gap = gap }

-- drawn tabs, from number e on, of which those with a gap of `least` or more were stored behind `count` others
pub record Stored (least e count : ℕ) (l : List Drawn) (ends numbers ends' numbers' : List ℕ) (r : ℕ) : Type 0 where
  pub many : r ≡ count + length (wide_numbers least e l)
  pub ends_set : ends' ≡ sets ends (2 * count) (all_ends (wide_ones least l))
  pub numbers-set : numbers' ≡ sets numbers count (wide_numbers least e l)
