-- The first line and the line of a drawn tab, by their columns: what is read of each column tells whether the line is in the form, and what is on it.
use Rattle.std.specs.Prelude.{Option, None, Some, is_some}
use mathlib.Core.Path.{◌≡◌, refl, sym, ap, ◌∙◌}
use mathlib.Core.Bool.{Bool, true, false, cond, ◌&&◌, ◌||◌}
use mathlib.Core.List.{List, [], ◌∷◌}
use Prim.Native.Nat.{ℕ, ◌+◌, ◌*◌, ◌-◌, ◌≤◌, ◌<◌}
use native.Mathlib.Omega.{arith}
use lib.ListN.{length, take, drop, get_or, length-take, drop_of_length-le}
use lib.Seq.{drop-cons, take-take}
use borrow.Author.Tests.{eq-eqb, ne_eqb}
use Rattle.text.specs.Column.{same, column_fits}
use Rattle.text.proofs.Laws.{drop-take, column_true}
use Rattle.text_read.specs.Line.{number_at}
use Rattle.text_read.proofs.Columns.{at_unfit, at_fit}
use Rattle.drawn.specs.Length.{length_fits}
use Rattle.drawn.specs.Drawing.{full, half, full_kerf}
use Rattle.drawn.specs.Text.{Form, part, letter_byte, letter_column, number_in, length_in, number_fits, measure_fits, letter_fits, letter_in, at₁, at₂, at₃, at₄, at₅, header_size, edge_size, header_fits, edge_fits}
use Rattle.drawn.specs.Line.{times, HeaderRead, EdgeRead}
use Rattle.drawn.specs.declared.line.Header.{Header}
use Rattle.drawn.specs.declared.line.Edge.{Edge}

-- a line feed at a place, another byte, and none
module _ (l : List ℕ) (at : ℕ) where
  abbrev feed : Bool
  feed = same (part at 1 l) (10 ∷ [])

  pub fed : at < length l → get_or l at 0 ≡ 10 → feed ≡ true
  unfolding same
  fed h p = rw (drop-cons l at 0 h, eq-eqb (get_or l at 0) 10 p)

  pub unfed : at < length l → (get_or l at 0 ≡ 10 → ⊥) → feed ≡ false
  unfolding same
  unfed h p = rw (drop-cons l at 0 h, ne_eqb (get_or l at 0) 10 p)

  pub unended : length l ≤ at → feed ≡ false
  unfolding same
  unended h = rw (drop_of_length-le l {i = at} h)

-- a part of the front of a list is a part of the list
part_take : (l : List ℕ) (at size n : ℕ) → at + size ≤ n → part at size (take n l) ≡ part at size l
part_take l at size n h =
    let m = n - at in
    let p : n ≡ at + m = omega arith in
    ap (λ (k : ℕ). part at size (take k l)) p ∙ ap (take size) (drop-take at m l) ∙ take-take size m (drop at l) (omega arith)

no_right : (t : Bool) → (t && false) ≡ false
no_right true = refl
no_right false = refl

module _ (f : Form) (l : List ℕ) where
  -- a number's column
  module _ (at a : ℕ) (is : a ≡ number_at f.worths f.most l at) where
    told : (t : Bool) → number_fits f at l ≡ t → a ≡ cond t (number_in f at l) (f.most + 1)
    told true p = is ∙ at_fit f.worths f.most l at p
    told false p = is ∙ at_unfit f.worths f.most l at p

    pub number_out : f.most < a → number_fits f at l ≡ false
    number_out h = go (number_fits f at l) refl
      where
        go : (t : Bool) → number_fits f at l ≡ t → number_fits f at l ≡ false
        go true p = absurd (omega (arith, told true p, (column_true f.worths f.most (part at (length f.worths) l) p).0))
        go false p = p

  -- the line of a drawn tab, by its columns
  pub edge_is : (a b c d : Bool) → number_fits f 0 l ≡ a → number_fits f (at₁ f) l ≡ b → measure_fits f (at₂ f) l ≡ c → feed l (at₃ f) ≡ d
      → edge_fits f l ≡ (a && (b && (c && d)))
  unfolding edge_fits
  edge_is a b c d p q r s = rw (p, q, r, s)

  -- the letter of the kerf
  abbrev lettered : Bool
  lettered = letter_fits f full (at₄ f) l || letter_fits f half (at₄ f) l

  pub times_none : times f (at₄ f) l ≡ None → lettered ≡ false
  unfolding times
  times_none p = go (letter_fits f full (at₄ f) l) (letter_fits f half (at₄ f) l) p
    where
      go : (s t : Bool) → ◌≡◌ {A = Option ℕ} (cond s (Some 1) (cond t (Some 2) None)) None → (s || t) ≡ false
      go true t p = absurd (cc)
      go false true p = absurd (cc)
      go false false p = refl

  -- it stands there, and the kerf so often is the full one
  pub times_some : {n : ℕ} → times f (at₄ f) l ≡ Some n → (lettered ≡ true) × (n ≤ 2) × ((k : ℕ) → n * k ≡ full_kerf (letter_in f l) k)
  unfolding times letter_in full_kerf
  times_some {n} p = go (letter_fits f full (at₄ f) l) (letter_fits f half (at₄ f) l) p
    where
      go : (s t : Bool) → cond s (Some 1) (cond t (Some 2) None) ≡ Some n → ((s || t) ≡ true) × (n ≤ 2) × ((k : ℕ) → n * k ≡ full_kerf (cond s full half) k)
      go true t p = let z : ◌≡◌ {A = ℕ} 1 n = cc in (refl, omega (arith, z), λ k. rw (sym z) (omega arith))
      go false true p = let z : ◌≡◌ {A = ℕ} 2 n = cc in (refl, omega (arith, z), λ k. rw (sym z) (omega arith))
      go false false p = absurd (cc)

  -- the first line, by its columns
  pub header_is : (a b c d e g : Bool) → number_fits f 0 l ≡ a → number_fits f (at₁ f) l ≡ b → measure_fits f (at₂ f) l ≡ c → measure_fits f (at₃ f) l ≡ d
      → (letter_fits f full (at₄ f) l || letter_fits f half (at₄ f) l) ≡ e → feed l (at₅ f) ≡ g → header_fits f l ≡ (a && (b && (c && (d && (e && g)))))
  unfolding header_fits
  header_is a b c d e g p q r s t u = rw (p, q, r, s, t, u)

  pub header_short : length l ≤ at₅ f → header_fits f l ≡ false
  header_short h =
      header_is _ _ _ _ _ false refl refl refl refl refl (unended l (at₅ f) h)
      ∙ simp no_right

-- what is read of a line is read of its own bytes
module _ (f : Form) (l : List ℕ) (n : ℕ) where
  number_front : (at : ℕ) → at + length f.worths ≤ n → number_fits f at (take n l) ≡ number_fits f at l
  number_front at h = ap (column_fits f.worths f.most) (part_take l at (length f.worths) n h)

  length-front : (at : ℕ) → at + length f.lengths ≤ n → measure_fits f at (take n l) ≡ measure_fits f at l
  length-front at h = ap (length_fits f.unit f.lengths) (part_take l at (length f.lengths) n h)

  letter_front : (b at : ℕ) → at + length f.worths ≤ n → same (letter_column f.worths b) (part at (length f.worths) (take n l)) ≡ same (letter_column f.worths b) (part at (length f.worths) l)
  letter_front b at h = ap (same (letter_column f.worths b)) (part_take l at (length f.worths) n h)

  feed_front : (at : ℕ) → at + 1 ≤ n → feed (take n l) at ≡ feed l at
  feed_front at h = ap (λ (x : List ℕ). same x (10 ∷ [])) (part_take l at 1 n h)

  in_front : (at : ℕ) → at + length f.worths ≤ n → number_in f at (take n l) ≡ number_in f at l
  in_front at h = rw (part_take l at (length f.worths) n h)

  measure_front : (at : ℕ) → at + length f.lengths ≤ n → length_in f at (take n l) ≡ length_in f at l
  measure_front at h = rw (part_take l at (length f.lengths) n h)

  module _ (h : edge_size f ≤ n) where
    edge_fits_front : edge_fits f (take n l) ≡ edge_fits f l
    edge_fits_front =
        edge_is f (take n l) _ _ _ _ (number_front 0 (omega arith)) (number_front (at₁ f) (omega arith)) (length-front (at₂ f) (omega arith)) (feed_front (at₃ f) (omega arith))
        ∙ sym (edge_is f l _ _ _ _ refl refl refl refl)

    pub edge_front : (r : Option Edge) → EdgeRead f (take n l) r → EdgeRead f l r
    edge_front None p = sym edge_fits_front ∙ p
    edge_front (Some x) r = record {
      fits = sym edge_fits_front ∙ r.fits;
      left = r.left ∙ in_front 0 (omega arith);
      right = r.right ∙ in_front (at₁ f) (omega arith);
      gap = r.gap ∙ measure_front (at₂ f) (omega arith);
    }

  module _ (h : header_size f ≤ n) where
    letters_front : (letter_fits f full (at₄ f) (take n l) || letter_fits f half (at₄ f) (take n l)) ≡ (letter_fits f full (at₄ f) l || letter_fits f half (at₄ f) l)
    letters_front = rw (letter_front (letter_byte full) (at₄ f) (omega arith), letter_front (letter_byte half) (at₄ f) (omega arith))

    letter_in_front : letter_in f (take n l) ≡ letter_in f l
    unfolding letter_in
    letter_in_front = rw (letter_front (letter_byte full) (at₄ f) (omega arith))

    header_fits_front : header_fits f (take n l) ≡ header_fits f l
    header_fits_front =
        header_is f (take n l) _ _ _ _ _ _ (number_front 0 (omega arith)) (number_front (at₁ f) (omega arith)) (length-front (at₂ f) (omega arith)) (length-front (at₃ f) (omega arith))
        letters_front (feed_front (at₅ f) (omega arith))
        ∙ sym (header_is f l _ _ _ _ _ _ refl refl refl refl refl refl)

    pub header_front : (r : Option Header) → HeaderRead f (take n l) r → HeaderRead f l r
    header_front None p = sym header_fits_front ∙ p
    header_front (Some x) d = record {
      form = sym header_fits_front ∙ d.form;
      vertices = d.vertices ∙ in_front 0 (omega arith);
      edges = d.edges ∙ in_front (at₁ f) (omega arith);
      least = d.least ∙ measure_front (at₂ f) (omega arith);
      kerf = d.kerf ∙ rw (letter_in_front, measure_front (at₃ f) (omega arith));
      inside = omega (arith, d.inside, length-take n l);
    }

-- a drawn tab's line is in the form exactly if there is one that was read
pub fits_some : (f : Form) (text : List ℕ) (r : Option Edge) → EdgeRead f text r → edge_fits f text ≡ is_some r
fits_some f text None p = p
fits_some f text (Some x) r = r.fits
