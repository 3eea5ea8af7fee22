-- A line of one to three columns is in the form exactly if its columns are and a line feed follows; its numbers are those of its columns.
use Rattle.std.specs.Prelude.{Option, None, Some, is_some}
use mathlib.Core.Path.{◌≡◌, refl, sym, ap, ◌∙◌}
use mathlib.Core.Bool.{Bool, true, false, ◌&&◌}
use mathlib.Core.List.{List}
use Prim.Native.Nat.{ℕ, zero, suc, ◌+◌, ◌*◌, ◌<◌}
use native.Mathlib.Omega.{arith}
use native.Mathlib.Nat.{suc-mul}
use lib.ListN.{length, take, drop, get_or, length-drop}
use lib.Seq.{drop-drop, drop-cons, get_or-drop}
use borrow.Author.Tests.{eq-eqb, ne_eqb}
use Rattle.text.specs.Column.{line_size, same, column_fits, line_fits, numbers}
use Rattle.text.proofs.Laws.{line-part, numbers-part}
use Rattle.text_read.specs.declared.line.Line.{Line}
use Rattle.text_read.specs.Line.{ColumnOf, LineOf, LineRead}

-- all columns are in the form
columns_fit : List ℕ → ℕ → ℕ → List ℕ → Bool
columns_fit ws most zero l = true
columns_fit ws most (suc k) l = column_fits ws most (take (length ws) l) && columns_fit ws most k (drop (length ws) l)

no_right : (t : Bool) → (t && false) ≡ false
no_right true = refl
no_right false = refl

module _ (ws : List ℕ) (most : ℕ) where
  -- the byte behind the columns
  next_feed : (k : ℕ) (l : List ℕ) → get_or (drop (length ws) l) (k * length ws) 0 ≡ get_or l (suc k * length ws) 0
  next_feed k l = get_or-drop (length ws) l (k * length ws) 0 ∙ ap (λ (i : ℕ). get_or l i 0) (omega (arith, suc-mul k (length ws)))

  fed : (k : ℕ) (l : List ℕ) → k * length ws < length l → get_or l (k * length ws) 0 ≡ 10 → line_fits ws most k l ≡ columns_fit ws most k l
  unfolding line_fits same columns_fit
  fed zero l h p = let z : 0 * length ws ≡ 0 = omega arith in rw (drop-cons l 0 0 (omega arith), eq-eqb (get_or l 0 0) 10 (ap (λ (i : ℕ). get_or l i 0) (sym z) ∙ p))
  fed (suc k) l h p = ap (λ (t : Bool). column_fits ws most (take (length ws) l) && t) (fed k (drop (length ws) l) (omega (arith, suc-mul k (length ws), length-drop (length ws) l)) (next_feed k l ∙ p))

  pub unfed : (k : ℕ) (l : List ℕ) → k * length ws < length l → (get_or l (k * length ws) 0 ≡ 10 → ⊥) → line_fits ws most k l ≡ false
  unfolding line_fits same
  unfed zero l h p = let z : 0 * length ws ≡ 0 = omega arith in rw (drop-cons l 0 0 (omega arith), ne_eqb (get_or l 0 0) 10 (λ q. p (ap (λ (i : ℕ). get_or l i 0) z ∙ q)))
  unfed (suc k) l h p = ap (λ (t : Bool). column_fits ws most (take (length ws) l) && t) (unfed k (drop (length ws) l) (omega (arith, suc-mul k (length ws), length-drop (length ws) l)) (λ q. p (sym (next_feed k l) ∙ q))) ∙ no_right (column_fits ws most (take (length ws) l))

  module _ (l : List ℕ) where
    -- the column that begins at a place
    abbrev col : ℕ → List ℕ
    col at = take (length ws) (drop at l)

    third_place : drop (length ws) (drop (length ws) l) ≡ drop (length ws + length ws) l
    third_place = drop-drop (length ws) (length ws) l

    pub first_out : (k : ℕ) → column_fits ws most (col 0) ≡ false → line_fits ws most (suc k) l ≡ false
    unfolding line_fits
    first_out k h = rw h

    module _ {a : ℕ} (reads : ColumnOf ws most (col 0) a) where
      pub line_one : length ws < length l → get_or l (length ws) 0 ≡ 10 → LineOf ws most 1 l (record { first = a; second = 0; third = 0 })
      unfolding numbers columns_fit
      line_one h p =
          let z : 1 * length ws ≡ length ws = omega arith in
          let f = fed 1 l (omega arith) (ap (λ (i : ℕ). get_or l i 0) z ∙ p) in
          record { fits = f ∙ rw reads.fits; first = reads.is; second = refl; third = refl }

      pub second_out : (k : ℕ) → column_fits ws most (col (length ws)) ≡ false → line_fits ws most (suc (suc k)) l ≡ false
      unfolding line_fits
      second_out k h = rw (reads.fits, h)

      module _ {b : ℕ} (next : ColumnOf ws most (col (length ws)) b) where
        pub line_two : 2 * length ws < length l → get_or l (2 * length ws) 0 ≡ 10 → LineOf ws most 2 l (record { first = a; second = b; third = 0 })
        unfolding numbers columns_fit
        line_two h p = record { fits = fed 2 l h p ∙ rw (reads.fits, next.fits); first = reads.is; second = next.is; third = refl }

        pub third_out : column_fits ws most (col (length ws + length ws)) ≡ false → line_fits ws most 3 l ≡ false
        unfolding line_fits
        third_out h = rw (reads.fits, next.fits, third_place, h)

        pub line_three : {c : ℕ} → ColumnOf ws most (col (length ws + length ws)) c → 3 * length ws < length l → get_or l (3 * length ws) 0 ≡ 10
            → LineOf ws most 3 l (record { first = a; second = b; third = c })
        unfolding numbers columns_fit
        line_three last h p =
            record {
              fits = fed 3 l h p ∙ rw (reads.fits, next.fits, third_place, last.fits);
              first = reads.is;
              second = next.is;
              third = last.is ∙ rw (sym third_place);
            }

-- a line may be read of its own part of a text
pub part-read : (ws : List ℕ) (most k : ℕ) (text : List ℕ) (r : Option Line) → LineRead ws most k (take (line_size ws k) text) r → LineRead ws most k text r
part-read ws most k text None p = sym (line-part ws most k text) ∙ p
part-read ws most k text (Some l) r =
    let p = numbers-part ws k text in
    record {
      fits = sym (line-part ws most k text) ∙ r.fits;
      first = r.first ∙ ap (λ (l : List ℕ). get_or l 0 0) p;
      second = r.second ∙ ap (λ (l : List ℕ). get_or l 1 0) p;
      third = r.third ∙ ap (λ (l : List ℕ). get_or l 2 0) p;
    }

-- a line is in the form exactly if there is one that was read
pub fits_some : (ws : List ℕ) (most k : ℕ) (text : List ℕ) (r : Option Line) → LineRead ws most k text r → line_fits ws most k text ≡ is_some r
fits_some ws most k text None p = p
fits_some ws most k text (Some l) r = r.fits
