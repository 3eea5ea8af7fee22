-- A column is in the form exactly if none of its bytes is another than its digit has there: the digits of its number are those of its bytes.
use mathlib.Core.Path.{◌≡◌, refl, sym, ap, ◌∙◌}
use mathlib.Core.Bool.{Bool, true, false, cond, ◌&&◌}
use mathlib.Core.List.{List, [], ◌∷◌}
use Prim.Native.Nat.{ℕ, zero, suc, ◌+◌, ◌*◌, ◌/◌, ◌%◌, ◌^◌, ◌≤◌, ◌<◌}
use native.Mathlib.Omega.{arith}
use native.Mathlib.Numerals.{add-one}
use native.Mathlib.Nat.{mul-zero, mul-suc, pow-suc, one-le-pow, mul-add, mul_assoc, mul-add-div, mul-add-mod_self_left, mod-eq_of_lt, div-eq_of_lt}
use lib.Dec.{eqb, ltb}
use lib.ListN.{length, take, drop, get_or, length-take, length-drop}
use lib.Seq.{drop-cons}
use borrow.Author.Tests.{ltb-true, le-leb, lt-leb, ne_eqb}
use Rattle.text.specs.Column.{worths, byte_at, column, digit, value, same, column_fits}
use Rattle.text.proofs.Laws.{and_true, length-column, digit_most, value_most, column_true, col_long, col_at}
use Rattle.text_read.specs.Line.{zero_at, misfit, misfits, number_at}

-- no multiple of p is below it but 0
pub nothing : (q x p rest : ℕ) → x < p → x ≡ p * q + rest → q ≡ 0
nothing zero x p rest h is = refl
nothing (suc q) x p rest h is = absurd (omega (arith, mul-suc p q))

-- the digit of x at the worth p, if x is c tens and d of them and less than one
module _ (p c d rest x : ℕ) (some : 0 < p) (small : d ≤ 9) (less : rest < p) (is : x ≡ p * (10 * c + d) + rest) where
  pub digit_here : x / p % 10 ≡ d
  digit_here =
      ap (λ (n : ℕ). n / p % 10) is ∙ ap (λ (n : ℕ). n % 10) (mul-add-div some (10 * c + d) rest ∙ rw (div-eq_of_lt less))
      ∙ ap (λ (n : ℕ). n % 10) whole ∙ mul-add-mod_self_left 10 c d ∙ mod-eq_of_lt {m = 10} (omega arith)
    where
      whole : 10 * c + d + 0 ≡ 10 * c + d
      whole = omega arith

  byte_here : byte_at p x ≡ zero_at p x + d
  unfolding byte_at zero_at
  byte_here = go (ltb 1 p && ltb x p) refl
    where
      go : (t : Bool) → (ltb 1 p && ltb x p) ≡ t → cond t 32 (48 + x / p % 10) ≡ cond t 32 48 + d
      go true q = let none = nothing (10 * c + d) x p rest (ltb-true x p (and_true (ltb 1 p) (ltb x p) q).1) is in omega arith
      go false q = rw digit_here

-- a byte and those behind it
pub both_told : (t : Bool) (n : ℕ) {u : Bool} → u ≡ eqb n 0 → (t && u) ≡ eqb (cond t 0 1 + n) 0
both_told true n q = let z : 0 + n ≡ n = omega arith in rw z q
both_told false n q = sym (ne_eqb (1 + n) 0 (λ z. omega arith))

-- the lower digits of x are those of the bytes
same-told : (w c x : ℕ) (bytes : List ℕ) → length bytes ≡ w → x ≡ 10 ^ w * c + value (worths w) bytes → same (column (worths w) x) bytes ≡ eqb (misfits (worths w) x bytes) 0
unfolding worths column value same misfits misfit
same-told zero c x [] l is = refl
same-told zero c x (b ∷ bytes) l is = absurd (omega arith)
same-told (suc w) c x [] l is = absurd (omega arith)
same-told (suc w) c x (b ∷ bytes) l is =
    let p = 10 ^ w in
    let d = digit b in
    let rest = value (worths w) bytes in
    let split : x ≡ p * (10 * c + d) + rest = omega (arith, is, ap (λ (n : ℕ). n * c) (pow-suc 10 w), mul-add p (10 * c) d, mul_assoc p 10 c) in
    rw (byte_here p c d rest x (one-le-pow w 10 (omega arith)) (digit_most b) (value_most w bytes) split)
    (both_told (eqb (zero_at p x + d) b) (misfits (worths w) x bytes) (same-told w (10 * c + d) x bytes (omega arith) split))

-- a column of w bytes
pub column-told : (w most : ℕ) (bytes : List ℕ) → length bytes ≡ w → value (worths w) bytes ≤ most
    → column_fits (worths w) most bytes ≡ eqb (misfits (worths w) (value (worths w) bytes) bytes) 0
unfolding column_fits
column-told w most bytes l h =
    let z : value (worths w) bytes ≡ 10 ^ w * 0 + value (worths w) bytes = omega (arith, mul-zero (10 ^ w)) in
    rw (le-leb (value (worths w) bytes) most h) (same-told w 0 (value (worths w) bytes) bytes l z)

pub column_over : (ws : List ℕ) (most : ℕ) (bytes : List ℕ) → most < value ws bytes → column_fits ws most bytes ≡ false
unfolding column_fits
column_over ws most bytes h = rw (lt-leb (value ws bytes) most h)

-- from one byte to the next, of the column that begins at a place of a line
misfits_next : (ws col : List ℕ) (x i : ℕ) → i < length ws → i < length col
    → misfits (drop i ws) x (drop i col) ≡ misfit (get_or ws i 0) x (get_or col i 0) + misfits (drop (i + 1) ws) x (drop (i + 1) col)
unfolding misfits
misfits_next ws col x i h k = rw (add-one i, drop-cons ws i 0 h, drop-cons col i 0 k)

pub misfits_at : (ws line : List ℕ) (at x i : ℕ) → i < length ws → at + length ws ≤ length line → (n : ℕ) → n ≡ misfit (get_or ws i 0) x (get_or line (at + i) 0)
    → let col = take (length ws) (drop at line) in misfits (drop i ws) x (drop i col) ≡ n + misfits (drop (i + 1) ws) x (drop (i + 1) col)
misfits_at ws line at x i h k n p =
    misfits_next ws (take (length ws) (drop at line)) x i h (col_long ws line at i h k) ∙ rw (col_at ws line at i h k, p)

pub one_most : (t : Bool) → cond t 0 1 ≤ 1
one_most true = omega arith
one_most false = omega arith

pub misfits_most : (ws : List ℕ) (x : ℕ) (bytes : List ℕ) → misfits ws x bytes ≤ length ws
unfolding misfits misfit
misfits_most [] x bytes = omega arith
misfits_most (p ∷ ws) x [] = omega arith
misfits_most (p ∷ ws) x (b ∷ bytes) = omega (arith, one_most (eqb (zero_at p x + digit b) b), misfits_most ws x bytes)

-- the byte of the digit 0
pub zero_shown : (p x : ℕ) → (x < p → p ≤ 1) → zero_at p x ≡ 48
unfolding zero_at
zero_shown p x h = go (ltb 1 p) refl (ltb x p) refl
  where
    go : (s : Bool) → ltb 1 p ≡ s → (t : Bool) → ltb x p ≡ t → ◌≡◌ {A = ℕ} (cond (s && t) 32 48) 48
    go true i true j = absurd (omega (arith, ltb-true 1 p i, h (ltb-true x p j)))
    go true i false j = refl
    go false i t j = refl

pub zero_most : (p x : ℕ) → zero_at p x ≤ 48
unfolding zero_at
zero_most p x = go (ltb 1 p && ltb x p)
  where
    go : (t : Bool) → cond t 32 48 ≤ 48
    go true = omega arith
    go false = omega arith

-- the column at a place of a text: not in the form, not all there, or read
module _ (ws : List ℕ) (most : ℕ) (text : List ℕ) (at : ℕ) where
  pub at_unfit : column_fits ws most (take (length ws) (drop at text)) ≡ false → number_at ws most text at ≡ most + 1
  unfolding number_at
  at_unfit p = rw p

  pub at_fit : column_fits ws most (take (length ws) (drop at text)) ≡ true → number_at ws most text at ≡ value ws (take (length ws) (drop at text))
  unfolding number_at
  at_fit p = rw p

  pub short_unfit : length text < at + length ws → 0 < length ws → column_fits ws most (take (length ws) (drop at text)) ≡ false
  short_unfit h some = go (column_fits ws most col) refl
    where
      col : List ℕ
      col = take (length ws) (drop at text)

      go : (t : Bool) → column_fits ws most col ≡ t → column_fits ws most col ≡ false
      go false p = p
      go true p = absurd (omega (arith, ap length (column_true ws most col p).1, length-column ws (value ws col), length-take (length ws) (drop at text), length-drop at text))
