-- A length's column gives the length back, and it is in the form exactly if each of its bytes is the one that its digit has there.
use mathlib.Core.Path.{◌≡◌, refl, sym, ap, ◌∙◌}
use mathlib.Core.Bool.{Bool, true, false, cond, ◌&&◌}
use mathlib.Core.List.{List, [], ◌∷◌}
use Prim.Native.Nat.{ℕ, zero, suc, ◌+◌, ◌*◌, ◌-◌, ◌/◌, ◌%◌, ◌^◌, ◌≤◌, ◌<◌}
use native.Mathlib.Omega.{arith}
use native.Mathlib.Numerals.{add-one}
use native.Mathlib.Nat.{mul-zero, pow-suc, one-le-pow, mul-add, mul_assoc, mul-le-mul_left}
use lib.Dec.{eqb, ltb, leb}
use lib.ListN.{length, take, drop, get_or}
use lib.Seq.{drop-cons}
use borrow.Author.Tests.{ltb-true, leb-true, ne_eqb}
use Rattle.text.specs.Column.{worths, digit, value, same}
use Rattle.text.proofs.Laws.{and_true, digit_most, value_most, col_long, col_at}
use Rattle.text_read.proofs.Columns.{nothing, digit_here, both_told, one_most}
use Rattle.drawn.specs.Length.{length_worths, eight, length_byte, length_column, length_fits}
use Rattle.drawn.specs.Drawing.{Letter, full, half, full_kerf}
use Rattle.drawn.specs.Line.{longest, zero_at, misfit, misfits}

-- the worths

-- 02: the worths of the eight columns stand in one table, that of four digits before the point and three behind it
pub eight_worths : eight ≡ length_worths 4 3
unfolding length_worths worths
eight_worths = refl

long_worths : (d : ℕ) → length (worths d) ≡ d
unfolding worths
long_worths zero = refl
long_worths (suc d) = ap suc (long_worths d)

-- one for each digit, and the point's
pub length-worths : (w d : ℕ) → length (length_worths w d) ≡ suc (w + d)
unfolding length_worths
length-worths zero d = omega (arith, long_worths d)
length-worths (suc w) d = omega (arith, length-worths w d)

suc_sum : (w d : ℕ) → suc w + d ≡ suc (w + d)
suc_sum w d = omega arith

zero_sum : (d : ℕ) → 0 + d ≡ d
zero_sum d = omega arith

-- no column tells a length with more digits
pub value_below : (w d : ℕ) (bytes : List ℕ) → value (length_worths w d) bytes < 10 ^ (w + d)
unfolding value length_worths
value_below zero d [] = one-le-pow (0 + d) 10 (omega arith)
value_below zero d (b ∷ bytes) = rw (zero_sum d) (omega (arith, value_most d bytes))
value_below (suc w) d [] = one-le-pow (suc w + d) 10 (omega arith)
value_below (suc w) d (b ∷ bytes) =
    rw (suc_sum w d, pow-suc 10 (w + d)) (omega (arith, value_below w d bytes, mul-le-mul_left (10 ^ (w + d)) (digit_most b)))

pub eight_below : (bytes : List ℕ) → value eight bytes ≤ longest
unfolding length_worths worths
eight_below bytes = let p = value_below 4 3 bytes in omega (arith, p)

-- a kerf counts twice at most
pub kerf_most : (a : Letter) (k : ℕ) → full_kerf a k ≤ 2 * k
unfolding full_kerf
kerf_most full k = omega arith
kerf_most half k = omega arith

-- the bytes in the form

byte_here : (unit p c d rest x : ℕ) → 0 < p → d ≤ 9 → rest < p → x ≡ p * (10 * c + d) + rest → length_byte unit p x ≡ zero_at unit p x + d
unfolding length_byte zero_at
byte_here unit p c d rest x some small less is = rw (ne_eqb p 0 (λ z. omega arith)) (go (ltb unit p && ltb x p) refl)
  where
    go : (t : Bool) → (ltb unit p && ltb x p) ≡ t → cond t 32 (48 + x / p % 10) ≡ cond t 32 48 + d
    go true q = let none = nothing (10 * c + d) x p rest (ltb-true x p (and_true (ltb unit p) (ltb x p) q).1) is in omega arith
    go false q = rw (digit_here p c d rest x some small less is)

-- the point is told by its byte
point_told : (b : ℕ) → eqb 46 b ≡ eqb (46 + digit b) b
unfolding digit
point_told b = go (leb 48 b && leb b 57) refl
  where
    go : (t : Bool) → (leb 48 b && leb b 57) ≡ t → eqb 46 b ≡ eqb (46 + cond t (b - 48) 0) b
    go true q = let h = leb-true 48 b (and_true (leb 48 b) (leb b 57) q).0 in ne_eqb 46 b (λ z. omega arith) ∙ sym (ne_eqb (46 + (b - 48)) b (λ z. omega arith))
    go false q = let z : 46 + 0 ≡ 46 = omega arith in rw z

-- x is c tens and the first digit of the bytes' at its worth, and less than one
split : (x : ℕ) (ls : List ℕ) (k b c : ℕ) (bytes : List ℕ) → x ≡ 10 ^ suc k * c + value (10 ^ k ∷ ls) (b ∷ bytes) → x ≡ 10 ^ k * (10 * c + digit b) + value ls bytes
unfolding value
split x ls k b c bytes is = let p = 10 ^ k in omega (arith, is, ap (λ (n : ℕ). n * c) (pow-suc 10 k), mul-add p (10 * c) (digit b), mul_assoc p 10 c)

behind_point : (ls : List ℕ) (b : ℕ) (bytes : List ℕ) (n : ℕ) → n + value (0 ∷ ls) (b ∷ bytes) ≡ n + value ls bytes
unfolding value
behind_point ls b bytes n = omega arith

-- the bytes behind the first are told, so all are
module _ (unit x : ℕ) (ls : List ℕ) (b : ℕ) (bytes : List ℕ) where
  point_next : same (length_column unit ls x) bytes ≡ eqb (misfits unit ls x bytes) 0
      → same (length_column unit (0 ∷ ls) x) (b ∷ bytes) ≡ eqb (misfits unit (0 ∷ ls) x (b ∷ bytes)) 0
  unfolding length_column length_byte same misfits misfit zero_at
  point_next told = rw (point_told b) (both_told (eqb (46 + digit b) b) (misfits unit ls x bytes) told)

  digit_next : (k c : ℕ) → value ls bytes < 10 ^ k → x ≡ 10 ^ k * (10 * c + digit b) + value ls bytes → same (length_column unit ls x) bytes ≡ eqb (misfits unit ls x bytes) 0
      → same (length_column unit (10 ^ k ∷ ls) x) (b ∷ bytes) ≡ eqb (misfits unit (10 ^ k ∷ ls) x (b ∷ bytes)) 0
  unfolding length_column same misfits misfit
  digit_next k c less is told =
      rw (byte_here unit (10 ^ k) c (digit b) (value ls bytes) x (one-le-pow k 10 (omega arith)) (digit_most b) less is)
      (both_told (eqb (zero_at unit (10 ^ k) x + digit b) b) (misfits unit ls x bytes) told)

decimals_told : (unit d c x : ℕ) (bytes : List ℕ) → length bytes ≡ d → x ≡ 10 ^ d * c + value (worths d) bytes
    → same (length_column unit (worths d) x) bytes ≡ eqb (misfits unit (worths d) x bytes) 0
unfolding worths length_column same misfits
decimals_told unit zero c x [] l is = refl
decimals_told unit zero c x (b ∷ bytes) l is = absurd (omega arith)
decimals_told unit (suc d) c x [] l is = absurd (omega arith)
decimals_told unit (suc d) c x (b ∷ bytes) l is =
    let s = split x (worths d) d b c bytes is in
    digit_next unit x (worths d) b bytes d c (value_most d bytes) s (decimals_told unit d (10 * c + digit b) x bytes (omega arith) s)

digits_told : (unit w d c x : ℕ) (bytes : List ℕ) → length bytes ≡ suc (w + d) → x ≡ 10 ^ (w + d) * c + value (length_worths w d) bytes
    → same (length_column unit (length_worths w d) x) bytes ≡ eqb (misfits unit (length_worths w d) x bytes) 0
unfolding length_worths
digits_told unit zero d c x [] l is = absurd (omega arith)
digits_told unit zero d c x (b ∷ bytes) l is =
    point_next unit x (worths d) b bytes (decimals_told unit d c x bytes (omega arith) (is ∙ rw (zero_sum d) (behind_point (worths d) b bytes (10 ^ d * c))))
digits_told unit (suc w) d c x [] l is = absurd (omega arith)
digits_told unit (suc w) d c x (b ∷ bytes) l is =
    let s = split x (length_worths w d) (w + d) b c bytes (rw (suc_sum w d) at is) in
    digit_next unit x (length_worths w d) b bytes (w + d) c (value_below w d bytes) s (digits_told unit w d (10 * c + digit b) x bytes (omega arith) s)

-- bytes of a length's width are in the form exactly if none is another than its digit has there
pub length-told : (w d : ℕ) (bytes : List ℕ) → length bytes ≡ suc (w + d)
    → length_fits (10 ^ d) (length_worths w d) bytes ≡ eqb (misfits (10 ^ d) (length_worths w d) (value (length_worths w d) bytes) bytes) 0
unfolding length_fits
length-told w d bytes l = digits_told (10 ^ d) w d 0 (value (length_worths w d) bytes) bytes l (omega (arith, mul-zero (10 ^ (w + d))))

-- from one byte to the next, of the length that begins at a place of a line
misfits_next : (unit : ℕ) (ls col : List ℕ) (x i : ℕ) → i < length ls → i < length col
    → misfits unit (drop i ls) x (drop i col) ≡ misfit unit (get_or ls i 0) x (get_or col i 0) + misfits unit (drop (i + 1) ls) x (drop (i + 1) col)
unfolding misfits
misfits_next unit ls col x i h k = rw (add-one i, drop-cons ls i 0 h, drop-cons col i 0 k)

pub misfits_at : (unit : ℕ) (ls line : List ℕ) (at x i : ℕ) → i < length ls → at + length ls ≤ length line → (n : ℕ) → n ≡ misfit unit (get_or ls i 0) x (get_or line (at + i) 0)
    → let col = take (length ls) (drop at line) in misfits unit (drop i ls) x (drop i col) ≡ n + misfits unit (drop (i + 1) ls) x (drop (i + 1) col)
misfits_at unit ls line at x i h k n p =
    misfits_next unit ls (take (length ls) (drop at line)) x i h (col_long ls line at i h k) ∙ rw (col_at ls line at i h k, p)

pub misfits_most : (unit : ℕ) (ls : List ℕ) (x : ℕ) (bytes : List ℕ) → misfits unit ls x bytes ≤ length ls
unfolding misfits misfit
misfits_most unit [] x bytes = omega arith
misfits_most unit (p ∷ ls) x [] = omega arith
misfits_most unit (p ∷ ls) x (b ∷ bytes) = omega (arith, one_most (eqb (zero_at unit p x + digit b) b), misfits_most unit ls x bytes)

pub zero_most : (unit p x : ℕ) → zero_at unit p x ≤ 48
unfolding zero_at
zero_most unit p x = go (eqb p 0) (ltb unit p && ltb x p)
  where
    go : (s t : Bool) → cond s 46 (cond t 32 48) ≤ 48
    go true t = omega arith
    go false true = omega arith
    go false false = omega arith
