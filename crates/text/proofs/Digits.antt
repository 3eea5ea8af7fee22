-- A number in a column of w digits is the number: its digits at the worths, added up, are its rest at 10 ^ w.
use mathlib.Core.Path.{◌≡◌, refl, sym, ap, ◌∙◌}
use mathlib.Core.Bool.{Bool, true, false, cond, ◌&&◌}
use Prim.Native.Nat.{ℕ, zero, suc, ◌+◌, ◌*◌, ◌/◌, ◌%◌, ◌^◌, ◌≤◌, ◌<◌}
use native.Mathlib.Omega.{arith}
use native.Mathlib.Nat.{pow-suc, one-le-pow, mod-lt, mod-one, mod-eq_of_lt, div-eq_of_lt, div-add-mod, mul-add, mul_assoc, mul-add-mod_self_left, mul-le-mul_left}
use lib.Dec.{ltb}
use borrow.Author.Tests.{le-leb, ltb-true}
use Rattle.text.specs.Column.{worths, five, byte_at, column, digit, value}
use Rattle.text.proofs.Laws.{and_true}

pub digit_shown : (d : ℕ) → d < 10 → digit (48 + d) ≡ d
unfolding digit
digit_shown d h = rw (le-leb 48 (48 + d) (omega arith), le-leb (48 + d) 57 (omega arith)) (omega arith)

-- the digit at a worth
digit_at : (p x : ℕ) → digit (byte_at p x) ≡ x / p % 10
unfolding byte_at digit
digit_at p x = go (ltb 1 p && ltb x p) refl
  where
    go : (t : Bool) → (ltb 1 p && ltb x p) ≡ t → digit (cond t 32 (48 + x / p % 10)) ≡ x / p % 10
    go true q =
        let z : x / p ≡ 0 = div-eq_of_lt (ltb-true x p (and_true (ltb 1 p) (ltb x p) q).1) in
        rw z
    go false q = digit_shown (x / p % 10) (mod-lt (x / p) (omega arith))

-- a digit more
pub more : (p x : ℕ) → 0 < p → p * (x / p % 10) + x % p ≡ x % (p * 10)
more p x h =
    let q = x / p in
    let low = p * (q % 10) + x % p in
    let split : p * q ≡ p * 10 * (q / 10) + p * (q % 10) =
    ap (λ (n : ℕ). p * n) (sym (div-add-mod q 10)) ∙ mul-add p (10 * (q / 10)) (q % 10) ∙ ap (λ (n : ℕ). n + p * (q % 10)) (sym (mul_assoc p 10 (q / 10))) in
    let whole : x ≡ p * 10 * (q / 10) + low = omega (arith, div-add-mod x p, split) in
    let small : low < p * 10 = omega (arith, mod-lt x h, mul-le-mul_left p (digit_below q)) in
    sym (ap (λ (n : ℕ). n % (p * 10)) whole ∙ mul-add-mod_self_left (p * 10) (q / 10) low ∙ mod-eq_of_lt small)
  where
    digit_below : (q : ℕ) → q % 10 ≤ 9
    digit_below q = omega arith

value-column : (w x : ℕ) → value (worths w) (column (worths w) x) ≡ x % 10 ^ w
unfolding value column worths
value-column zero x = sym (mod-one x)
value-column (suc w) x = rw (digit_at (10 ^ w) x, value-column w x, pow-suc 10 w) (more (10 ^ w) x (one-le-pow w 10 (omega arith)))

-- so a number below 10 ^ w is read as it was written
pub read_back : (w most : ℕ) → most < 10 ^ w → (x : ℕ) → x ≤ most → value (worths w) (column (worths w) x) ≡ x
read_back w most h x k = value-column w x ∙ mod-eq_of_lt (omega arith)

-- 01: the worths of the five columns stand in one table, that of the width 5
pub five_worths : five ≡ worths 5
unfolding worths
five_worths = refl
