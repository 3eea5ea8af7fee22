-- No table changes its length.
use mathlib.Core.Path.{◌≡◌, refl, ◌∙◌}
use mathlib.Core.Bool.{◌||◌}
use mathlib.Core.List.{List}
use Prim.Native.Nat.{ℕ, zero, suc, ◌+◌, ◌-◌, ◌/◌}
use lib.Dec.{eqb, ltb}
use lib.ListN.{length, set, length-set}
use Rattle.connectivity.proofs.Admission.{cond_both}
use Rattle.graph.specs.Marks.{read}
use Rattle.numbers.specs.Tables.{lower_end, mark_of, hand_to, own_at, raise_to, lower_last, lower_over, numbers_to, owns_to, lasts_down, overs_down}

pub numbers_long : (n : ℕ) (order table : List ℕ) (k : ℕ) → length (numbers_to n order table k) ≡ length table
unfolding numbers_to
numbers_long n order table zero = refl
numbers_long n order table (suc k) = cond_both (λ (l : List ℕ). length l ≡ length table) (ltb (read order k) n)
    (length-set (numbers_to n order table k) (read order k) k ∙ numbers_long n order table k) (numbers_long n order table k)

pub hand_long : (ends number over : List ℕ) (t x : ℕ) → length (hand_to ends number over t x) ≡ length over
unfolding hand_to
hand_long ends number over t x = cond_both (λ (l : List ℕ). length l ≡ length over) (eqb t 0) refl (length-set over (t - 1) _)

pub own_long : (n : ℕ) (ends first number over : List ℕ) (e : ℕ) → length (own_at n ends first number over e) ≡ length over
unfolding own_at
own_long n ends first number over e = let t = mark_of n (length ends / 2) first (lower_end ends number e) in cond_both (λ (l : List ℕ). length l ≡ length over) (eqb t 0 || eqb t (e + 1))
    refl (hand_long ends number (set over e (e + 1)) (mark_of n (length ends / 2) first (lower_end ends number e)) (e + 1) ∙ length-set over e (e + 1))

pub raise_long : (last : List ℕ) (up v : ℕ) → length (raise_to last up v) ≡ length last
unfolding raise_to
raise_long last up v = cond_both (λ (l : List ℕ). length l ≡ length last) (ltb (read last up) (read last v)) (length-set last up (read last v)) refl

pub last_long : (n : ℕ) (ends first last : List ℕ) (v : ℕ) → length (lower_last n ends first last v) ≡ length last
unfolding lower_last
last_long n ends first last v = cond_both (λ (l : List ℕ). length l ≡ length last) (eqb (mark_of n (length ends / 2) first v) 0) refl (raise_long last _ v)

pub over_long : (n : ℕ) (ends first number over : List ℕ) (v : ℕ) → length (lower_over n ends first number over v) ≡ length over
unfolding lower_over
over_long n ends first number over v = cond_both (λ (l : List ℕ). length l ≡ length over) (eqb (mark_of n (length ends / 2) first v) 0) refl (hand_long ends number over _ _)

pub owns_long : (n : ℕ) (ends first number over : List ℕ) (k : ℕ) → length (owns_to n ends first number over k) ≡ length over
unfolding owns_to
owns_long n ends first number over zero = refl
owns_long n ends first number over (suc k) = own_long n ends first number (owns_to n ends first number over k) k ∙ owns_long n ends first number over k

pub lasts_long : (n : ℕ) (ends first order last : List ℕ) (k : ℕ) → length (lasts_down n ends first order last k) ≡ length last
unfolding lasts_down
lasts_long n ends first order last zero = refl
lasts_long n ends first order last (suc k) = last_long n ends first (lasts_down n ends first order last k) (read order (n - suc k)) ∙ lasts_long n ends first order last k

pub overs_long : (n : ℕ) (ends first order number over : List ℕ) (k : ℕ) → length (overs_down n ends first order number over k) ≡ length over
unfolding overs_down
overs_long n ends first order number over zero = refl
overs_long n ends first order number over (suc k) = over_long n ends first number (overs_down n ends first order number over k) (read order (n - suc k)) ∙ overs_long n ends first order number over k
