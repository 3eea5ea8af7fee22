-- How many marks are not 0: the count grows by one with each mark that is set, and stays below n while one is not.
use mathlib.Core.Path.{◌≡◌, refl, sym, ap, ◌∙◌, subst}
use mathlib.Core.Logic.{⊎_elim, ◌↔◌}
use mathlib.Core.Bool.{Bool, not}
use mathlib.Core.List.{List}
use Prim.Native.Nat.{ℕ, zero, suc, ◌+◌, ◌≤◌, ◌<◌}
use native.Mathlib.Nat.{le_of_suc-le-suc, eq-or-lt_of_le}
use native.Mathlib.Omega.{arith}
use native.Mathlib.Decide.{ℕ_discrete}
use lib.Dec.{T, T_not, not_T, eqb, eqb→eq}
use lib.ListN.{length, get_or, set, replicate}
use lib.Seq.{get_or-set_same, get_or-set_other}
use borrow.Author.Tests.{eq-eqb, ne_eqb}
use Rattle.connectivity.proofs.Lists.{eq-T}
use Rattle.graph.specs.Marks.{read, rank, flag, tally}

-- marks that are all 0
pub zeros : (m k : ℕ) → get_or {A = ℕ} (replicate m 0) k 0 ≡ 0
zeros zero k = refl
zeros (suc m) zero = refl
zeros (suc m) (suc k) = zeros m k

pub tally_suc : (a : ℕ → ℕ) (n : ℕ) → tally a (suc n) ≡ flag (a n) + tally a n
unfolding tally
tally_suc a n = refl

pub flag_pos : (x : ℕ) → (x ≡ 0 → ⊥) → flag x ≡ 1
unfolding flag
flag_pos zero h = absurd (h refl)
flag_pos (suc k) h = refl

pub flag_zero : {x : ℕ} → x ≡ 0 → flag x ≡ 0
unfolding flag
flag_zero q = rw q

flag_le : (x : ℕ) → flag x ≤ 1
unfolding flag
flag_le zero = omega arith
flag_le (suc k) = omega arith

pub tally_le : (a : ℕ → ℕ) (n : ℕ) → tally a n ≤ n
unfolding tally
tally_le a zero = omega arith
tally_le a (suc n) = omega (arith, tally_suc a n, flag_le (a n), tally_le a n)

pub tally_lt : (a : ℕ → ℕ) (n w : ℕ) → w < n → a w ≡ 0 → tally a n < n
tally_lt a zero w l z = absurd (omega arith)
tally_lt a (suc n) w l z =
    ⊎_elim (λ q. omega (arith, tally_suc a n, tally_le a n, flag_zero (subst (λ (x : ℕ). a x ≡ 0) q z)))
    (λ lt. omega (arith, tally_suc a n, flag_le (a n), tally_lt a n w lt z))
    (eq-or-lt_of_le (le_of_suc-le-suc l))

pub tally-same : (a b : ℕ → ℕ) (n : ℕ) → ((k : ℕ) → k < n → a k ≡ b k) → tally a n ≡ tally b n
unfolding tally
tally-same a b zero h = refl
tally-same a b (suc n) h = λ i. flag (h n (omega arith) i) + tally-same a b n (λ k l. h k (omega arith)) i

-- one more is set
pub tally_more : (a b : ℕ → ℕ) (n w : ℕ) → w < n → a w ≡ 0 → (b w ≡ 0 → ⊥) → ((v : ℕ) → (v ≡ w → ⊥) → b v ≡ a v) → tally b n ≡ tally a n + 1
tally_more a b zero w l z p o = absurd (omega arith)
tally_more a b (suc n) w l z p o =
    ⊎_elim
    (λ q. omega (
      arith,
      tally_suc a n,
      tally_suc b n,
      flag_zero (subst (λ (k : ℕ). a k ≡ 0) q z),
      flag_pos (b n) (subst (λ (k : ℕ). b k ≡ 0 → ⊥) q p),
      tally-same b a n (λ k l. o k (λ e. omega arith)),
    ))
    (λ lt. omega (arith, tally_suc a n, tally_suc b n, ap flag (o n (λ e. omega arith)), tally_more a b n w lt z p o))
    (eq-or-lt_of_le (le_of_suc-le-suc l))

pub tally-set : (a : List ℕ) (n w x : ℕ) → w < n → n ≤ length a → get_or a w 0 ≡ 0 → (x ≡ 0 → ⊥) → tally (read (set a w x)) n ≡ tally (read a) n + 1
tally-set a n w x l r z p = tally_more (read a) (read (set a w x)) n w l z (λ q. p (sym (get_or-set_same a w x 0 (omega arith)) ∙ q))
    (λ v o. get_or-set_other a w v x 0 o)

-- none is set, and all are
pub tally-none : (a : ℕ → ℕ) (n : ℕ) → ((k : ℕ) → k < n → a k ≡ 0) → tally a n ≡ 0
unfolding tally
tally-none a zero h = refl
tally-none a (suc n) h = omega (arith, tally_suc a n, flag_zero (h n (omega arith)), tally-none a n (λ k l. h k (omega arith)))

pub tally_full : (a : ℕ → ℕ) (n : ℕ) → ((k : ℕ) → k < n → a k ≡ 0 → ⊥) → tally a n ≡ n
unfolding tally
tally_full a zero h = refl
tally_full a (suc n) h = omega (arith, tally_suc a n, flag_pos (a n) (h n (omega arith)), tally_full a n (λ k l. h k (omega arith)))

-- the same as a count of numbers that pass a test
abbrev pub is_set : (ℕ → ℕ) → ℕ → Bool
is_set mark v = not (eqb (mark v) 0)

pub set_is : (mark : ℕ → ℕ) (v : ℕ) → T (is_set mark v) ↔ (mark v ≡ 0 → ⊥)
set_is mark v = (λ t z. T_not (eqb (mark v) 0) t (eq-T z), λ n. not_T (eqb (mark v) 0) (λ t. n (eqb→eq (mark v) 0 t)))

pub tally-rank : (mark : ℕ → ℕ) (n : ℕ) → tally mark n ≡ rank (is_set mark) n
unfolding tally rank
tally-rank mark zero = refl
tally-rank mark (suc n) = elim (ℕ_discrete (mark n) 0) [
  | yes z ↦ rw (eq-eqb (mark n) 0 z, flag_zero z, tally-rank mark n)
  | no h ↦ rw (ne_eqb (mark n) 0 h, flag_pos (mark n) h, tally-rank mark n)
]
