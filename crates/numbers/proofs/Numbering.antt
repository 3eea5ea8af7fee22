-- Numbers along the order, place by place: where that has each vertex once, the number of a vertex is its place.
use mathlib.Core.Path.{◌≡◌, refl, sym, ap, subst, ◌∙◌}
use mathlib.Core.List.{List}
use Prim.Native.Nat.{ℕ, zero, suc, ◌+◌, ◌≤◌, ◌<◌}
use native.Mathlib.Omega.{arith}
use native.Mathlib.Decide.{ℕ_discrete}
use borrow.Author.Tests.{lt-ltb, le-ltb}
use lib.ListN.{length, set}
use lib.Seq.{get_or-set_same, get_or-set_other}
use Rattle.graph.specs.Marks.{read}
use Rattle.numbers.specs.Tables.{numbers_to}
use Rattle.numbers.specs.Standing.{Ordering}
use Rattle.numbers.proofs.Lengths.{numbers_long}

module _ (n : ℕ) (order table : List ℕ) where
  pub numbers-none : numbers_to n order table 0 ≡ table
  unfolding numbers_to
  numbers-none = refl

  after : (k : ℕ) → read order k < n → numbers_to n order table (suc k) ≡ set (numbers_to n order table k) (read order k) k
  unfolding numbers_to
  after k h = rw (lt-ltb (read order k) n h)

  after_none : (k : ℕ) → n ≤ read order k → numbers_to n order table (suc k) ≡ numbers_to n order table k
  unfolding numbers_to
  after_none k h = rw (le-ltb (read order k) n h)

  next : (k : ℕ) → numbers_to n order table (k + 1) ≡ numbers_to n order table (suc k)
  next k = ap (numbers_to n order table) (omega arith)

  -- one place more, where a vertex stands there, and where none does
  pub numbers_next : (k : ℕ) {now then : List ℕ} → read order k < n → now ≡ numbers_to n order table k → then ≡ set now (read order k) k → then ≡ numbers_to n order table (k + 1)
  numbers_next k h p q = q ∙ ap (λ (t : List ℕ). set t (read order k) k) p ∙ sym (after k h) ∙ sym (next k)

  pub numbers-same : (k : ℕ) {now then : List ℕ} → n ≤ read order k → now ≡ numbers_to n order table k → then ≡ now → then ≡ numbers_to n order table (k + 1)
  numbers-same k h p q = q ∙ p ∙ sym (after_none k h) ∙ sym (next k)

  -- each of the first k vertices has its place
  pub numbers_are : Ordering n order → n ≤ length table → (k : ℕ) → k ≤ n → (j : ℕ) → j < k → read (numbers_to n order table k) (read order j) ≡ j
  numbers_are o l zero h j b = absurd (omega arith)
  numbers_are o l (suc k) h j b = subst (λ (t : List ℕ). read t (read order j) ≡ j) (sym (after k (o.valid k (omega arith)))) (elim (ℕ_discrete j k) [
    | yes q ↦ subst (λ (i : ℕ). read (set (numbers_to n order table k) (read order k) k) (read order i) ≡ i) (sym q)
        (get_or-set_same (numbers_to n order table k) (read order k) k 0 (omega (arith, numbers_long n order table k, o.valid k (omega arith))))
    | no q ↦ get_or-set_other (numbers_to n order table k) (read order k) (read order j) k 0 (o.once j k (omega arith) (omega arith))
        ∙ numbers_are o l k (omega arith) j (omega arith)
  ])
