-- Marks packed into words: one vertex, one word, all of them, and how many are set.
use mathlib.Core.Path.{◌≡◌, refl, sym, ap, ◌∙◌}
use mathlib.Core.Bool.{Bool, true, false, cond}
use mathlib.Core.List.{List, [], ◌∷◌}
use Prim.Native.Nat.{ℕ, zero, suc, ◌+◌, ◌-◌, ◌*◌, ◌^◌, ◌≤◌, ◌<◌}
use native.Mathlib.Omega.{arith}
use borrow.Author.Tests.{lt-ltb, le-ltb, eq-eqb, ne_eqb}
use lib.Count.{ones}
use Rattle.std.proofs.Common.{sum, map}
use Rattle.std.proofs.lemmas.Grind.{common_steps}
use lib.ListN.{length, get_or, set, drop}
use lib.Pow.{pow_mono}
use lib.Seq.{drop-cons, ext_get_or, get_or-set_same, get_or-set_other}
use borrow.Author.Count.{below_more}
use Rattle.connectivity.specs.Fallen.{per_word, marked, word_from, words_from}
use Rattle.connectivity.proofs.Fallen.{word_bound, words_length, words_at, words_bound}
use Rattle.removal.specs.Fallen.{is_unseen}

-- One vertex.

module _ (n : ℕ) (first barred : List ℕ) (v : ℕ) where
  pub unseen_behind : n ≤ v → is_unseen n first barred v ≡ false
  unfolding is_unseen
  unseen_behind h = rw (le-ltb v n h)

  pub unseen_first : v < n → (get_or first v 0 ≡ 0 → ⊥) → is_unseen n first barred v ≡ false
  unfolding is_unseen
  unseen_first l h = rw (lt-ltb v n l, ne_eqb (get_or first v 0) 0 h)

  pub unseen_barred : v < n → get_or first v 0 ≡ 0 → (get_or barred v 0 ≡ 0 → ⊥) → is_unseen n first barred v ≡ false
  unfolding is_unseen
  unseen_barred l p h = rw (lt-ltb v n l, eq-eqb (get_or first v 0) 0 p, ne_eqb (get_or barred v 0) 0 h)

  pub unseen_is : v < n → get_or first v 0 ≡ 0 → get_or barred v 0 ≡ 0 → is_unseen n first barred v ≡ true
  unfolding is_unseen
  unseen_is l p q = rw (lt-ltb v n l, eq-eqb (get_or first v 0) 0 p, eq-eqb (get_or barred v 0) 0 q)

-- One word, from its highest vertex down.

module _ (f : ℕ → Bool) where
  -- where no test holds any more, nothing is set
  pub word_none : (v k : ℕ) → ((u : ℕ) → v ≤ u → u < v + k → f u ≡ false) → word_from f v k ≡ 0
  unfolding word_from
  word_none v zero h = refl
  word_none v (suc k) h = rw (h v (omega arith) (omega arith), word_none (suc v) k (λ u l b. h u (omega arith) (omega arith)))

  pub word_next : (v end : ℕ) → 0 < v → v ≤ end → 2 * word_from f v (end - v) + cond (f (v - 1)) 1 0 ≡ word_from f (v - 1) (end - (v - 1))
  unfolding word_from
  word_next v end h l =
      let p : end - (v - 1) ≡ suc (end - v) = omega arith in
      let q : suc (v - 1) ≡ v = omega arith in
      rw (p, q)

  -- it has so many bits
  pub word_room : (v end k : ℕ) → end - v ≤ k → word_from f v (end - v) < 2 ^ k
  word_room v end k l = omega (arith, word_bound f v (end - v), pow_mono l)

  -- All words, one after the other.

  pub filled_step : {i : ℕ} (words : List ℕ) {w : ℕ} → i < length words → w ≡ word_from f (per_word * i) per_word
      → ((j : ℕ) → j < i → get_or words j 0 ≡ word_from f (per_word * j) per_word)
      → (j : ℕ) → j < i + 1 → get_or (set words i w) j 0 ≡ word_from f (per_word * j) per_word
  filled_step {i} words {w} l q done = below_more (λ (j : ℕ). get_or (set words i w) j 0 ≡ word_from f (per_word * j) per_word) i
      (λ j h. get_or-set_other words i j w 0 (λ p. omega arith) ∙ done j h)
      (get_or-set_same words i w 0 l ∙ q)

  pub filled-all : (words : List ℕ) → ((j : ℕ) → j < length words → get_or words j 0 ≡ word_from f (per_word * j) per_word) → words ≡ words_from f 0 (length words)
  filled-all words done = ext_get_or 0 words (words_from f 0 (length words)) (sym (words_length f 0 (length words)))
      (λ j l. done j l ∙ sym (words_at f 0 (length words) j l ∙ (let p : 0 + per_word * j ≡ per_word * j = omega arith in rw p)))

  -- so many words of sixty-four bits
  pub filled_room : {words : List ℕ} (k : ℕ) → words ≡ words_from f 0 k → (length words ≤ k) × ((i : ℕ) → get_or words i 0 < 2 ^ per_word)
  filled_room k q = rw q (omega (arith, words_length f 0 k), words_bound f 0 k)

-- How many are set: the sum of each word's ones.

pub marked_sum : (words : List ℕ) → marked words ≡ sum (map ones words)
unfolding marked
marked_sum [] = refl
marked_sum (w ∷ rest) = grind (arith, common_steps, marked_sum rest)

pub sum_next : (words : List ℕ) (i : ℕ) → i < length words → marked (drop i words) ≡ ones (get_or words i 0) + marked (drop (i + 1) words)
unfolding marked
sum_next words i l =
    let p : suc i ≡ i + 1 = omega arith in
    ap marked (drop-cons words i 0 l ∙ ap (λ (j : ℕ). get_or words i 0 ∷ drop j words) p)
