-- The places that a list names are marked, one after the other.
use mathlib.Core.Path.{◌≡◌, refl, sym, ◌∙◌}
use mathlib.Core.List.Memᴰ.{head as first}
use mathlib.Core.List.Memᴰ.{tail as later}
use mathlib.Core.List.{List, [], ◌∷◌, Memᴰ as In}
use Prim.Native.Nat.{ℕ, zero, suc, ◌+◌, ◌<◌}
use native.Mathlib.Omega.{arith}
use native.Mathlib.Decide.{ℕ_discrete}
use borrow.Author.Count.{below_more}
use lib.ListN.{length, get_or, set, length-set}
use lib.Seq.{get_or-set_same, get_or-set_other}
use Rattle.graph.specs.Excluded.{MarkedAll}

-- members by their index
pub in_index : {x : ℕ} {l : List ℕ} → In x l → (j : ℕ) × (j < length l) × (get_or l j 0 ≡ x)
in_index (first p) = (0, omega arith, sym p)
in_index (later i) = let r = in_index i in (suc r.0, omega (arith, r.1), r.2)

pub index_in : {x : ℕ} (l : List ℕ) (j : ℕ) → j < length l → get_or l j 0 ≡ x → In x l
index_in [] j l p = absurd (omega arith)
index_in (y ∷ l) zero h p = first (sym p)
index_in (y ∷ l) (suc j) h p = later (index_in l j (omega arith) p)

-- after the first i numbers of the list
pub record Marking (list marks₀ marks : List ℕ) (i : ℕ) : Type 0 where
  pub long : length marks ≡ length marks₀
  pub named : (k : ℕ) → k < length marks₀ → (j : ℕ) → j < i → get_or list j 0 ≡ k → get_or marks k 0 ≡ 1
  pub other : (k : ℕ) → ((j : ℕ) → j < i → get_or list j 0 ≡ k → ⊥) → get_or marks k 0 ≡ get_or marks₀ k 0

pub marking_start : (list marks : List ℕ) → Marking list marks marks 0
marking_start list marks = record { long = refl; named = λ k l j h. absurd (omega arith); other = λ k n. refl }

module _ {list marks₀ marks : List ℕ} {i : ℕ} (r : Marking list marks₀ marks i) where
  abbrev x : ℕ
  x = get_or list i 0

  at_x : (k : ℕ) → k < length marks₀ → k ≡ x → get_or (set marks x 1) k 0 ≡ 1
  at_x k h q = rw q (get_or-set_same marks x 1 0 (omega (arith, r.long)))

  pub marking_step : Marking list marks₀ (set marks x 1) (i + 1)
  marking_step = record {
    long = length-set marks x 1 ∙ r.long;
    named = λ k h. below_more (λ (j : ℕ). get_or list j 0 ≡ k → get_or (set marks x 1) k 0 ≡ 1) i
        (λ j l p. elim (ℕ_discrete k x) [ yes q ↦ at_x k h q | no n ↦ get_or-set_other marks x k 1 0 n ∙ r.named k h j l p ])
        (λ p. at_x k h (sym p));
    other = λ k n. get_or-set_other marks x k 1 0 (λ q. n i (omega arith) (sym q)) ∙ r.other k (λ j l. n j (omega arith));
  }

pub marking_end : {list marks₀ marks : List ℕ} {i : ℕ} → i ≡ length list → Marking list marks₀ marks i → MarkedAll list marks₀ marks
marking_end {list = list} all r = record {
  long = r.long;
  named = λ k l m. let q = in_index m in r.named k l q.0 (omega (arith, q.1)) q.2;
  other = λ k n. r.other k (λ j l p. n (index_in list j (omega arith) p));
}
