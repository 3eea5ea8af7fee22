-- The excluded vertices, put behind what a search has seen, one after the other.
use mathlib.Core.Path.{◌≡◌, refl, sym, ◌∙◌, subst}
use mathlib.Core.List.{List}
use Prim.Native.Nat.{ℕ, ◌+◌, ◌≤◌, ◌<◌}
use native.Mathlib.Omega.{arith}
use native.Mathlib.Decide.{ℕ_discrete}
use borrow.Author.Count.{below_more}
use lib.ListN.{length, get_or, set, length-set}
use lib.Seq.{get_or-set_same, get_or-set_other}
use Rattle.graph.proofs.Marking.{in_index, index_in}
use Rattle.depth.specs.Depth.{root_mark}
use Rattle.depth.specs.Forest.{Appended}

-- after the first i of them
pub record Added (excluded : List ℕ) (count : ℕ) (first₀ order₀ first order : List ℕ) (i : ℕ) : Type 0 where
  pub first_long : length first ≡ length first₀
  pub order_long : length order ≡ length order₀
  pub before : (k : ℕ) → k < count → get_or order k 0 ≡ get_or order₀ k 0
  pub behind : (j : ℕ) → j < i → get_or order (count + j) 0 ≡ get_or excluded j 0
  pub after : (k : ℕ) → count + i ≤ k → get_or order k 0 ≡ get_or order₀ k 0
  pub roots : (j : ℕ) → j < i → get_or first (get_or excluded j 0) 0 ≡ root_mark
  pub others : (v : ℕ) → ((j : ℕ) → j < i → get_or excluded j 0 ≡ v → ⊥) → get_or first v 0 ≡ get_or first₀ v 0

pub added_start : (excluded : List ℕ) (count : ℕ) (first order : List ℕ) → Added excluded count first order first order 0
added_start excluded count first order = record {
  first_long = refl;
  order_long = refl;
  before = λ k l. refl;
  behind = λ j l. absurd (omega arith);
  after = λ k l. refl;
  roots = λ j l. absurd (omega arith);
  others = λ v n. refl;
}

module _ {excluded : List ℕ} {count : ℕ} {first₀ order₀ first order : List ℕ} {i : ℕ} (a : Added excluded count first₀ order₀ first order i) where
  abbrev v : ℕ
  v = get_or excluded i 0

  pub added_step : v < length first₀ → count + i < length order₀ → Added excluded count first₀ order₀ (set first v root_mark) (set order (count + i) v) (i + 1)
  added_step h l = record {
    first_long = length-set first v root_mark ∙ a.first_long;
    order_long = length-set order (count + i) v ∙ a.order_long;
    before = λ k b. get_or-set_other order (count + i) k v 0 (λ q. omega arith) ∙ a.before k b;
    behind = below_more (λ (j : ℕ). get_or (set order (count + i) v) (count + j) 0 ≡ get_or excluded j 0) i
        (λ j b. get_or-set_other order (count + i) (count + j) v 0 (λ q. omega arith) ∙ a.behind j b)
        (get_or-set_same order (count + i) v 0 (omega (arith, a.order_long)));
    after = λ k b. get_or-set_other order (count + i) k v 0 (λ q. omega arith) ∙ a.after k (omega arith);
    roots = below_more (λ (j : ℕ). get_or (set first v root_mark) (get_or excluded j 0) 0 ≡ root_mark) i (λ j b. old (get_or excluded j 0) (a.roots j b)) here;
    others = λ w n. get_or-set_other first v w root_mark 0 (λ q. n i (omega arith) (sym q)) ∙ a.others w (λ j b. n j (omega arith));
  }
    where
      here : get_or (set first v root_mark) v 0 ≡ root_mark
      here = get_or-set_same first v root_mark 0 (omega (arith, a.first_long))

      old : (w : ℕ) → get_or first w 0 ≡ root_mark → get_or (set first v root_mark) w 0 ≡ root_mark
      old w q = elim (ℕ_discrete w v) [ yes e ↦ subst (λ (x : ℕ). get_or (set first v root_mark) x 0 ≡ root_mark) (sym e) here | no n ↦ get_or-set_other first v w root_mark 0 n ∙ q ]

pub added_end : {excluded : List ℕ} {count : ℕ} {first₀ order₀ first order : List ℕ} {i : ℕ} → i ≡ length excluded → Added excluded count first₀ order₀ first order i → Appended excluded count first₀ order₀ first order
added_end {excluded} {first = first} q a = record {
  first_long = a.first_long;
  order_long = a.order_long;
  before = a.before;
  behind = λ j b. a.behind j (omega arith);
  after = λ k b. a.after k (omega arith);
  roots = λ w m. let s = in_index m in subst (λ (x : ℕ). get_or first x 0 ≡ root_mark) s.2 (a.roots s.0 (omega (arith, s.1)));
  others = λ w n. a.others w (λ j b e. n (index_in excluded j (omega arith) e));
}
