-- Marks are taken back along the order: behind a search, the table is then as it was before it.
use mathlib.Core.Path.{◌≡◌, refl, sym, ap, ◌∙◌, subst}
use mathlib.Core.List.{List}
use Prim.Native.Nat.{ℕ, ◌+◌, ◌≤◌, ◌<◌}
use native.Mathlib.Omega.{arith}
use native.Mathlib.Decide.{ℕ_discrete, dec_lt}
use lib.ListN.{length, get_or, set, length-set, get_or-eq_default}
use lib.Seq.{get_or-set_same, get_or-set_other, ext_get_or}
use Rattle.graph.specs.Marks.{read}
use Rattle.depth.specs.Depth.{EnteredBy, Found, Undone}
use Rattle.depth.proofs.Entering.{entered_dec}

-- the loop: from place `from` up to i, of those in the order
pub undoing_start : (order : List ℕ) (from : ℕ) (first : List ℕ) → Undone order from from first first
undoing_start order from first = record { long = refl; gone = λ k a b l. absurd (omega arith); kept = λ v h. refl }

-- a mark that is set to 0 is 0, also behind the last
gone_here : (l : List ℕ) (v : ℕ) → get_or (set l v 0) v 0 ≡ 0
gone_here l v = elim (dec_lt v (length l)) [
  | yes b ↦ get_or-set_same l v 0 0 b
  | no b ↦ get_or-eq_default (set l v 0) 0 (omega (arith, length-set l v 0))
]

pub undoing_step : (order : List ℕ) (from i : ℕ) {before after : List ℕ} → from ≤ i → i < length order → Undone order from i before after
    → Undone order from (i + 1) before (set after (get_or order i 0) 0)
undoing_step order from i {after = after} a l u = record {
  long = length-set after (get_or order i 0) 0 ∙ u.long;
  gone = λ k b c d. elim (ℕ_discrete (get_or order k 0) (get_or order i 0)) [
    | yes q ↦ rw q (gone_here after (get_or order i 0))
    | no ne ↦ get_or-set_other after (get_or order i 0) (get_or order k 0) 0 0 ne ∙ u.gone k b (before k c ne) d
  ];
  kept = λ v h. get_or-set_other after (get_or order i 0) v 0 0 (λ q. h i a (omega arith) l (sym q)) ∙ u.kept v (λ k b c d. h k b (omega arith) d);
}
  where
    before : (k : ℕ) → k < i + 1 → (get_or order k 0 ≡ get_or order i 0 → ⊥) → k < i
    before k c ne = elim (ℕ_discrete k i) [ yes q ↦ absurd (ne (ap (read order) q)) | no h ↦ omega arith ]

-- at the end: all places that are asked for, and stand in the order
pub undoing_end : (order : List ℕ) (from to i : ℕ) {before after : List ℕ} → ((k : ℕ) → from ≤ k → k < i → k < to) → ((k : ℕ) → k < to → k < length order → k < i) → Undone order from i before after
    → Undone order from to before after
undoing_end order from to i h f u = record { long = u.long; gone = λ k a b l. u.gone k a (f k b l) l; kept = λ v g. u.kept v (λ k a b l. g k a (h k a b) l) }

-- the marks of a search, taken back along its part of the order
module _ {cross : ℕ → ℕ → ℕ → Type 0} {n root seen : ℕ} {first₀ order₀ cursor₀ first order cursor after : List ℕ} {count : ℕ}
    (f : Found cross n root seen first₀ order₀ cursor₀ first order cursor count) (room : n ≤ length order) (u : Undone order seen count first after) where
  entered_back : (v : ℕ) → EnteredBy n first₀ first v → get_or after v 0 ≡ get_or first₀ v 0
  entered_back v i = let s = f.tree.listed v i in
      subst (λ (x : ℕ). get_or after x 0 ≡ 0) s.there (u.gone s.place s.low s.high (omega (arith, s.high, f.room))) ∙ sym i.fresh

  other_back : (v : ℕ) → (EnteredBy n first₀ first v → ⊥) → get_or after v 0 ≡ get_or first₀ v 0
  other_back v h = u.kept v (λ k a b l q. h (subst (EnteredBy n first₀ first) q (f.tree.valid k a b))) ∙ f.kept v h

  pub undone_all : after ≡ first₀
  undone_all = ext_get_or 0 after first₀ (u.long ∙ f.first_long)
      (λ v l. elim (entered_dec n (read first₀) (read first) v) [ yes i ↦ entered_back v i | no h ↦ other_back v h ])
