-- One cut of two for each edge is enough: the lowest edge that it is a cut pair with tells what holds together, and how a scan in ascending
-- order finds it.
use mathlib.Core.Path.{◌≡◌, refl, sym, ◌∙◌, subst}
use mathlib.Core.Logic.{◌⊎◌, inl, inr}
use mathlib.Core.List.{[], ◌∷◌}
use Prim.Native.Nat.{ℕ, ◌≤◌, ◌<◌}
use native.Mathlib.Omega.{arith}
use native.Mathlib.Decide.{ℕ_discrete, dec_le}
use Rattle.connectivity.specs.Graph.{Graph, Vertex, Edge}
use Rattle.connectivity.specs.Reach.{Reach, Without}
use Rattle.connectivity.specs.Component.{Together}
use Rattle.connectivity.proofs.Together.{reach_dec, together_by}
use Rattle.components.specs.Pair.{CutPair, LowestPair}
use Rattle.components.proofs.Pair.{reach_turned, pair_sym, pair_differ, pair_trans, common_joined, apart_pair}

-- The lowest edges.

lowest_below : {g : Graph} {e d a b : ℕ} → LowestPair g e a → LowestPair g d b → CutPair g e d → a ≤ b
lowest_below {e = e} {d = d} {b = b} m k c = elim k.pair [
  | inl q ↦ omega (arith, m.lowest d (pair_sym c))
  | inr q ↦ elim (ℕ_discrete b e) [ yes s ↦ omega (arith, m.own) | no n ↦ m.lowest b (pair_trans (pair_sym q) (pair_sym c) n) ]
]

-- a cut pair has the same one
lowest_same : {g : Graph} {e d a b : ℕ} → LowestPair g e a → LowestPair g d b → CutPair g e d → a ≡ b
lowest_same m k c = omega (arith, lowest_below m k c, lowest_below k m (pair_sym c))

-- an edge has itself where it is a cut pair with none that is lower
pub lowest_self : {g : Graph} {e : ℕ} → ((r : ℕ) → r < e → CutPair g r e → ⊥) → LowestPair g e e
lowest_self {e = e} none = record {
  pair = inl refl;
  own = omega arith;
  lowest = λ d c. elim (dec_le e d) [ yes l ↦ l | no n ↦ absurd (none d (omega arith) c) ];
}

-- and where it is a cut pair with an earlier one that has itself, that one
pub lowest_found : {g : Graph} {e r : ℕ} → LowestPair g r r → r ≤ e → CutPair g r e → LowestPair g e r
lowest_found {r = r} m l c = record {
  pair = inr c;
  own = l;
  lowest = λ d k. elim (ℕ_discrete d r) [ yes q ↦ omega arith | no n ↦ m.lowest d (pair_trans (pair_sym k) (pair_sym c) n) ];
}

-- What holds together.

-- u reaches v without e and the lowest edge that it is a cut pair with
pub record Starred (g : Graph) (u v e : ℕ) : Type 0 where
  pub with_edge : ℕ
  pub lowest : LowestPair g e with_edge
  pub reach : (with_edge ≡ e → ⊥) → Reach g (Without (with_edge ∷ e ∷ [])) u v

-- u reaches v after no loss, that of each edge, and that of each edge with the lowest that it is a cut pair with
pub record Told (g : Graph) (u v : ℕ) : Type 0 where
  pub whole : Reach g (Without []) u v
  pub one : (e : ℕ) → Edge g e → Reach g (Without (e ∷ [])) u v
  pub two : (e : ℕ) → Edge g e → Starred g u v e

module _ {g : Graph} {u v : ℕ} (hu : Vertex g u) (hv : Vertex g v) (t : Told g u v) where
  told_two : (e d : ℕ) → Edge g e → Edge g d → e < d → Reach g (Without (e ∷ d ∷ [])) u v
  told_two e d h k l = elim (reach_dec g (e ∷ d ∷ []) u hv) [
    | yes r ↦ r
    | no n ↦ let a = t.two e h in let b = t.two d k in
        go a b (lowest_same a.lowest b.lowest (apart_pair hu hv h k (t.one e h) (t.one d k) n)) a.lowest.pair b.lowest.pair
  ]
    where
      go : (a : Starred g u v e) (b : Starred g u v d) → a.with_edge ≡ b.with_edge → (a.with_edge ≡ e) ⊎ CutPair g a.with_edge e → (b.with_edge ≡ d) ⊎ CutPair g b.with_edge d
          → Reach g (Without (e ∷ d ∷ [])) u v
      go a b p (inl q) y = subst (λ (x : ℕ). Reach g (Without (x ∷ d ∷ [])) u v) (sym p ∙ q) (b.reach (λ m. omega arith))
      go a b p (inr x) (inl q) = reach_turned (subst (λ (x : ℕ). Reach g (Without (x ∷ e ∷ [])) u v) (p ∙ q) (a.reach (λ m. omega arith)))
      go a b p (inr x) (inr y) = common_joined x (rw p y) hu hv (t.one e h) (t.one d k) (a.reach (pair_differ x)) (rw p (b.reach (pair_differ y)))

  -- star pairs are enough
  pub told-together : Together g u v
  told-together = together_by t.whole t.one told_two
