-- Cut pairs: the tests at an edge's ends that tell them, what follows where two have an edge in common, and that two edges which part
-- two vertices only together are one.
use mathlib.Core.Path.{◌≡◌, refl, ap₂, subst}
use mathlib.Core.Logic.{◌⊎◌, inl, inr}
use mathlib.Core.Bool.{false}
use mathlib.Core.List.Memᴰ.{cases_cons as in-cons}
use mathlib.Core.List.Memᴰ.{eq_of_singleton}
use mathlib.Core.List.Memᴰ.{head as first}
use mathlib.Core.List.Memᴰ.{not-nil as not_in}
use mathlib.Core.List.Memᴰ.{tail as later}
use mathlib.Core.List.{List, [], ◌∷◌, Memᴰ as In}
use Prim.Native.Nat.{ℕ}
use native.Mathlib.Decide.{ℕ_discrete}
use lib.Dec.{eqb}
use borrow.Author.Tests.{eq-eqb, ne_eqb}
use Rattle.connectivity.specs.Graph.{Graph, Vertex, Edge, Joins}
use Rattle.connectivity.specs.Reach.{Reach, here, over, Without}
use Rattle.connectivity.proofs.Reach.{reach_sym, reach_trans, reach_less, reach_edges}
use Rattle.labels.proofs.CutLabels.{unlike, left_right}
use Rattle.labels.specs.Label.{Keeps}
use Rattle.components.specs.Pair.{CutPair}
use Rattle.connectivity.proofs.Together.{reach_dec}
use Rattle.components.proofs.Side.{Side, Split, pair, same_side, overlay, split_one, split_two, overlay_same, overlay_other, ends_apart, unlike_self, unlike_twice, unlike_common, reach_twice}

-- Lists of one and two edges.

turned : {x e d : ℕ} → In x (e ∷ d ∷ []) → In x (d ∷ e ∷ [])
turned i = elim (in-cons i) [ inl p ↦ later (first p) | inr j ↦ first (eq_of_singleton j) ]

pub reach_turned : {g : Graph} {e d u v : ℕ} → Reach g (Without (e ∷ d ∷ [])) u v → Reach g (Without (d ∷ e ∷ [])) u v
reach_turned r = reach_less (λ x i. turned i) r

pair_none : (e d x : ℕ) → Without (e ∷ d ∷ []) x → pair e d x ≡ false
pair_none e d x w = ap₂ unlike (ne_eqb x e (λ p. w (first p))) (ne_eqb x d (λ p. w (later (first p))))

-- An edge's ends, and what is reached between them.

module _ {g : Graph} {e : ℕ} (h : Edge g e) where
  pub across : Reach g (Without []) (g.left e) (g.right e)
  across = over e (λ i. not_in i) (left_right h) here

  -- a way round an edge serves for it
  pub detour : {rest : List ℕ} → Reach g (Without (e ∷ rest)) (g.left e) (g.right e)
      → {x y : ℕ} → Reach g (Without rest) x y → Reach g (Without (e ∷ rest)) x y
  detour r here = here
  detour {rest} r (over {u} {v} d l j p) = elim (ℕ_discrete d e) [
    | yes q ↦ reach_trans (round (subst (λ (z : ℕ). Joins g z u v) q j).ends) (detour r p)
    | no n ↦ over d (λ i. elim (in-cons i) [ inl q ↦ n q | inr k ↦ l k ]) j (detour r p)
  ]
    where
      round : ((g.left e ≡ u) × (g.right e ≡ v)) ⊎ ((g.left e ≡ v) × (g.right e ≡ u)) → Reach g (Without (e ∷ rest)) u v
      round (inl s) = rw (← s.0, ← s.1) r
      round (inr s) = rw (← s.0, ← s.1) (reach_sym r)

  -- an edge parts nothing alone where its ends stay joined, and two that part nothing alone are a cut pair where they part the ends of one
  pub keeps_one : Reach g (Without (e ∷ [])) (g.left e) (g.right e) → Keeps g (e ∷ [])
  keeps_one r x y w = detour r w

  pub cut_pair : {d : ℕ} → Edge g d → Keeps g (e ∷ []) → Keeps g (d ∷ []) → (Reach g (Without (e ∷ d ∷ [])) (g.left e) (g.right e) → ⊥) → CutPair g e d
  cut_pair k we wd n = record { one = h; other = k; without_one = we; without_other = wd; parts = λ f. n (f (g.left e) (g.right e) across) }

pub pair_sym : {g : Graph} {e d : ℕ} → CutPair g e d → CutPair g d e
pair_sym c = record {
  one = c.other;
  other = c.one;
  without_one = c.without_other;
  without_other = c.without_one;
  parts = λ f. c.parts (λ x y r. reach_turned (f x y r));
}

pub pair_differ : {g : Graph} {e d : ℕ} → CutPair g e d → e ≡ d → ⊥
pair_differ c p = c.parts (λ x y r. reach_twice p (c.without_one x y r))

-- what is no edge parts nothing
pub keeps_none : {g : Graph} {e : ℕ} → (Edge g e → ⊥) → Keeps g (e ∷ [])
keeps_none {g} n x y r = reach_edges (λ d u v j l i. n (subst (Edge g) (eq_of_singleton i) j.edge)) r

-- Cut pairs with an edge in common.

-- a side that just the two edges cross
pub pair_side : {g : Graph} {e d : ℕ} → CutPair g e d → Side g (pair e d)
pair_side {g} {e} {d} c = (split_two c.one.left c.one.right
    (c.without_one (g.left e) (g.right e) (across c.one))
    (c.without_other (g.left e) (g.right e) (across c.one))
    (λ r. c.parts (λ x y w. detour c.one r (c.without_other x y w)))).side

module _ {g : Graph} {r e d : ℕ} (p : CutPair g r e) (q : CutPair g r d) where
  -- the edge in common crosses the sides of both, so that just the other two cross one laid over the other
  common : (x : ℕ) → unlike (pair r e x) (pair r d x) ≡ pair e d x
  common x = unlike_common (eqb x r) (eqb x e) (eqb x d)

  others : Side g (pair e d)
  others = overlay (pair_side p) (pair_side q) common

  -- if neither cut pair with r parts u from v, the other two edges do not either
  pub common_joined : {u v : ℕ} → Vertex g u → Vertex g v → Reach g (Without (e ∷ [])) u v → Reach g (Without (d ∷ [])) u v
      → Reach g (Without (r ∷ e ∷ [])) u v → Reach g (Without (r ∷ d ∷ [])) u v → Reach g (Without (e ∷ d ∷ [])) u v
  unfolding others
  common_joined {u} {v} hu hv re rd rre rrd = elim (reach_dec g (e ∷ d ∷ []) u hv) [
    | yes t ↦ t
    | no n ↦ absurd (refuted (split_two hu hv re rd n))
  ]
    where
      cancel : (x : ℕ) → unlike (pair e d x) (pair e d x) ≡ false
      cancel x = unlike_self (pair e d x)

      refuted : Split g (pair e d) u v → ⊥
      refuted s = s.apart (overlay_other others s.side cancel
          (overlay_same (pair_side p) (pair_side q) common (same_side (pair_side p) (pair_none r e) rre) (same_side (pair_side q) (pair_none r d) rrd))
          (same_side (overlay others s.side cancel) (λ x w. refl) re))

  -- and they are a cut pair themselves
  pub pair_trans : (e ≡ d → ⊥) → CutPair g e d
  pair_trans n = cut_pair p.other q.other p.without_other q.without_other
      (λ w. ends_apart others p.other (ap₂ unlike (eq-eqb e e refl) (ne_eqb e d n)) (same_side others (pair_none e d) w))

-- Two edges that part u from v only together are a cut pair.

module _ {g : Graph} {u v : ℕ} (hu : Vertex g u) (hv : Vertex g v) where
  apart_keeps : {e d : ℕ} → Edge g e → Reach g (Without (e ∷ [])) u v → Reach g (Without (d ∷ [])) u v
      → (Reach g (Without (e ∷ d ∷ [])) u v → ⊥) → Keeps g (e ∷ [])
  apart_keeps {e} {d} h re rd n = elim (reach_dec g (e ∷ []) (g.left e) h.right) [
    | yes t ↦ keeps_one h t
    | no m ↦ absurd (refuted (split_two hu hv re rd n) (split_one h.left h.right (λ y i. eq_of_singleton i) (across h) m).side)
  ]
    where
      rest : (x : ℕ) → unlike (eqb x e) (pair e d x) ≡ eqb x d
      rest x = unlike_twice (eqb x e) (eqb x d)

      refuted : Split g (pair e d) u v → Side g (λ x. eqb x e) → ⊥
      refuted s b = s.apart (overlay_other b s.side rest
          (same_side b (λ x w. ne_eqb x e (λ p. w (first p))) re)
          (same_side (overlay b s.side rest) (λ x w. ne_eqb x d (λ p. w (first p))) rd))

  pub apart_pair : {e d : ℕ} → Edge g e → Edge g d → Reach g (Without (e ∷ [])) u v → Reach g (Without (d ∷ [])) u v
      → (Reach g (Without (e ∷ d ∷ [])) u v → ⊥) → CutPair g e d
  apart_pair {e} {d} h k re rd n = record {
    one = h;
    other = k;
    without_one = apart_keeps h re rd n;
    without_other = apart_keeps k rd re (λ r. n (reach_turned r));
    parts = λ f. n (f u v (reach_less (λ x i. absurd (not_in i)) re));
  }
