-- Along a link, and which steps from it end below it: those whose edge comes from below the built child of its bottom.
use mathlib.Core.Path.{◌≡◌, sym, ◌∙◌, subst}
use mathlib.Core.Logic.{inl, inr}
use mathlib.Core.List.{List}
use Prim.Native.Nat.{ℕ, suc, ◌≤◌}
use native.Mathlib.Omega.{arith}
use native.Mathlib.Decide.{ℕ_discrete}
use Rattle.connectivity.specs.Graph.{Graph}
use Rattle.connectivity.specs.Walk.{Leg}
use Rattle.tree.specs.Tree.{Pointers, Child, Above, same, higher, Tree, Climb}
use Rattle.tree.specs.Filed.{Filed, Tips, Belows}
use Rattle.tree.proofs.Above.{same_suc, above_trans, above_cases, above_child, not_over, UpClosed, up_closed, climb_to, climb_end, climb_above, climb_below, climb_last}

module _ {g : Graph} {t : Pointers} {B K : ℕ → Type 0} {place below : ℕ → ℕ} {m top bottom : ℕ} (tree : Tree g t)
    (f : Filed g t B K place) (h : Belows g t B place below) (tips : Tips g t place m top bottom) (large : 2 ≤ m) where
  -- Along the link: from a vertex that is not its top to its parent, from one that is not its bottom to the child that is noted.

  pub link_up : {y : ℕ} → place y ≡ m → (y ≡ top → ⊥) → Child g t y × (place (t.parent y) ≡ m)
  link_up {y} e n = elim (above_cases (tips.highest y e)) [
    | inl p ↦ absurd (n (sym p))
    | inr (c, a) ↦ (c, f.between top (t.parent y) y a (higher c same) (omega (arith, tips.has_top, large)) (tips.has_top ∙ sym e) ∙ tips.has_top)
  ]

  pub link_down : {y : ℕ} → place y ≡ m → (y ≡ bottom → ⊥) → (c : ℕ) × Child g t c × (t.parent c ≡ y) × (below y ≡ suc c) × (place c ≡ m)
  link_down {y} e n = elim (above_child (tips.lowest y e)) [
    | inl p ↦ absurd (n (sym p))
    | inr (c, k, p, a) ↦
        let inside : place c ≡ m = f.between y c bottom (higher k (subst (Above g t y) (sym p) same)) a (omega (arith, e, large)) (e ∙ sym tips.has_bottom) ∙ e in
        (c, k, p, noted k (f.built c (omega (arith, inside, large))) p e, inside)
  ]
    where
      noted : {c : ℕ} → Child g t c → B c → t.parent c ≡ y → place y ≡ m → below y ≡ suc c
      noted {c} k b p e = subst (λ (v : ℕ). below v ≡ suc c) p (h.only c k b (subst (λ (v : ℕ). 2 ≤ place v) (sym p) (omega (arith, e, large))))

module _ {g : Graph} {t : Pointers} {B K : ℕ → Type 0} {place below : ℕ → ℕ} {m top bottom : ℕ} (tree : Tree g t) (up : UpClosed g t B)
    (f : Filed g t B K place) (h : Belows g t B place below) (tips : Tips g t place m top bottom) (large : 2 ≤ m) where
  -- a built child, not in the link, of a vertex in it hangs on its bottom
  at_bottom : {c y : ℕ} → Child g t c → B c → t.parent c ≡ y → place y ≡ m → (place c ≡ m → ⊥) → y ≡ bottom
  at_bottom {c} {y} k b p e n = elim (ℕ_discrete y bottom) [
    | yes q ↦ q
    | no o ↦
        let (d, _, _, in-d, inside) = link_down tree f h tips large e o in
        let in_c : below y ≡ suc c = subst (λ (v : ℕ). below v ≡ suc c) p (h.only c k b (subst (λ (v : ℕ). 2 ≤ place v) (sym p) (omega (arith, e, large)))) in
        absurd (n (subst (λ (v : ℕ). place v ≡ m) (same_suc (sym in-d ∙ in_c)) inside))
  ]

  module _ {s w x : ℕ} {legs : List Leg} (a : Above g t s w) (e : place s ≡ m) (k : Climb g t B w legs x) where
    -- a step from the link that ends outside it comes from below
    pub ends_below : (place x ≡ m → ⊥) → (c : ℕ) × (below bottom ≡ suc c) × Above g t c w
    ends_below n =
        let sx : Above g t s x = climb_below k a (f.built s (omega (arith, e, large))) in
        let (rest, y, l) = climb_to (λ v. ℕ_discrete (place v) m) sx e in
        let c = climb_last n l in
        let b : B c.at = up_closed up c.above (climb_end k) in
        let q : y ≡ bottom = at_bottom c.child b c.leads (climb_end l) c.new in
        let p : t.parent c.at ≡ bottom = c.leads ∙ q in (
          c.at,
          subst (λ (v : ℕ). below v ≡ suc c.at) p (h.only c.at c.child b
              (subst (λ (v : ℕ). 2 ≤ place v) (sym p) (omega (arith, tips.has_bottom, large)))),
          above_trans c.above (climb_above k),
        )

    -- and one that comes from below ends outside it
    pub from_below : {c : ℕ} → below bottom ≡ suc c → Above g t c w → place x ≡ m → ⊥
    from_below {c} q b i = let (child, p, built) = h.child bottom c q in
        not_over tree child (subst (Above g t c) (sym p) (above_trans (climb_below k b built) (tips.lowest x i)))
