-- Sides of a graph and the edges between them: what is reached without a cut is a side, crossed by those edges of the cut that are
-- needed, and where two sides are laid over each other the edges that cross both cancel.
use mathlib.Core.Path.{◌≡◌, refl, sym, ap, ap₂, ◌∙◌, subst}
use mathlib.Core.Logic.{◌⊎◌, inl, inr}
use mathlib.Core.Bool.{Bool, true, false}
use mathlib.Core.List.Memᴰ.{cases_cons as in-cons}
use mathlib.Core.List.Memᴰ.{eq_of_singleton}
use mathlib.Core.List.Memᴰ.{head as first}
use mathlib.Core.List.{List, [], ◌∷◌, Memᴰ as In}
use Prim.Native.Nat.{ℕ}
use native.Mathlib.Decide.{ℕ_discrete}
use lib.Dec.{T, eqb}
use borrow.Author.Tests.{eq-eqb, ne_eqb}
use Rattle.connectivity.specs.Graph.{Graph, Vertex, Edge, Joins}
use Rattle.connectivity.specs.Reach.{Reach, here, over, Without}
use Rattle.connectivity.proofs.Lists.{false-T}
use Rattle.connectivity.proofs.Reach.{joins_sym, reach_trans, reach_less, closed_reach}
use Rattle.labels.proofs.CutLabels.{unlike, crossing, not_crossing, left_right}
use Rattle.connectivity.specs.Component.{joined}
use Rattle.connectivity.proofs.Together.{decides_joined, reach_dec}

-- Tests that are unlike.

pub unlike_self : (a : Bool) → unlike a a ≡ false
unlike_self true = refl
unlike_self false = refl

pub unlike_twice : (a b : Bool) → unlike a (unlike a b) ≡ b
unlike_twice true true = refl
unlike_twice true false = refl
unlike_twice false b = refl

unlike_cancel : (a b c : Bool) → unlike a b ≡ unlike a c → b ≡ c
unlike_cancel a b c p = sym (unlike_twice a b) ∙ ap (unlike a) p ∙ unlike_twice a c

unlike_false : (a b : Bool) → unlike a b ≡ false → a ≡ b
unlike_false a b p = unlike_cancel a a b (unlike_self a ∙ sym p)

unlike_middle : (a b c d : Bool) → unlike (unlike a b) (unlike c d) ≡ unlike (unlike a c) (unlike b d)
unlike_middle true true true d = refl
unlike_middle true true false d = sym (unlike_twice true d)
unlike_middle true false true d = unlike_twice true d
unlike_middle true false false d = refl
unlike_middle false true true d = refl
unlike_middle false true false d = refl
unlike_middle false false c d = refl

pub unlike_common : (a b c : Bool) → unlike (unlike a b) (unlike a c) ≡ unlike b c
unlike_common a b c = unlike_middle a b a c ∙ ap (λ t. unlike t (unlike b c)) (unlike_self a)

-- Sides.

-- a side, and of all edges those cross it that pass a test
pub record Side (g : Graph) (only : ℕ → Bool) : Type 0 where
  pub has : ℕ → Bool
  pub crossed : (x : ℕ) → Edge g x → crossing g has x ≡ only x

-- the two edges, unless they are the same
abbrev pub pair : ℕ → ℕ → ℕ → Bool
pair e d x = unlike (eqb x e) (eqb x d)

-- what is reached over edges that do not cross stays on its side
stays : {g : Graph} (side : ℕ → Bool) {live : ℕ → Type 0} → ((x : ℕ) → Edge g x → live x → crossing g side x ≡ false)
    → {u v : ℕ} → Reach g live u v → side u ≡ side v
unfolding crossing
stays {g} side {live} f {u} r = closed_reach (λ (x : ℕ). side u ≡ side x) step r refl
  where
    step : (e x y : ℕ) → live e → Joins g e x y → side u ≡ side x → side u ≡ side y
    step e x y l j p = let q = unlike_false (side (g.left e)) (side (g.right e)) (f e j.edge l) in elim j.ends [
      | inl s ↦ p ∙ ap side (sym s.0) ∙ q ∙ ap side s.1
      | inr s ↦ p ∙ ap side (sym s.1) ∙ sym q ∙ ap side s.0
    ]

pub same_side : {g : Graph} {only : ℕ → Bool} (s : Side g only) {live : ℕ → Type 0} → ((x : ℕ) → live x → only x ≡ false)
    → {u v : ℕ} → Reach g live u v → s.has u ≡ s.has v
same_side s f = stays s.has (λ x h l. s.crossed x h ∙ f x l)

-- a side with u and v on different sides of it
pub record Split (g : Graph) (only : ℕ → Bool) (u v : ℕ) : Type 0 where
  pub side : Side g only
  pub apart : side.has u ≡ side.has v → ⊥

-- the ends of an edge that crosses are on different sides
pub ends_apart : {g : Graph} {only : ℕ → Bool} (s : Side g only) {x : ℕ} → Edge g x → only x ≡ true → s.has (g.left x) ≡ s.has (g.right x) → ⊥
unfolding crossing
ends_apart {g} s {x} h p q = false-T (sym p ∙ sym (s.crossed x h) ∙ ap (λ t. unlike t (s.has (g.right x))) q ∙ unlike_self (s.has (g.right x))) tt

-- Two sides laid over each other.

crossed_overlay : (g : Graph) (a b : ℕ → Bool) (x : ℕ) → crossing g (λ y. unlike (a y) (b y)) x ≡ unlike (crossing g a x) (crossing g b x)
unfolding crossing
crossed_overlay g a b x = unlike_middle (a (g.left x)) (b (g.left x)) (a (g.right x)) (b (g.right x))

module _ {g : Graph} {p q r : ℕ → Bool} (a : Side g p) (b : Side g q) (f : (x : ℕ) → unlike (p x) (q x) ≡ r x) where
  pub overlay : Side g r
  overlay = record {
    has = λ x. unlike (a.has x) (b.has x);
    crossed = λ x h. crossed_overlay g a.has b.has x ∙ ap₂ unlike (a.crossed x h) (b.crossed x h) ∙ f x;
  }

  pub overlay_same : {u v : ℕ} → a.has u ≡ a.has v → b.has u ≡ b.has v → overlay.has u ≡ overlay.has v
  unfolding overlay
  overlay_same s t = ap₂ unlike s t

  pub overlay_other : {u v : ℕ} → a.has u ≡ a.has v → overlay.has u ≡ overlay.has v → b.has u ≡ b.has v
  unfolding overlay
  overlay_other {u} {v} s t = unlike_cancel (a.has v) (b.has u) (b.has v) (ap (λ x. unlike x (b.has u)) (sym s) ∙ t)

-- What u reaches without a cut.

module _ {g : Graph} {cut : List ℕ} (u : ℕ) where
  -- no other edge crosses
  only_cut : (x : ℕ) → Edge g x → Without cut x → crossing g (joined g cut u) x ≡ false
  only_cut x h w = not_crossing g (joined g cut u) x
      (λ t. (decides_joined g cut u h.right).test (reach_trans ((decides_joined g cut u h.left).holds t) (over x w (left_right h) here)))
      (λ t. (decides_joined g cut u h.left).test (reach_trans ((decides_joined g cut u h.right).holds t) (over x w (joins_sym (left_right h)) here)))

  module _ {v : ℕ} (hu : Vertex g u) (hv : Vertex g v) (apart : Reach g (Without cut) u v → ⊥) where
    -- u and v are on different sides
    other_side : joined g cut u u ≡ joined g cut u v → ⊥
    other_side p = apart ((decides_joined g cut u hv).holds (subst T p ((decides_joined g cut u hu).test here)))

    -- an edge crosses without which the others of the cut would leave u joined to v
    needed_crosses : (x : ℕ) {rest : List ℕ} → ((y : ℕ) → In y cut → (y ≡ x) ⊎ In y rest) → Reach g (Without rest) u v
        → crossing g (joined g cut u) x ≡ true
    needed_crosses x {rest} f r = go (crossing g (joined g cut u) x) refl
      where
        go : (t : Bool) → crossing g (joined g cut u) x ≡ t → t ≡ true
        go true p = refl
        go false p = absurd (other_side (stays (joined g cut u) (λ y h w. elim (ℕ_discrete y x) [
          | yes q ↦ ap (crossing g (joined g cut u)) q ∙ p
          | no n ↦ only_cut y h (λ i. elim (f y i) [ inl q ↦ n q | inr j ↦ w j ])
        ]) r))

-- the same edge twice is one
pub reach_twice : {g : Graph} {e d u v : ℕ} → e ≡ d → Reach g (Without (e ∷ [])) u v → Reach g (Without (e ∷ d ∷ [])) u v
reach_twice p r = reach_less (λ y i. elim (in-cons i) [ inl q ↦ first q | inr j ↦ first (eq_of_singleton j ∙ sym p) ]) r

-- an edge, or two, without which u does not reach v, and none of them can be spared: just they cross what u reaches
module _ {g : Graph} {u v : ℕ} (hu : Vertex g u) (hv : Vertex g v) where
  pub crossed_one : {e : ℕ} {cut : List ℕ} → ((y : ℕ) → In y cut → y ≡ e) → Reach g (Without []) u v → (Reach g (Without cut) u v → ⊥)
      → (x : ℕ) → Edge g x → crossing g (joined g cut u) x ≡ eqb x e
  crossed_one {e} all r n x h = elim (ℕ_discrete x e) [
    | yes p ↦ needed_crosses u hu hv n x (λ y i. inl (all y i ∙ sym p)) r ∙ sym (eq-eqb x e p)
    | no m ↦ only_cut u x h (λ i. m (all x i)) ∙ sym (ne_eqb x e m)
  ]

  pub crossed_two : {e d : ℕ} → Reach g (Without (e ∷ [])) u v → Reach g (Without (d ∷ [])) u v → (Reach g (Without (e ∷ d ∷ [])) u v → ⊥)
      → (x : ℕ) → Edge g x → crossing g (joined g (e ∷ d ∷ []) u) x ≡ pair e d x
  crossed_two {e} {d} re rd n x h = go (ℕ_discrete x e) (ℕ_discrete x d)
    where
      go : Dec (x ≡ e) → Dec (x ≡ d) → crossing g (joined g (e ∷ d ∷ []) u) x ≡ pair e d x
      go (yes p) (yes q) = absurd (n (reach_twice (sym p ∙ q) re))
      go (yes p) (no m) = rw (eq-eqb x e p, ne_eqb x d m) (needed_crosses u hu hv n x (λ y i. elim (in-cons i) [ inl q ↦ inl (q ∙ sym p) | inr j ↦ inr j ]) rd)
      go (no k) (yes q) = rw (ne_eqb x e k, eq-eqb x d q) (needed_crosses u hu hv n x (λ y i. elim (in-cons i) [ inl p ↦ inr (first {xs = []} p) | inr j ↦ inl (eq_of_singleton j ∙ sym q) ]) re)
      go (no k) (no m) = rw (ne_eqb x e k, ne_eqb x d m) (only_cut {cut = e ∷ d ∷ []} u x h (λ i. elim (in-cons i) [ inl p ↦ k p | inr j ↦ m (eq_of_singleton j) ]))

  pub split_one : {e : ℕ} {cut : List ℕ} → ((y : ℕ) → In y cut → y ≡ e) → Reach g (Without []) u v → (Reach g (Without cut) u v → ⊥) → Split g (λ x. eqb x e) u v
  split_one {cut = cut} all r n = record { side = record { has = joined g cut u; crossed = crossed_one all r n }; apart = other_side u hu hv n }

  pub split_two : {e d : ℕ} → Reach g (Without (e ∷ [])) u v → Reach g (Without (d ∷ [])) u v → (Reach g (Without (e ∷ d ∷ [])) u v → ⊥)
      → Split g (pair e d) u v
  split_two {e} {d} re rd n = record { side = record { has = joined g (e ∷ d ∷ []) u; crossed = crossed_two re rd n }; apart = other_side u hu hv n }

-- where what a root reaches without a cut is crossed by the edges of a test, and what u reaches is too if that is not v, u reaches v
-- if both are on one side of the root's
pub unparted : {g : Graph} {only : ℕ → Bool} {cut : List ℕ} (root : ℕ) → ((x : ℕ) → Edge g x → crossing g (joined g cut root) x ≡ only x) → {u v : ℕ} → Vertex g v
    → ((Reach g (Without cut) u v → ⊥) → Split g only u v) → Reach g (Without []) u v → joined g cut root u ≡ joined g cut root v → Reach g (Without cut) u v
unparted {g} {only} {cut} root crossed {u} {v} hv f r q = elim (reach_dec g cut u hv) [
  | yes t ↦ t
  | no n ↦ let s = f n in absurd (s.apart (overlay_other a s.side cancel q (same_side (overlay a s.side cancel) (λ x w. refl) r)))
]
  where
    a : Side g only
    a = record { has = joined g cut root; crossed = crossed }

    cancel : (x : ℕ) → unlike (only x) (only x) ≡ false
    cancel x = unlike_self (only x)
