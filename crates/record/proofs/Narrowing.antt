-- A link looked at from both its ends: what lies above the upper one or below the lower one is done with.
use Rattle.std.proofs.Common.{◌≡◌, ℕ, suc, ◌-◌, ◌<◌, ◌≤◌, ◌⊎◌, sym, ◌∙◌, subst, inl, inr, arith}
use native.Mathlib.Decide.{ℕ_discrete}
use Rattle.connectivity.specs.Graph.{Graph}
use Rattle.tree.specs.Tree.{Pointers, Child, Above, same, Tree}
use Rattle.tree.specs.Filed.{Filed, Tips, Belows}
use Rattle.tree.proofs.Above.{above_cases, above_once, above_rank}
use Rattle.tree.proofs.Under.{link_up, link_down}

-- a and b at place m, b at or below a; S holds of what lies at m strictly above a or strictly below b
pub record Between (g : Graph) (t : Pointers) (place : ℕ → ℕ) (m : ℕ) (S : ℕ → Type 0) (a b : ℕ) : Type 0 where
  pub upper : place a ≡ m
  pub lower : place b ≡ m
  pub order : Above g t a b
  pub above : (y : ℕ) → place y ≡ m → Above g t y a → (y ≡ a → ⊥) → S y
  pub below : (y : ℕ) → place y ≡ m → Above g t b y → (y ≡ b → ⊥) → S y

-- one step down from a: to the child that is noted below it
pub record Down (g : Graph) (t : Pointers) (place below : ℕ → ℕ) (m : ℕ) (S : ℕ → Type 0) (a b : ℕ) : Type 0 where
  pub some : 1 ≤ below a
  pub next : Between g t place m S (below a - 1) b
  pub rises : t.rank a < t.rank (below a - 1)
  pub most : t.rank (below a - 1) ≤ t.rank b

-- one step up from b
pub record Up (g : Graph) (t : Pointers) (place : ℕ → ℕ) (m : ℕ) (S : ℕ → Type 0) (a b : ℕ) : Type 0 where
  pub child : Child g t b
  pub next : Between g t place m S a (t.parent b)
  pub falls : t.rank (t.parent b) < t.rank b
  pub least : t.rank a ≤ t.rank (t.parent b)

module _ {g : Graph} {t : Pointers} {B K : ℕ → Type 0} {place below : ℕ → ℕ} {m top bottom : ℕ} (tree : Tree g t)
    (f : Filed g t B K place) (h : Belows g t B place below) (tips : Tips g t place m top bottom) (large : 2 ≤ m) (S : ℕ → Type 0) where
  pub between_start : Between g t place m S top bottom
  between_start = record {
    upper = tips.has_top;
    lower = tips.has_bottom;
    order = tips.highest bottom tips.has_bottom;
    above = λ y p i n. absurd (n (above_once tree i (tips.highest y p)));
    below = λ y p i n. absurd (n (sym (above_once tree i (tips.lowest y p))));
  }

  module _ {a b : ℕ} (r : Between g t place m S a b) where
    -- of two at this place one is above the other
    line : {u v : ℕ} → place u ≡ m → place v ≡ m → Above g t u v ⊎ Above g t v u
    line {u} {v} p q = f.line u v (omega (arith, p, large)) (p ∙ sym q)

    -- where both are one, S holds of all
    pub between_all : a ≡ b → S a → (y : ℕ) → place y ≡ m → S y
    between_all e s y p = elim (ℕ_discrete y a) [
      | yes q ↦ subst S (sym q) s
      | no n ↦ elim (line p r.upper) [
        | inl i ↦ r.above y p i n
        | inr i ↦ r.below y p (subst (λ (v : ℕ). Above g t v y) e i) (λ q. n (q ∙ sym e))
      ]
    ]

    module _ (apart : a ≡ b → ⊥) where
      pub between_down : S a → Down g t place below m S a b
      between_down s = go (link_down tree f h tips large r.upper (λ e. apart (above_once tree r.order (subst (Above g t b) (sym e) (tips.lowest b r.lower)))))
        where
          order : (c : ℕ) → t.parent c ≡ a → place c ≡ m → Above g t c b
          order c p i = elim (line i r.lower) [
            | inl j ↦ j
            | inr j ↦ elim (above_cases j) [
              | inl q ↦ subst (Above g t c) (sym q) same
              | inr (_, k) ↦ absurd (apart (above_once tree r.order (subst (Above g t b) p k)))
            ]
          ]

          passed : (c : ℕ) → t.parent c ≡ a → (y : ℕ) → place y ≡ m → Above g t y c → (y ≡ c → ⊥) → S y
          passed c p y e i n = elim (above_cases i) [
            | inl q ↦ absurd (n q)
            | inr (_, j) ↦ elim (ℕ_discrete y a) [
              | yes q ↦ subst S (sym q) s
              | no o ↦ r.above y e (subst (Above g t y) p j) o
            ]
          ]

          go : (c : ℕ) × Child g t c × (t.parent c ≡ a) × (below a ≡ suc c) × (place c ≡ m) → Down g t place below m S a b
          go (c, k, p, q, i) = let e : c ≡ below a - 1 = omega (arith, q) in record {
            some = omega (arith, q);
            next = subst (λ (x : ℕ). Between g t place m S x b) e
                (record { upper = i; lower = r.lower; order = order c p i; above = passed c p; below = r.below });
            rises = subst (λ (x : ℕ). t.rank a < t.rank x) e (subst (λ (x : ℕ). t.rank x < t.rank c) p (tree.falls c k));
            most = subst (λ (x : ℕ). t.rank x ≤ t.rank b) e (above_rank tree (order c p i));
          }

      pub between_up : S b → Up g t place m S a b
      between_up s = go (link_up tree f h tips large r.lower (λ e. apart (above_once tree r.order (subst (λ (v : ℕ). Above g t v a) (sym e) (tips.highest a r.upper)))))
        where
          order : Above g t a (t.parent b)
          order = elim (above_cases r.order) [ inl q ↦ absurd (apart q) | inr (_, i) ↦ i ]

          passed : Child g t b → (y : ℕ) → place y ≡ m → Above g t (t.parent b) y → (y ≡ t.parent b → ⊥) → S y
          passed c y e i n = elim (ℕ_discrete y b) [
            | yes q ↦ subst S (sym q) s
            | no o ↦ elim (line e r.lower) [
              | inl j ↦ elim (above_cases j) [
                | inl q ↦ absurd (o q)
                | inr (_, k) ↦ absurd (n (above_once tree k i))
              ]
              | inr j ↦ r.below y e j o
            ]
          ]

          go : Child g t b × (place (t.parent b) ≡ m) → Up g t place m S a b
          go (c, i) = record {
            child = c;
            next = record { upper = r.upper; lower = i; order = order; above = r.above; below = passed c };
            falls = tree.falls b c;
            least = above_rank tree order;
          }
