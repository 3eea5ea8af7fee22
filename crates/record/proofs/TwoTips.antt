-- The tips of a link are written: it has them then, those of all other links stay, and the table is as long as before.
use Rattle.std.proofs.Common.{◌≡◌, ℕ, ◌+◌, ◌*◌, ◌≤◌, List, length, set, ◌∙◌, arith, length-set, get_or-set_other, get_or-set_same}
use Rattle.record.specs.Linking.{top_of, bottom_of, with_tips}

module _ (tips : List ℕ) (m top bottom : ℕ) where
  pub tips_length : length (with_tips tips m top bottom) ≡ length tips
  tips_length = length-set (set tips (2 * m) top) (2 * m + 1) bottom ∙ length-set tips (2 * m) top

  pub top_same : 2 * m + 2 ≤ length tips → top_of (with_tips tips m top bottom) m ≡ top
  top_same h = get_or-set_other (set tips (2 * m) top) (2 * m + 1) (2 * m) bottom 0 (λ p. omega (arith, p)) ∙ get_or-set_same tips (2 * m) top 0 (omega (arith, h))

  pub bottom_same : 2 * m + 2 ≤ length tips → bottom_of (with_tips tips m top bottom) m ≡ bottom
  bottom_same h = get_or-set_same (set tips (2 * m) top) (2 * m + 1) bottom 0 (omega (arith, h, length-set tips (2 * m) top))

  pub top_other : (k : ℕ) → (k ≡ m → ⊥) → top_of (with_tips tips m top bottom) k ≡ top_of tips k
  top_other k n =
      get_or-set_other (set tips (2 * m) top) (2 * m + 1) (2 * k) bottom 0 (λ p. omega (arith, p))
      ∙ get_or-set_other tips (2 * m) (2 * k) top 0 (λ p. n (omega (arith, p)))

  pub bottom_other : (k : ℕ) → (k ≡ m → ⊥) → bottom_of (with_tips tips m top bottom) k ≡ bottom_of tips k
  bottom_other k n =
      get_or-set_other (set tips (2 * m) top) (2 * m + 1) (2 * k + 1) bottom 0 (λ p. n (omega (arith, p)))
      ∙ get_or-set_other tips (2 * m) (2 * k + 1) top 0 (λ p. omega (arith, p))
