-- A way up to its first marked vertex, while that is sought.
use Rattle.std.proofs.Common.{◌≡◌, ℕ, ◌<◌, ltb, List, length, sym, ap, ◌∙◌, inl, inr, arith, le-ltb, lt-ltb}
use Rattle.connectivity.specs.Plan.{Limits}
use Rattle.graph.specs.Marks.{read}
use Rattle.record.specs.Ways.{next_up, Rises, Toward}
use Rattle.record.proofs.Paths.{Onward, onward_at, onward_below, onward_rises, onward_step, ahead, ahead_less}

abbrev pub HeadingAll : Limits → List ℕ → List ℕ → List ℕ → ℕ → ℕ → Type 0
HeadingAll most ends first marks v at = (c : Toward most ends first marks v) → Onward c.way at

-- how many legs are left to it
abbrev pub toward : Limits → List ℕ → List ℕ → List ℕ → ℕ → ℕ
toward most ends first marks at = ahead most ends first (λ u. ltb 0 (read marks u)) at

module _ {most : Limits} {ends first marks : List ℕ} {v at : ℕ} (c : Toward most ends first marks v) (o : Onward c.way at) where
  pub heading_below : at < length marks
  heading_below = omega (arith, onward_below o, c.room)

  pub heading_end : (read marks at ≡ 0 → ⊥) → at ≡ c.to
  heading_end n = elim (onward_at o) [ inl i ↦ absurd (n (c.plain at i)) | inr p ↦ p ]

  module _ (z : read marks at ≡ 0) where
    not_there : at ≡ c.to → ⊥
    not_there p = c.met (ap (read marks) (sym p) ∙ z)

    pub heading_rises : Rises ends first at
    heading_rises = onward_rises o not_there

    pub heading_step : Onward c.way (next_up ends first at)
    heading_step = onward_step o not_there

    pub heading_less : toward most ends first marks (next_up ends first at) < toward most ends first marks at
    heading_less = ahead_less o (λ u. ltb 0 (read marks u)) (λ u i. le-ltb 0 (read marks u) (omega (arith, c.plain u i)))
        (lt-ltb 0 (read marks c.to) (omega (arith, c.met))) not_there
