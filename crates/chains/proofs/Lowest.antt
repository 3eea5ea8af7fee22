-- The lowest edge of a chain from some edge on: no edge of the chain lies between.
use mathlib.Core.Path.{◌≡◌, refl, sym, ap, ◌∙◌}
use Prim.Native.Nat.{ℕ, zero, suc, ◌+◌, ◌-◌, ◌≤◌, ◌<◌}
use native.Mathlib.Omega.{arith}
use native.Mathlib.Decide.{ℕ_discrete}
use borrow.Author.Tests.{eq-eqb, ne_eqb}
use Rattle.chains.specs.Chains.{lowest_from, named, Lowest}

pub named_some : (m x : ℕ) → 0 < x → named m x ≡ x - 1
named_some m x h = rw (ne_eqb x 0 (λ p. omega arith))

module _ (key : ℕ → ℕ) (i : ℕ) where
  pub lowest_none : (e : ℕ) → lowest_from key i e 0 ≡ 0
  unfolding lowest_from
  lowest_none e = refl

  pub lowest_yes : (e m : ℕ) → e < m → key e ≡ i → lowest_from key i e (m - e) ≡ e + 1
  unfolding lowest_from
  lowest_yes e m h p =
      let q : m - e ≡ suc (m - (e + 1)) = omega arith in
      let z : suc e ≡ e + 1 = omega arith in
      ap (lowest_from key i e) q ∙ rw (eq-eqb (key e) i p) z

  pub lowest_no : (e m : ℕ) → e < m → (key e ≡ i → ⊥) → lowest_from key i e (m - e) ≡ lowest_from key i (e + 1) (m - (e + 1))
  unfolding lowest_from
  lowest_no e m h p =
      let q : m - e ≡ suc (m - (e + 1)) = omega arith in
      let z : suc e ≡ e + 1 = omega arith in
      ap (lowest_from key i e) q ∙ rw (ne_eqb (key e) i p) (ap (λ (d : ℕ). lowest_from key i d (m - (e + 1))) z)

  module _ (m : ℕ) where
    go : (more e : ℕ) → e + more ≡ m → Lowest key i e m (lowest_from key i e (m - e))
    go zero e p =
        let q : m - e ≡ 0 = omega arith in
        rw (q, lowest_none e) (record { inside = omega arith; on = λ h. absurd (omega arith); low = omega arith; between = λ d h l. absurd (omega arith) })
    go (suc more) e p = elim (ℕ_discrete (key e) i) [
      | yes y ↦
          let s : named m (e + 1) ≡ e = named_some m (e + 1) (omega arith) ∙ omega arith in
          rw (lowest_yes e m (omega arith) y) (record {
            inside = omega arith;
            on = λ h. let z : e + 1 - 1 ≡ e = omega arith in ap key z ∙ y;
            low = omega (arith, s);
            between = λ d h l. absurd (omega (arith, s));
          })
      | no n ↦ rw (lowest_no e m (omega arith) n) (wider e n (go more (e + 1) (omega arith)))
    ]
      where
        wider : {x : ℕ} (e : ℕ) → (key e ≡ i → ⊥) → Lowest key i (e + 1) m x → Lowest key i e m x
        wider e n l = record {
          inside = l.inside;
          on = l.on;
          low = omega (arith, l.low);
          between = λ d h b. elim (ℕ_discrete d e) [ yes q ↦ λ k. n (ap key (sym q) ∙ k) | no q ↦ l.between d (omega arith) b ];
        }

    pub lowest_is : (e : ℕ) → e ≤ m → Lowest key i e m (lowest_from key i e (m - e))
    lowest_is e h = go (m - e) e (omega arith)
