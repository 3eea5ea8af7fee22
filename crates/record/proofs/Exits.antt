-- What the tests of a way out of a link tell.
use Rattle.std.proofs.Common.{◌≡◌, ℕ, ◌+◌, ◌-◌, ◌<◌, ◌≤◌, sym, refl, ◌∙◌, subst, arith}
use native.Mathlib.Decide.{ℕ_discrete}
use Rattle.record.specs.Exits.{Under, Leads, away, hangs, Free}

-- The numbers below a link.

pub under_none : {number last : ℕ → ℕ} {next from to : ℕ} → next ≡ 0 → to < from → Under number last next from to
under_none z h = record { none = λ p. h; some = λ c p. absurd (omega (arith, z, p)) }

pub under_some : (number last : ℕ → ℕ) (next : ℕ) → (next ≡ 0 → ⊥) → Under number last next (number (next - 1)) (last (next - 1))
under_some number last next n = record {
  none = λ p. absurd (n p);
  some = λ c p. let q : next - 1 ≡ c = omega (arith, p) in (rw q refl, rw q refl);
}

-- The test at an edge.

-- what an edge that fails it says
pub leads_not : {place own low from to : ℕ} → (Leads place own low from to → ⊥) → (place ≡ own) × (from ≤ low → low ≤ to → ⊥)
leads_not {place} {own} n = (elim (ℕ_discrete place own) [ yes p ↦ p | no o ↦ absurd (n (away o)) ], λ a b. n (hangs a b))

-- the same test of equal numbers
pub leads_as : {place own low from to place' own' low' : ℕ} → place ≡ place' → own ≡ own' → low ≡ low' → Leads place own low from to
    → Leads place' own' low' from to
leads_as p q r (away n) = away (λ e. n (p ∙ e ∙ sym q))
leads_as p q r (hangs a b) = hangs (omega (arith, r, a)) (omega (arith, r, b))

-- The edges at a vertex: those before place k fail.

abbrev pub Failing : (ℕ → ℕ) → (ℕ → ℕ) → (ℕ → ℕ) → ℕ → (ℕ → Type 0) → ℕ → Type 0
Failing incident begins over v P k = (j : ℕ) → Free incident begins over v j → j < k → P (incident j) → ⊥

pub failing_more : (incident begins over : ℕ → ℕ) (v k : ℕ) (P : ℕ → Type 0) → Failing incident begins over v P k → (1 ≤ over (incident k) → P (incident k) → ⊥)
    → Failing incident begins over v P (k + 1)
failing_more incident begins over v k P f n j h l p = elim (ℕ_discrete j k) [
  | yes q ↦ n (subst (λ (i : ℕ). 1 ≤ over (incident i)) q h.new) (subst (λ (i : ℕ). P (incident i)) q p)
  | no m ↦ f j h (omega (arith, l, m)) p
]
