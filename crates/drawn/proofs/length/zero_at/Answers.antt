-- `zero_at` meets its contract, by its tests.
use mathlib.Core.Path.{◌≡◌, refl}
use mathlib.Core.Bool.{Bool, true, false, cond, ◌&&◌}
use Prim.Native.Nat.{ℕ, ◌≤◌, ◌<◌}
use native.Mathlib.Omega.{arith}
use lib.Dec.{ltb}
use borrow.Author.Tests.{eq-eqb, ne_eqb, lt-ltb, ltb-true}
use Rattle.drawn.specs.Line.{zero_at}
use Rattle.drawn.proofs.length.zero_at.Goals as goal

pub returns-then-worth-eq0 : goal.returns-then-worth-eq0
unfolding zero_at
returns-then-worth-eq0 c = let a = c.args in rw (eq-eqb a.worth 0 (omega arith))

-- the byte of a digit 0
shown : (unit p x : ℕ) → (p ≡ 0 → ⊥) → (x < p → p ≤ unit) → 48 ≡ zero_at unit p x
unfolding zero_at
shown unit p x some h = rw (ne_eqb p 0 some) (go (ltb unit p) refl (ltb x p) refl)
  where
    go : (s : Bool) → ltb unit p ≡ s → (t : Bool) → ltb x p ≡ t → ◌≡◌ {A = ℕ} 48 (cond (s && t) 32 48)
    go true i true j = absurd (omega (arith, ltb-true unit p i, h (ltb-true x p j)))
    go true i false j = refl
    go false i t j = refl

pub returns-then-worth-x : goal.returns-then-worth-x
returns-then-worth-x c = let a = c.args in shown 1000 a.worth a.x (λ z. omega arith) (λ h. omega arith)

pub returns-then-worth-gt-MILLIMETRE : goal.returns-then-worth-gt-MILLIMETRE
unfolding zero_at
returns-then-worth-gt-MILLIMETRE c =
    let a = c.args in
    rw (ne_eqb a.worth 0 (λ z. omega arith), lt-ltb 1000 a.worth (omega arith), lt-ltb a.x a.worth (omega arith))

pub returns : goal.returns
returns c = let a = c.args in shown 1000 a.worth a.x (λ z. omega arith) (λ h. omega arith)
