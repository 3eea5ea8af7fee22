-- `byte_at` meets its contract, by its two tests.
use mathlib.Core.Path.{◌≡◌, refl, sym, ◌∙◌}
use mathlib.Core.Bool.{Bool, true, false, cond, ◌&&◌}
use Prim.Native.Nat.{ℕ, ◌+◌, ◌/◌, ◌%◌, ◌≤◌}
use native.Mathlib.Omega.{arith}
use lib.Dec.{ltb}
use borrow.Author.Tests.{lt-ltb, le-ltb}
use Rattle.text.specs.Column.{byte_at}
use Rattle.text.proofs.byte_at.Goals as goal

shown : (p x : ℕ) → p ≤ x → byte_at p x ≡ 48 + x / p % 10
unfolding byte_at
shown p x h = rw (le-ltb x p h) (go (ltb 1 p))
  where
    go : (t : Bool) → cond (t && false) 32 (48 + x / p % 10) ≡ 48 + x / p % 10
    go true = refl
    go false = refl

last : (p x : ℕ) → p ≤ 1 → byte_at p x ≡ 48 + x / p % 10
unfolding byte_at
last p x h = rw (le-ltb 1 p h)

pub returns-then-worth-x : goal.returns-then-worth-x
returns-then-worth-x c = let a = c.args in c.digit_byte.ensures ∙ sym (shown a.worth a.x c.if-worth-x.true)

pub returns-then-worth-gt1 : goal.returns-then-worth-gt1
unfolding byte_at
returns-then-worth-gt1 c = let a = c.args in rw (lt-ltb 1 a.worth (omega arith), lt-ltb a.x a.worth (omega arith))

pub returns : goal.returns
returns c = let a = c.args in c.digit_byte-2.ensures ∙ sym (last a.worth a.x (omega arith))
