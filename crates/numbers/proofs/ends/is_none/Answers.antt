-- `is_none` meets its contract.
use mathlib.Core.Path.{refl}
use borrow.Author.Tests.{eq-eqb, ne_eqb}
use Rattle.numbers.specs.Tables.{is_none}
use Rattle.numbers.proofs.ends.is_none.Goals as goal

pub returns-then-x-eq0 : goal.returns-then-x-eq0
unfolding is_none
returns-then-x-eq0 c = rw (eq-eqb _ _ c.if-x-eq0.true) refl

pub returns : goal.returns
unfolding is_none
returns c = rw (ne_eqb _ _ c.if-x-eq0.false) refl
