-- `mark` meets its contract: no vertex, no edge, or the mark.
use mathlib.Core.Path.{refl}
use borrow.Author.Tests.{lt-ltb, le-ltb, le-leb, lt-leb}
use native.Mathlib.Omega.{arith}
use Rattle.numbers.specs.Tables.{mark_of}
use Rattle.numbers.proofs.ends.mark.Goals as goal

pub returns-then-vertices-v : goal.returns-then-vertices-v
unfolding mark_of
returns-then-vertices-v c = rw (le-leb _ _ c.if-vertices-v.true) refl

pub overflow_cast-t-2 : goal.overflow_cast-t-2
overflow_cast-t-2 c = omega (arith, c.shared_slice_known-1.given c.args.v)

pub returns-then-edges-t : goal.returns-then-edges-t
unfolding mark_of
returns-then-edges-t c = rw (lt-leb _ _ c.if-vertices-v.false, lt-ltb _ _ c.if-edges-t.true) refl

pub returns : goal.returns
unfolding mark_of
returns c = rw (lt-leb _ _ c.if-vertices-v.false, le-ltb _ _ c.if-edges-t.false) refl
