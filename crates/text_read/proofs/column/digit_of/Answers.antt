-- `digit_of` meets its contract, by its two tests.
use native.Mathlib.Omega.{arith}
use borrow.Author.Tests.{le-leb, lt-leb}
use Rattle.text.specs.Column.{digit}
use Rattle.text_read.proofs.column.digit_of.Goals as goal

pub returns-then-b-lt48 : goal.returns-then-b-lt48
unfolding digit
returns-then-b-lt48 c = rw (lt-leb 48 c.args.b (omega arith))

pub returns-then-b-gt57 : goal.returns-then-b-gt57
unfolding digit
returns-then-b-gt57 c = let b = c.args.b in rw (le-leb 48 b (omega arith), lt-leb b 57 (omega arith))

pub returns : goal.returns
unfolding digit
returns c = let b = c.args.b in rw (le-leb 48 b (omega arith), le-leb b 57 (omega arith))
