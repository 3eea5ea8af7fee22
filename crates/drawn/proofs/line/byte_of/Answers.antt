-- `byte_of` meets its contract, by its test.
use native.Mathlib.Omega.{arith}
use borrow.Author.Tests.{lt-ltb, le-ltb}
use Rattle.drawn.proofs.line.byte_of.Goals as goal

pub returns-then-worth-gt1 : goal.returns-then-worth-gt1
returns-then-worth-gt1 c = rw (lt-ltb 1 c.args.worth (omega arith))

pub returns-else-worth-gt1 : goal.returns-else-worth-gt1
returns-else-worth-gt1 c = rw (le-ltb 1 c.args.worth (omega arith))
