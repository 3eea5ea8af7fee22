-- `zero_at` meets its contract, by its tests.
use mathlib.Core.Path.{sym}
use native.Mathlib.Omega.{arith}
use borrow.Author.Tests.{lt-ltb}
use Rattle.text_read.specs.Line.{zero_at}
use Rattle.text_read.proofs.Columns.{zero_shown}
use Rattle.text_read.proofs.column.zero_at.Goals as goal

pub returns-then-worth-x : goal.returns-then-worth-x
returns-then-worth-x c = let a = c.args in sym (zero_shown a.worth a.x (λ h. omega arith))

pub returns-then-worth-gt1 : goal.returns-then-worth-gt1
unfolding zero_at
returns-then-worth-gt1 c = let a = c.args in rw (lt-ltb 1 a.worth (omega arith), lt-ltb a.x a.worth (omega arith))

pub returns : goal.returns
returns c = let a = c.args in sym (zero_shown a.worth a.x (λ h. omega arith))
