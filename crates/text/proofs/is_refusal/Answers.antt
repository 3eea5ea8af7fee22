-- `is_refusal` meets its contract, by its tests.
use native.Mathlib.Omega.{arith}
use borrow.Author.Tests.{le-leb, lt-leb}
use Rattle.text.specs.Verdict.{is_refusal}
use Rattle.text.proofs.is_refusal.Goals as goal

pub returns-then-number-lt1 : goal.returns-then-number-lt1
unfolding is_refusal
returns-then-number-lt1 c = let n = c.args.number in rw (lt-leb 1 n (omega arith), lt-leb 18 n (omega arith))

pub returns-then-number-le7 : goal.returns-then-number-le7
unfolding is_refusal
returns-then-number-le7 c = let n = c.args.number in rw (le-leb 1 n (omega arith), le-leb n 7 (omega arith))

pub returns-then-number-lt18 : goal.returns-then-number-lt18
unfolding is_refusal
returns-then-number-lt18 c = let n = c.args.number in rw (le-leb 1 n (omega arith), lt-leb n 7 (omega arith), lt-leb 18 n (omega arith))

pub returns : goal.returns
unfolding is_refusal
returns c = let n = c.args.number in rw (le-leb 1 n (omega arith), lt-leb n 7 (omega arith), le-leb 18 n (omega arith))
