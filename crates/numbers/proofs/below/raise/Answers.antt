-- `raise` meets its contract: by the test, the last number of `up` becomes that of `v`, or stays.
use Rattle.numbers.proofs.Steps.{raise_higher, raise_same}
use Rattle.numbers.proofs.below.raise.Goals as goal

pub returns-then-last-up : goal.returns-then-last-up
returns-then-last-up c = let a = c.args in raise_higher a.last.now a.up a.v c.if-last-up.true

pub returns-else-last-up : goal.returns-else-last-up
returns-else-last-up c = let a = c.args in raise_same a.last.now a.up a.v c.if-last-up.false
