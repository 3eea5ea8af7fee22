-- `upper` meets its contract.
use Rattle.std.proofs.Common.{le-ltb, lt-ltb}
use Rattle.record.proofs.walk.upper.Goals as goal

pub returns-then-number-l : goal.returns-then-number-l
returns-then-number-l c = rw (lt-ltb _ _ c.if-number-l.true)

pub returns : goal.returns
returns c = rw (le-ltb _ _ c.if-number-l.false)
