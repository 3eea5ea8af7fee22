-- `is_end` meets its contract: the two tests are those of its answer.
use borrow.Author.Tests.{eq-eqb, ne_eqb}
use Rattle.verify_firm.proofs.state.is_end.Goals as goal

pub returns-then-l-v : goal.returns-then-l-v
returns-then-l-v c = rw (eq-eqb _ _ c.if-l-v.true)

pub returns : goal.returns
returns c = rw (ne_eqb _ _ c.if-l-v.false)
