-- `header_columns` meets its contract, by its test.
use borrow.Author.Tests.{eq-eqb, ne_eqb}
use Rattle.text_write.proofs.header_columns.Goals as goal

pub returns-then-excluded-eq0 : goal.returns-then-excluded-eq0
returns-then-excluded-eq0 c = rw (eq-eqb c.args.excluded 0 c.if-excluded-eq0.true)

pub returns-else-excluded-eq0 : goal.returns-else-excluded-eq0
returns-else-excluded-eq0 c = rw (ne_eqb c.args.excluded 0 c.if-excluded-eq0.false)
