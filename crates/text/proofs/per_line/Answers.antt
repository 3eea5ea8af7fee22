-- `per_line` meets its contract, by its test.
use borrow.Author.Tests.{eq-eqb, ne_eqb}
use Rattle.text.specs.Verdict.{per_line}
use Rattle.text.proofs.per_line.Goals as goal

pub returns-then-kind-eq0 : goal.returns-then-kind-eq0
unfolding per_line
returns-then-kind-eq0 c = rw (eq-eqb c.args.kind 0 c.if-kind-eq0.true)

pub returns-else-kind-eq0 : goal.returns-else-kind-eq0
unfolding per_line
returns-else-kind-eq0 c = rw (ne_eqb c.args.kind 0 c.if-kind-eq0.false)
