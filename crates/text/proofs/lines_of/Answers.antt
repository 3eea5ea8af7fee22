-- `lines_of` meets its contract, by its test.
use borrow.Author.Tests.{eq-eqb, ne_eqb}
use Rattle.text.specs.Verdict.{lines_of}
use Rattle.text.proofs.lines_of.Goals as goal

pub returns-then-kind-eq2 : goal.returns-then-kind-eq2
unfolding lines_of
returns-then-kind-eq2 c = rw (eq-eqb c.args.kind 2 c.if-kind-eq2.true)

pub returns-else-kind-eq2 : goal.returns-else-kind-eq2
unfolding lines_of
returns-else-kind-eq2 c = rw (ne_eqb c.args.kind 2 c.if-kind-eq2.false)
