-- `numbers_needed` meets its contract, by its tests.
use native.Mathlib.Omega.{arith}
use borrow.Author.Tests.{eq-eqb, ne_eqb}
use Rattle.text.specs.Verdict.{per_line, needed}
use Rattle.text.proofs.numbers_needed.Goals as goal

pub returns-then-kind-eq2 : goal.returns-then-kind-eq2
unfolding needed
returns-then-kind-eq2 c = rw (eq-eqb c.args.kind 2 c.if-kind-eq2.true)

pub returns-then-kind-eq0 : goal.returns-then-kind-eq0
unfolding needed per_line
returns-then-kind-eq0 c = let k = c.args.kind in rw (ne_eqb k 2 c.if-kind-eq2.false, eq-eqb k 0 c.if-kind-eq0.true)

pub returns : goal.returns
unfolding needed per_line
returns c = let a = c.args in rw (ne_eqb a.kind 2 c.if-kind-eq2.false, ne_eqb a.kind 0 c.if-kind-eq0.false) (omega arith)
