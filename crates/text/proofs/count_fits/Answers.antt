-- `count_fits` meets its contract, by its tests.
use native.Mathlib.Omega.{arith}
use borrow.Author.Tests.{eq-eqb, ne_eqb}
use Rattle.text.specs.Verdict.{count_fits}
use Rattle.text.proofs.count_fits.Goals as goal

pub returns-then-kind-eq0 : goal.returns-then-kind-eq0
unfolding count_fits
returns-then-kind-eq0 c = rw (eq-eqb c.args.kind 0 c.if-kind-eq0.true)

pub returns-then-kind-eq1 : goal.returns-then-kind-eq1
unfolding count_fits
returns-then-kind-eq1 c = let k = c.args.kind in rw (ne_eqb k 0 c.if-kind-eq0.false, eq-eqb k 1 c.if-kind-eq1.true)

pub returns-then-kind-eq2 : goal.returns-then-kind-eq2
unfolding count_fits
returns-then-kind-eq2 c = let k = c.args.kind in rw (ne_eqb k 0 (omega arith), ne_eqb k 1 (omega arith), eq-eqb k 2 (omega arith)) c.is_refusal.ensures

pub returns : goal.returns
unfolding count_fits
returns c = let k = c.args.kind in rw (ne_eqb k 0 (omega arith), ne_eqb k 1 (omega arith), ne_eqb k 2 (omega arith))
