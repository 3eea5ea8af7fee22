-- `count_of` meets its contract, by its tests.
use mathlib.Core.Path.{sym}
use native.Mathlib.Omega.{arith}
use lib.ListN.{get_or-eq_default}
use borrow.Author.Tests.{eq-eqb, ne_eqb}
use Rattle.text.specs.Verdict.{per_line, count_of}
use Rattle.text_write.proofs.count_of.Goals as goal

pub returns-then-list-eq0 : goal.returns-then-list-eq0
unfolding count_of
returns-then-list-eq0 c = let a = c.args in rw (eq-eqb a.kind 2 c.if-kind-eq2.true) (sym (get_or-eq_default a.list.now 0 (omega arith)))

pub returns-then-kind-eq2 : goal.returns-then-kind-eq2
unfolding count_of
returns-then-kind-eq2 c = let k = c.args.kind in rw (eq-eqb k 2 (omega arith))

pub returns-then-kind-eq0 : goal.returns-then-kind-eq0
unfolding count_of per_line
returns-then-kind-eq0 c = let k = c.args.kind in rw (ne_eqb k 2 (omega arith), eq-eqb k 0 (omega arith))

pub returns : goal.returns
unfolding count_of per_line
returns c = let k = c.args.kind in rw (ne_eqb k 2 (omega arith), ne_eqb k 0 (omega arith)) (omega arith)
