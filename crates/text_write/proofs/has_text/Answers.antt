-- `has_text` meets its contract, by the tests of its count.
use mathlib.Core.Path.{sym, ◌∙◌}
use native.Mathlib.Omega.{arith}
use Rattle.connectivity.specs.Plan.{limits}
use Rattle.text.proofs.Writing.{has_text_is, count_small}
use Rattle.text_write.proofs.has_text.Goals as goal

pub returns-then-not-count_fits : goal.returns-then-not-count_fits
returns-then-not-count_fits c =
    let r = c.count_of-count.ensures in
    let q = sym c.count_fits.ensures ∙ c.if-not-count_fits.true in
    let a = c.args in
    rw (has_text_is limits a.kind a.list.now, ← r, q)

pub overflow_cast-count : goal.overflow_cast-count
overflow_cast-count c =
    omega (arith, count_small limits (omega arith) c.args.kind c.count_of-count.result (sym c.count_fits.ensures ∙ c.if-not-count_fits.false))

pub returns : goal.returns
returns c =
    let r = c.count_of-count.ensures in
    let q = sym c.count_fits.ensures ∙ c.if-not-count_fits.false in
    let a = c.args in
    rw (has_text_is limits a.kind a.list.now, ← r, q, c.numbers_needed.ensures)
