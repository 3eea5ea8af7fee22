-- `read_header` meets its contract: a line of two columns, or of three, or neither.
use Rattle.std.specs.Prelude.{None}
use Rattle.std.proofs.Common.{rules}
use mathlib.Core.Path.{◌≡◌, sym, ◌∙◌}
use Rattle.text.specs.Column.{five, largest}
use Rattle.text_read.proofs.Headers.{two_read, three_none, three_form, three_read}
use Rattle.text_read.proofs.plan.read_header.Goals as goal

pub returns-in-Some : goal.returns-in-Some
returns-in-Some c = two_read five largest c.args.text.now c.in-Some.ensures

pub returns-in_err-three : goal.returns-in_err-three
returns-in_err-three c =
    let none : c.from_residual.result ≡ None = search rules in
    rw none (three_none five largest c.args.text.now c.in_default.ensures c.in_err-three.ensures)

pub returns-then-not-third_fits : goal.returns-then-not-third_fits
returns-then-not-third_fits c =
    three_form five largest c.args.text.now c.in_default.ensures c.in_ok-three.ensures ∙ sym c.third_fits.ensures ∙ c.if-not-third_fits.true

pub returns : goal.returns
returns c =
    three_read five largest c.args.text.now c.in_default.ensures c.in_ok-three.ensures (sym c.third_fits.ensures ∙ c.if-not-third_fits.false)
