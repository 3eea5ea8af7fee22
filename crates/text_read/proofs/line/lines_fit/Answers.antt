-- `lines_fit` meets its contract: a text of another length has other lines, and one of this length has nothing behind them.
use mathlib.Core.Path.{sym, ◌∙◌}
use Prim.Native.Nat.{◌*◌, ◌≤◌}
use native.Mathlib.Omega.{arith}
use native.Mathlib.Nat.{mul-le-mul}
use lib.ListN.{drop, length-drop}
use Rattle.text.specs.Column.{five, largest, line_size}
use Rattle.text.proofs.Laws.{fit_other, fit_begin}
use Rattle.text_read.proofs.line.lines_fit.Goals as goal

pub overflow_mul-count : goal.overflow_mul-count
overflow_mul-count c =
    let room : c.args.count * line_size five c.args.columns ≤ 65535 * 16 = let few : c.args.count ≤ 65535 = omega (arith, c.requires) in
    let short : line_size five c.args.columns ≤ 16 = omega (arith, c.requires) in
    mul-le-mul few short in
    omega (arith, room)

pub returns-then-text-at : goal.returns-then-text-at
returns-then-text-at c =
    let a = c.args in
    sym (fit_other five largest a.columns a.count (drop a.at a.text.now) (λ z. omega (arith, c.if-text-at.true, length-drop a.at a.text.now)))

pub lines_begin-requires : goal.lines_begin-requires
lines_begin-requires c = omega (arith, c.if-text-at.false)

pub returns : goal.returns
returns c =
    let a = c.args in
    c.lines_begin.ensures ∙ sym (fit_begin five largest a.columns a.count (drop a.at a.text.now) (omega (arith, c.if-text-at.false, length-drop a.at a.text.now)))
