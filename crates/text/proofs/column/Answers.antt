-- `column` meets its contract. The loop's invariant: what is left to be written, from i on, makes the whole.
use mathlib.Core.Path.{refl}
use native.Mathlib.Omega.{arith}
use native.Mathlib.Numerals.{add-one}
use lib.ListN.{length, length-set, drop_of_length-le}
use Rattle.text.specs.Column.{worths, five, column}
use Rattle.text.proofs.Laws.{column_next, worth_some}
use Rattle.text.proofs.column.Goals as goal

pub loop-i-init : goal.loop-i-init
unfolding column
loop-i-init c = (refl, refl)

pub byte_at-requires : goal.byte_at-requires
unfolding worths
byte_at-requires c = worth_some (length five) c.loop-i.i (omega arith)

pub loop-i-preserved : goal.loop-i-preserved
loop-i-preserved c =
    let x = c.args.x in
    let i = c.loop-i.i in
    (simp length-set (omega arith), rw (add-one i, c.byte_at.ensures) (rw (column_next five x i (omega arith), add-one i) at c.loop-i.invariant.1))

pub returns : goal.returns
unfolding column
returns c = let l = c.loop-i in rw (drop_of_length-le five {i = l.i} (omega arith)) at l.invariant.1
