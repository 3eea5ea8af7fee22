-- `misfits` meets its contract. The loop's invariant: the count is the sum so far and the misfits from byte i on.
use mathlib.Core.Path.{◌≡◌}
use Prim.Native.Nat.{◌+◌}
use lib.ListN.{length, take, drop}
use Rattle.text.specs.Column.{five}
use Rattle.text_read.specs.Line.{misfits}
use Rattle.text_read.proofs.column.misfits.Given as goal

abbrev pub invariant-loop-i : goal.invariant-loop-i
invariant-loop-i l =
    let col = take (length five) (drop l.at l.line) in misfits five l.x col ≡ l.sum + misfits (drop l.i five) l.x (drop l.i col)
