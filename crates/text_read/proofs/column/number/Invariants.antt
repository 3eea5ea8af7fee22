-- `number` meets its contract. The loop's invariant: the value is the sum so far and what the columns from i on are worth.
use mathlib.Core.Path.{◌≡◌}
use Prim.Native.Nat.{◌+◌}
use lib.ListN.{length, take, drop}
use Rattle.text.specs.Column.{five, value}
use Rattle.text_read.proofs.column.number.Given as goal

abbrev pub invariant-loop-i : goal.invariant-loop-i
invariant-loop-i l =
    let col = take (length five) (drop l.at l.line) in value five col ≡ l.sum + value (drop l.i five) (drop l.i col)
