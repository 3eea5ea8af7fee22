-- `thousandths` meets its contract. The loop's invariant: the value is the sum so far and what the columns from i on are worth.
use mathlib.Core.Path.{◌≡◌}
use Prim.Native.Nat.{◌+◌}
use lib.ListN.{length, take, drop}
use Rattle.text.specs.Column.{value}
use Rattle.drawn.specs.Length.{eight}
use Rattle.drawn.proofs.length.thousandths.Given as goal

abbrev pub invariant-loop-i : goal.invariant-loop-i
invariant-loop-i l =
    let col = take (length eight) (drop l.at l.line) in value eight col ≡ l.sum + value (drop l.i eight) (drop l.i col)
