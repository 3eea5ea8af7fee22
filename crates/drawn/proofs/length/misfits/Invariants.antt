-- `misfits` meets its contract. The loop's invariant: the count is the sum so far and the misfits from byte i on.
use mathlib.Core.Path.{◌≡◌}
use Prim.Native.Nat.{◌+◌}
use lib.ListN.{length, take, drop}
use Rattle.drawn.specs.Length.{eight, thousand}
use Rattle.drawn.specs.Line.{misfits}
use Rattle.drawn.proofs.length.misfits.Given as goal

abbrev pub invariant-loop-i : goal.invariant-loop-i
invariant-loop-i l =
    let col = take (length eight) (drop l.at l.line) in misfits thousand eight l.x col ≡ l.sum + misfits thousand (drop l.i eight) l.x (drop l.i col)
