-- `column` meets its contract. The loop's invariant: what is left to be written, from i on, makes the whole.
use mathlib.Core.Path.{◌≡◌}
use lib.ListN.{length, drop}
use lib.Seq.{sets}
use Rattle.text.specs.Column.{five, column}
use Rattle.text.proofs.column.Given as goal

abbrev pub invariant-loop-i : goal.invariant-loop-i
invariant-loop-i l = (length l.bytes ≡ length five) × (sets l.bytes l.i (column (drop l.i five) l.x) ≡ column five l.x)
