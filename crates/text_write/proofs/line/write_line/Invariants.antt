-- `write_line` meets its contract. The loop's invariant: what is left to be written, from column k on, makes the whole.
use mathlib.Core.Path.{◌≡◌}
use Prim.Native.Nat.{◌+◌, ◌*◌, ◌-◌}
use lib.ListN.{length, take, drop}
use lib.Seq.{sets}
use Rattle.text.specs.Column.{five, line}
use Rattle.text_write.proofs.line.write_line.Given as goal

abbrev pub invariant-loop-k : goal.invariant-loop-k
invariant-loop-k l =
    sets l.text (l.at + l.k * length five) (line five (take (l.columns - l.k) (drop (l.from + l.k) l.list)))
    ≡ sets l.initial.text l.at (line five (take l.columns (drop l.from l.list)))
