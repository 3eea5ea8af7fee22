-- `write_lines` meets its contract. The loop's invariant: what is left to be written, from line k on, makes the whole.
use mathlib.Core.Path.{◌≡◌}
use Prim.Native.Nat.{◌+◌, ◌*◌, ◌-◌}
use lib.ListN.{drop}
use lib.Seq.{sets}
use Rattle.text.specs.Column.{five, lines, line_size}
use Rattle.text_write.proofs.line.write_lines.Given as goal

abbrev pub invariant-loop-k : goal.invariant-loop-k
invariant-loop-k l =
    sets l.text (l.at + l.k * line_size five l.columns) (lines five l.columns (l.count - l.k) (drop (l.k * l.columns) l.list))
    ≡ sets l.initial.text l.at (lines five l.columns l.count l.list)
