-- `store_lines` meets its contract. The loop's invariant: what is left to be stored, from line k on, makes the whole.
use mathlib.Core.Path.{◌≡◌}
use mathlib.Core.Bool.{true}
use Prim.Native.Nat.{◌+◌, ◌*◌, ◌-◌}
use lib.ListN.{drop}
use lib.Seq.{sets}
use Rattle.text.specs.Column.{five, largest, line_size, lines_begin, lines_numbers}
use Rattle.text_read.proofs.line.store_lines.Given as goal

abbrev pub invariant-loop-k : goal.invariant-loop-k
invariant-loop-k l =
    let rest = drop (l.at + l.k * line_size five l.columns) l.text in record {
      begin : lines_begin five largest l.columns (l.count - l.k) rest ≡ true;
      whole : sets l.list (l.to + l.k * l.columns) (lines_numbers five l.columns (l.count - l.k) rest)
          ≡ sets l.initial.list l.to (lines_numbers five l.columns l.count (drop l.at l.text));
    }
