-- `store_columns` meets its contract. The loop's invariant: what is left to be stored, from column k on, makes the whole.
use mathlib.Core.Path.{◌≡◌}
use mathlib.Core.Bool.{true}
use Prim.Native.Nat.{◌+◌, ◌*◌, ◌-◌}
use lib.ListN.{length, drop}
use lib.Seq.{sets}
use Rattle.text.specs.Column.{five, largest, line_fits, numbers}
use Rattle.text_read.proofs.line.store_columns.Given as goal

abbrev pub invariant-loop-k : goal.invariant-loop-k
invariant-loop-k l =
    let rest = drop (l.k * length five) l.line in record {
      fits : line_fits five largest (l.columns - l.k) rest ≡ true;
      whole : sets l.list (l.to + l.k) (numbers five (l.columns - l.k) rest) ≡ sets l.initial.list l.to (numbers five l.columns l.line);
    }
