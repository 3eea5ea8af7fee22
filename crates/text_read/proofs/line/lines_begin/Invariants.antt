-- `lines_begin` meets its contract. The loop's invariant: the text begins so exactly if it does from line k on.
use mathlib.Core.Path.{◌≡◌}
use Prim.Native.Nat.{◌+◌, ◌*◌, ◌-◌}
use lib.ListN.{drop}
use Rattle.text.specs.Column.{five, largest, line_size, lines_begin}
use Rattle.text_read.proofs.line.lines_begin.Given as goal

abbrev pub invariant-loop-k : goal.invariant-loop-k
invariant-loop-k l =
    lines_begin five largest l.columns l.count (drop l.at l.text) ≡ lines_begin five largest l.columns (l.count - l.k) (drop (l.at + l.k * line_size five l.columns) l.text)
