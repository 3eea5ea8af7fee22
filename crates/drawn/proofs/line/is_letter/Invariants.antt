-- `is_letter` meets its contract. The loop's invariant: the column is the letter's exactly if it is from byte i on.
use mathlib.Core.Path.{◌≡◌}
use lib.ListN.{length, take, drop}
use Rattle.text.specs.Column.{five, same}
use Rattle.drawn.specs.Text.{letter_column}
use Rattle.drawn.proofs.line.is_letter.Given as goal

abbrev pub invariant-loop-i : goal.invariant-loop-i
invariant-loop-i l =
    let col = take (length five) (drop l.at l.line) in
    same (letter_column five l.letter) col ≡ same (drop l.i (letter_column five l.letter)) (drop l.i col)
