-- `write_column` meets its contract. The loop's invariant: what is left to be written, from i on, makes the whole.
use Rattle.std.proofs.Common.{◌≡◌, ◌+◌, length, drop}
use Rattle.std.proofs.lemmas.List.Edits.{sets}
use Rattle.text_write.proofs.line.write_column.Given as goal

abbrev pub invariant-loop-i : goal.invariant-loop-i
invariant-loop-i l = (length l.text ≡ length l.initial.text) × (sets l.text (l.at + l.i) (drop l.i l.byte-items) ≡ sets l.initial.text l.at l.byte-items)
