-- `line_at` meets its contract: where the text ends before the line does, the line is what is left of it.
use mathlib.Core.Path.{sym, ◌∙◌}
use Prim.Native.Nat.{◌-◌}
use native.Mathlib.Omega.{arith}
use lib.ListN.{length, drop, drop_of_length-le, length-drop}
use lib.Seq.{take_all, take-nil}
use Rattle.text_read.proofs.reader.line_at.Goals as goal

pub returns-then-text-at : goal.returns-then-text-at
returns-then-text-at c =
    let a = c.args in
    let t = a.text.now in
    c.take_line.ensures ∙ rw (drop_of_length-le t {i = a.at} (omega arith)) (sym (take-nil a.size))

pub returns-then-text-at-2 : goal.returns-then-text-at-2
returns-then-text-at-2 c =
    let a = c.args in
    let rest = drop a.at a.text.now in
    let l = length-drop a.at a.text.now in
    c.take_line-then-text-at-2.ensures ∙ take_all (length a.text.now - a.at) rest (omega (arith, l)) ∙ sym (take_all a.size rest (omega (arith, l)))
