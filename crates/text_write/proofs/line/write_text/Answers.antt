-- `write_text` meets its contract: the header, and the lines behind it.
use mathlib.Core.Path.{◌≡◌, sym, ap, ◌∙◌}
use Prim.Native.Nat.{ℕ, ◌+◌}
use native.Mathlib.Omega.{arith}
use lib.ListN.{length, take}
use lib.Seq.{sets, length-take-le}
use Rattle.text.specs.Column.{five, line, lines, line_size}
use Rattle.text.proofs.Laws.{sets_append, length-line}
use Rattle.text_write.proofs.line.write_text.Goals as goal

pub returns : goal.returns
returns c =
    let a = c.args in
    let h = take a.front a.header.now in
    let rest = lines five a.columns a.count a.list.now in
    let long : 0 + length (line five h) ≡ line_size five a.front = omega (arith, length-line five h, length-take-le a.front a.header.now c.requires.1) in
    c.write_lines.ensures ∙ rw c.write_line.ensures
    (sym (sets_append a.text.now 0 (line five h) rest ∙ ap (λ (i : ℕ). sets (sets a.text.now 0 (line five h)) i rest) long))
