-- `answer_line` meets its contract: a header with no line behind it fills the array.
use mathlib.Core.Path.{◌≡◌, ap, ◌∙◌}
use mathlib.Core.List.{List, [], ◌∷◌, ◌++◌, append-nil}
use Prim.Native.Nat.{ℕ}
use native.Mathlib.Omega.{arith}
use lib.ListN.{length, length-replicate, drop_of_length-le}
use lib.Seq.{sets}
use Rattle.text.specs.Column.{five, line, lines, line_size}
use Rattle.text_write.specs.Entry.{answer_text}
use Rattle.text.proofs.Laws.{length-line}
use Rattle.text.proofs.Reading.{sets_filled}
use Rattle.text_write.proofs.answer_line.Goals as goal

header_alone : (ws xs lent list : List ℕ) (k : ℕ) → length lent ≡ length (line ws xs) → sets lent 0 (line ws xs ++ lines ws k 0 list) ≡ line ws xs
unfolding lines
header_alone ws xs lent list k p =
    let l = line ws xs in
    rw (append-nil l)
    (sets_filled lent l (omega arith) ∙ ap (λ (rest : List ℕ). l ++ rest) (drop_of_length-le lent {i = length l} (omega arith)) ∙ append-nil l)

pub returns : goal.returns
unfolding answer_text
returns c =
    let answer = c.args.answer in
    let pair = answer.number ∷ (answer.place ∷ []) in
    c.write_text.ensures ∙ header_alone five pair _ _ 1 (omega (arith, length-replicate {A = ℕ} (line_size five 2) 0, length-line five pair))
