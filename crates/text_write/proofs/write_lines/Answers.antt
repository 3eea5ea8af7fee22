-- `write_lines` meets its contract: each way out cites the law for its tests. A quotient tells whether the text fits.
use mathlib.Core.Path.{◌≡◌, refl, sym, ap, ◌∙◌}
use mathlib.Core.List.{[], ◌∷◌}
use Prim.Native.Nat.{ℕ, ◌*◌, ◌/◌, ◌≤◌}
use native.Mathlib.Omega.{arith}
use native.Mathlib.Nat.{mul-div-le}
use lib.ListN.{length}
use Rattle.connectivity.specs.Admission.{served, answer}
use Rattle.text_write.specs.Entry.{handed}
use Rattle.text.specs.Column.{five, lines, line_size}
use Rattle.text.specs.Plan.{Writing}
use Rattle.text.proofs.Reading.{sets_filled}
use Rattle.text.proofs.Writing.{length_whole, whole_more, whole_fits, few_columns, many_columns, in_columns, text_short, text_written}
use Rattle.text_write.proofs.Result.{writes_lines}
use Rattle.text_write.proofs.write_lines.Goals as goal

pub returns-then-columns-lt1 : goal.returns-then-columns-lt1
returns-then-columns-lt1 c =
    let a = c.args in
    writes_lines (Writing.refused (answer 8 0)) (few_columns five a.columns a.list.now (length a.text.now) c.if-columns-lt1.true) (ap handed c.refused_writing.ensures) refl

pub returns-then-columns-gt3 : goal.returns-then-columns-gt3
returns-then-columns-gt3 c =
    let a = c.args in
    writes_lines (Writing.refused (answer 8 0))
    (many_columns five a.columns a.list.now (length a.text.now) (omega arith) c.if-columns-gt3.true) (ap handed c.refused_writing-then-columns-gt3.ensures) refl

pub returns-then-text-size : goal.returns-then-text-size
returns-then-text-size c =
    let a = c.args in
    writes_lines (Writing.refused (answer 6 0))
    (in_columns five a.columns a.list.now (length a.text.now) (omega arith) (omega arith) ∙ text_short _ (length a.text.now) (whole_more five a.columns a.list.now (length a.text.now) (omega arith)))
    (ap handed c.refused_writing-then-text-size.ensures) refl

pub write_lines-requires : goal.write_lines-requires
write_lines-requires c =
    let fits : let a = c.args in (length (lines five a.columns (length a.list.now / a.columns) a.list.now) ≤ length a.text.now) × (length (lines five a.columns (length a.list.now / a.columns) a.list.now) ≡ length a.list.now / a.columns * line_size five a.columns) = let a = c.args in (whole_fits five a.columns a.list.now (length a.text.now) (omega arith), length_whole five a.columns a.list.now) in
    let a = c.args in
    (omega arith, mul-div-le (length a.list.now) a.columns, omega (arith, fits))

pub overflow_mul-result : goal.overflow_mul-result
overflow_mul-result c =
    let fits : let a = c.args in (length (lines five a.columns (length a.list.now / a.columns) a.list.now) ≤ length a.text.now) × (length (lines five a.columns (length a.list.now / a.columns) a.list.now) ≡ length a.list.now / a.columns * line_size five a.columns) = let a = c.args in (whole_fits five a.columns a.list.now (length a.text.now) (omega arith), length_whole five a.columns a.list.now) in
    omega (arith, fits)

pub returns : goal.returns
returns c =
    let fits : let a = c.args in (length (lines five a.columns (length a.list.now / a.columns) a.list.now) ≤ length a.text.now) × (length (lines five a.columns (length a.list.now / a.columns) a.list.now) ≡ length a.list.now / a.columns * line_size five a.columns) = let a = c.args in (whole_fits five a.columns a.list.now (length a.text.now) (omega arith), length_whole five a.columns a.list.now) in
    let a = c.args in
    let (room, n) = fits in
    let xs = lines five a.columns (length a.list.now / a.columns) a.list.now in
    writes_lines (Writing.written xs)
    (in_columns five a.columns a.list.now (length a.text.now) (omega arith) (omega arith) ∙ text_written xs (length a.text.now) room)
    (ap (λ (m : ℕ). served (m ∷ [])) (sym n))
    (c.write_lines.ensures ∙ sets_filled a.text.now xs room)
