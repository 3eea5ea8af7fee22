-- Lines of numbers alone, without a header: what is written of a list.
use Rattle.std.specs.Prelude.{cond, ◌&&◌, List, ℕ, ◌/◌, ltb, leb, length}
use Rattle.connectivity.specs.Admission.{answer}
use Rattle.text.specs.Column.{lines}
use Rattle.text.specs.Plan.{Writing}

-- 01: writing a text: 6 where the lent bytes, `space` of them, are fewer than it has
unfoldable pub write_text : List ℕ → ℕ → Writing
write_text text space = cond (ltb space (length text)) (Writing.refused (answer 6 0)) (Writing.written text)

-- as many lines of `columns` numbers each as the list has whole ones: 8 unless there are one to three columns, then 6
unfoldable pub write_lines : List ℕ → ℕ → List ℕ → ℕ → Writing
write_lines ws columns list space =
    cond (leb 1 columns && leb columns 3) (write_text (lines ws columns (length list / columns) list) space) (Writing.refused (answer 8 0))
