-- Which text is written for a plan text, and where it then stands.
use Rattle.std.specs.Prelude.{◌≡◌, List, [], ◌∷◌, ℕ, ◌*◌, length}
use Rattle.connectivity.specs.Plan.{Plan, graph, Limits}
use Rattle.connectivity.specs.Admission.{kept_edges}
use Rattle.connectivity.specs.Verdict.{verdict}
use Rattle.connectivity.specs.Fallen.{fall_with}
use Rattle.text.specs.Plan.{PlanReading, Writing}
use Rattle.text.specs.Lines.{write_lines}
use Rattle.text_write.specs.Entry.{handed, bytes_handed, size_of, after_writing}
use Rattle.text_write.specs.Entry.{Written}
use Rattle.verify_texts.specs.Texts.{plan_in}

-- 02: the pieces that fall with the verdict on a plan; there is space for a record
abbrev pub fall_of : Limits → Plan → List ℕ
fall_of limits p = fall_with (graph p) (verdict limits p (3 * kept_edges p))

-- 02: how many they are, then each of them, ascending
abbrev pub falls : Limits → Plan → List ℕ
falls limits p = length (fall_of limits p) ∷ fall_of limits p

-- 02: or a refused plan's number alone
unfoldable pub numbers_of : Limits → PlanReading → List ℕ
numbers_of limits (PlanReading.refused a) = a.number ∷ []
numbers_of limits (PlanReading.read p) = falls limits p

-- In what follows `ws` are the worths of a column's digits and `most` is the largest value.

-- what is written for a plan text, a number on each line: 6 where the lent bytes, `space` of them, are fewer than the text
unfoldable pub write_fallen : List ℕ → ℕ → Limits → List ℕ → ℕ → Writing
write_fallen ws most limits plan space = write_lines ws 1 (numbers_of limits (plan_in ws most limits plan)) space

-- the text is written at the front of the lent bytes, those behind it stay; 6 and unchanged where they are fewer
pub record WritesFallen (ws : List ℕ) (most : ℕ) (limits : Limits) (plan before after : List ℕ) (r : Written) : Type 0 where
  pub answer : handed r ≡ bytes_handed (write_fallen ws most limits plan (length before))
  pub memory : after ≡ after_writing (write_fallen ws most limits plan (length before)) before

-- to C: its length, 0 where it is refused; the lent bytes are as 01 has it
pub record TextSize (ws : List ℕ) (most : ℕ) (limits : Limits) (plan before after : List ℕ) (r : ℕ) : Type 0 where
  pub size : r ≡ size_of (bytes_handed (write_fallen ws most limits plan (length before)))
  pub memory : after ≡ after_writing (write_fallen ws most limits plan (length before)) before
