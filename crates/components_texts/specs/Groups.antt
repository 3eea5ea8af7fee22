-- Which text is written for a plan text, and where it then stands.
use Rattle.std.specs.Prelude.{◌≡◌, List, [], ◌∷◌, ◌++◌, ℕ, length}
use Rattle.connectivity.specs.Plan.{graph, Limits}
use Rattle.connectivity.specs.Graph.{Graph, vertices}
use Rattle.connectivity.specs.Component.{component_of}
use Rattle.text.specs.Column.{line}
use Rattle.text.specs.Plan.{PlanReading, Writing}
use Rattle.text.specs.Lines.{write_text}
use Rattle.text_write.specs.Entry.{handed, bytes_handed, after_writing}
use Rattle.text_write.specs.Entry.{Written}
use Rattle.verify_texts.specs.Texts.{plan_in}

-- In what follows `ws` are the worths of a column's digits and `most` is the largest value.

-- 02: a line for each of these pieces: piece and group
unfoldable pub group_lines : List ℕ → Graph → List ℕ → List ℕ
group_lines ws g [] = []
group_lines ws g (v ∷ rest) = line ws (v ∷ (component_of g v ∷ [])) ++ group_lines ws g rest

-- 02: one line for each piece, ascending; a number that is no vertex has none
unfoldable pub groups_text : List ℕ → Graph → List ℕ
groups_text ws g = group_lines ws g (vertices g)

-- 02: or a refused plan's number alone
unfoldable pub text_of : List ℕ → PlanReading → List ℕ
text_of ws (PlanReading.refused a) = line ws (a.number ∷ [])
text_of ws (PlanReading.read p) = groups_text ws (graph p)

-- what is written for a plan text: 6 where the lent bytes, `space` of them, are fewer than the text
unfoldable pub write_groups : List ℕ → ℕ → Limits → List ℕ → ℕ → Writing
write_groups ws most limits plan space = write_text (text_of ws (plan_in ws most limits plan)) space

-- the text is written at the front of the lent bytes, those behind it stay; 6 and unchanged where they are fewer
pub record WritesGroups (ws : List ℕ) (most : ℕ) (limits : Limits) (plan before after : List ℕ) (r : Written) : Type 0 where
  pub answer : handed r ≡ bytes_handed (write_groups ws most limits plan (length before))
  pub memory : after ≡ after_writing (write_groups ws most limits plan (length before)) before
