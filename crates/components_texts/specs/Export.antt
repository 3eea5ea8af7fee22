-- What is answered to C: an answer in one number, and the length of a text.
use Rattle.std.specs.Prelude.{◌≡◌, List, ℕ, leb, length}
use Rattle.connectivity.specs.Plan.{Plan, graph, Limits}
use Rattle.connectivity.specs.Component.{components}
use Rattle.graph.specs.Admission.{lent}
use Rattle.text.specs.Plan.{filled}
use Rattle.text_write.specs.Entry.{bytes_handed, size_of, after_writing}
use Rattle.verify_texts.specs.Board.{packed}
use Rattle.components_texts.specs.Groups.{write_groups}

-- 02: the plan's refusal, then 6 where the table has fewer than one number for each piece; 0 and the groups at its front, the numbers behind
-- stay; refused, all of it stays
pub record Packed (most : Limits) (p : Plan) (before after : List ℕ) (r : ℕ) : Type 0 where
  pub answer : r ≡ packed (lent most p (leb p.vertices (length before)))
  pub front : r ≡ 0 → after ≡ filled (components (graph p)) before
  pub unchanged : (r ≡ 0 → ⊥) → after ≡ before

-- the length of the text that is written for a plan text, 0 where that is refused; the lent bytes are as 01 has it
pub record TextSize (ws : List ℕ) (most : ℕ) (limits : Limits) (plan before after : List ℕ) (r : ℕ) : Type 0 where
  pub size : r ≡ size_of (bytes_handed (write_groups ws most limits plan (length before)))
  pub memory : after ≡ after_writing (write_groups ws most limits plan (length before)) before
