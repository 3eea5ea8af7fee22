-- What the three entries that write answer, and what the lent memory holds afterwards; and an answer's line.
use Rattle.std.specs.Prelude.{◌≡◌, List, [], ◌∷◌, ℕ, length, get_or, Result, Err, Ok}
use Rattle.connectivity.specs.Plan.{Plan, Limits}
use Rattle.connectivity.specs.Admission.{Handed, served, refusal}
use Rattle.graph.specs.Admission.{answer_of}
use Rattle.graph.specs.declared.Answer.{Answer}
use Rattle.text.specs.Column.{line}
use Rattle.text.specs.Plan.{Writing, filled, write_plan}
use Rattle.text.specs.Verdict.{write_verdict}
use Rattle.text.specs.Lines.{write_lines}

-- what writing gives: how many bytes, or why there are none
abbrev pub Written : Type 0
Written = Result ℕ Answer

-- 01's number, place and values for each case; the value of a text is how many bytes it has
abbrev pub handed : Written → Handed
handed (Err a) = refusal (answer_of a)
handed (Ok count) = served (count ∷ [])

-- what is handed back of writing: how many bytes the text has, or the refusal
abbrev pub bytes_handed : Writing → Handed
bytes_handed (Writing.refused a) = refusal a
bytes_handed (Writing.written bytes) = served (length bytes ∷ [])

-- how many bytes were written; 0 where that was refused
abbrev pub size_of : Handed → ℕ
size_of h = get_or h.values 0 0

-- 01: lent memory after: unchanged by a refusal, else filled with the text
abbrev pub after_writing : Writing → List ℕ → List ℕ
after_writing (Writing.refused a) lent = lent
after_writing (Writing.written bytes) lent = filled bytes lent

-- the answer to a plan, or to a verdict's kind and list, and the lent memory after it, in columns with these worths, for these limits
pub record WritesPlan (ws : List ℕ) (limits : Limits) (p : Plan) (lent after : List ℕ) (r : Written) : Type 0 where
  pub answer : handed r ≡ bytes_handed (write_plan ws limits p (length lent))
  pub memory : after ≡ after_writing (write_plan ws limits p (length lent)) lent

pub record WritesVerdict (ws : List ℕ) (limits : Limits) (kind : ℕ) (list lent after : List ℕ) (r : Written) : Type 0 where
  pub answer : handed r ≡ bytes_handed (write_verdict ws limits kind list (length lent))
  pub memory : after ≡ after_writing (write_verdict ws limits kind list (length lent)) lent

-- the same of the lines of a list, so many numbers on each
pub record WritesLines (ws : List ℕ) (columns : ℕ) (list lent after : List ℕ) (r : Written) : Type 0 where
  pub answer : handed r ≡ bytes_handed (write_lines ws columns list (length lent))
  pub memory : after ≡ after_writing (write_lines ws columns list (length lent)) lent

-- 01: number and place in two columns on one line
unfoldable pub answer_text : List ℕ → Answer → List ℕ
answer_text ws a = line ws (a.number ∷ (a.place ∷ []))
