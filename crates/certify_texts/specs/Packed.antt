-- What the writer answers to C: numbers in one number, and the length of a text.
use Rattle.std.specs.Prelude.{◌≡◌, List, [], ◌∷◌, ℕ, ◌+◌, ◌*◌, length, get_or, Err, Ok}
use Rattle.connectivity.specs.Plan.{Plan, graph, Limits}
use Rattle.connectivity.specs.Graph.{Graph}
use Rattle.connectivity.specs.Admission.{Answer, Handed}
use Rattle.connectivity.specs.Verdict.{Verdict, refused, weak, firm, verdict, verdict_handed}
use Rattle.connectivity.specs.Fallen.{fallen, fall_with}
use Rattle.text.specs.Verdict.{write_verdict}
use Rattle.text_write.specs.Entry.{bytes_handed, size_of, after_writing}
use Rattle.record.specs.Answered.{RecordKept}
use Rattle.certify.specs.declared.Finding.TheVariants.{Firm, Weak}
use Rattle.certify.specs.Answered.{Found}
use Rattle.certify_texts.specs.Says.{Says}

-- four numbers of sixteen bits, the first in the uppermost
abbrev pub four : ℕ → ℕ → ℕ → ℕ → ℕ
four a b c d = ((a * 65536 + b) * 65536 + c) * 65536 + d

-- what is handed back: 01's kind, then of a weak plan how many edges are named and which; of a refused one kind 2, number and place
abbrev pub packed_by : List ℕ → Answer → ℕ
packed_by [] a = four 2 a.number a.place 0
packed_by (kind ∷ values) a = four kind (get_or values 0 0) (get_or values 1 0) (get_or values 2 0)

abbrev pub packed : Handed → ℕ
packed h = packed_by h.values h.reply

-- the verdict in one number; the lent record is as 01 has it
pub record Packed (most : Limits) (p : Plan) (before after : List ℕ) (r : ℕ) : Type 0 where
  pub answer : r ≡ packed (verdict_handed (verdict most p (length before)))
  pub kept : RecordKept most p before after

-- 02: the lent words after a verdict: a weak one's marks; a firm one or a refusal leaves them
unfoldable pub words_after : Limits → Graph → Verdict → List ℕ → List ℕ
words_after most g (weak cut) before = fallen most g cut
words_after most g firm before = before
words_after most g (refused a) before = before

-- the same as it is found
abbrev pub words_of : Found → List ℕ → List ℕ
words_of (Err a) before = before
words_of (Ok (Weak cut fallen)) before = fallen.words
words_of (Ok Firm) before = before

-- 02: the words, and how many pieces fall with the verdict
pub record Marks (most : Limits) (p : Plan) (space : ℕ) (before after : List ℕ) (marked : ℕ) : Type 0 where
  pub words : after ≡ words_after most (graph p) (verdict most p space) before
  pub count : marked ≡ length (fall_with (graph p) (verdict most p space))

-- the length of the verdict text that is written for a plan text; the lent bytes are as 01 has it
pub record TextSize (ws : List ℕ) (most : ℕ) (limits : Limits) (plan before after : List ℕ) (r : ℕ) : Type 0 where
  pub kind : ℕ
  pub list : List ℕ
  pub says : Says ws most limits plan kind list
  pub size : r ≡ size_of (bytes_handed (write_verdict ws limits kind list (length before)))
  pub memory : after ≡ after_writing (write_verdict ws limits kind list (length before)) before
