-- `hearthtansy_check_texts` meets its contract: it packs what `check_texts` answers.
use mathlib.Core.Path.{ap, ◌∙◌}
use Rattle.graph.specs.Admission.{answer_of}
use Rattle.graph.specs.declared.Answer.{Answer}
use Rattle.verify_texts.specs.Board.{packed}
use Rattle.verify_texts.proofs.board.hearthtansy_check_texts.Goals as goal

pub returns : goal.returns
returns c = c.pack.ensures ∙ ap (λ (a : Answer). packed (answer_of a)) c.check_texts.ensures
