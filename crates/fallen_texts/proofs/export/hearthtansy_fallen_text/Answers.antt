-- `hearthtansy_fallen_text` meets its contract: it counts what `fallen_text` writes.
use Rattle.fallen_texts.proofs.Answering.{sizes}
use Rattle.fallen_texts.proofs.export.hearthtansy_fallen_text.Goals as goal

pub returns : goal.returns
returns c = sizes c.fallen_text.ensures c.unwrap_or.ensures
