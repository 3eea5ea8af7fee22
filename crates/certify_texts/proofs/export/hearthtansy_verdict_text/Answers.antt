-- `hearthtansy_verdict_text` meets its contract: it tells how many bytes `verdict_text` has written.
use Rattle.certify_texts.proofs.Saying.{sizes}
use Rattle.certify_texts.proofs.export.hearthtansy_verdict_text.Goals as goal

pub returns : goal.returns
returns c = sizes c.verdict_text.ensures c.unwrap_or.ensures
