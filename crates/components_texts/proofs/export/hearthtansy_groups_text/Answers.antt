-- `hearthtansy_groups_text` meets its contract: it tells how many bytes `groups_text` has written.
use Rattle.components_texts.proofs.Answering.{sizes}
use Rattle.components_texts.proofs.export.hearthtansy_groups_text.Goals as goal

pub returns : goal.returns
returns c = sizes c.groups_text.ensures c.unwrap_or.ensures
