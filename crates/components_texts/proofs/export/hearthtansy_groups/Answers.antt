-- `hearthtansy_groups` meets its contract: it packs what `find` answers.
use Rattle.components_texts.proofs.Answering.{packs}
use Rattle.components_texts.proofs.export.hearthtansy_groups.Goals as goal

pub returns : goal.returns
returns c = packs c.find.ensures c.pack.ensures
