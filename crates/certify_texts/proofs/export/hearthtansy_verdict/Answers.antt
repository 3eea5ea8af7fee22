-- `hearthtansy_verdict` meets its contract: it packs what `verdict` finds, and hands over what falls.
use Rattle.certify_texts.proofs.Saying.{packs, marks}
use Rattle.certify_texts.proofs.export.hearthtansy_verdict.Goals as goal

pub returns : goal.returns
returns c =
    (packs c.verdict-found.ensures c.pack.ensures, marks c.verdict-found.ensures c.hand_over.ensures)
