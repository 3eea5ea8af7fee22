-- `cut_top` meets its contract: the link has a vertex left or none.
use Rattle.record.specs.Parting.{whole, off_top}
use Rattle.record.proofs.link.cut_top.Goals as goal

pub returns-then-v-bottom : goal.returns-then-v-bottom
returns-then-v-bottom c up = whole c.requires.0 c.if-v-bottom.true

pub returns : goal.returns
returns c up = off_top c.requires.0 c.if-v-bottom.false
