-- `cut_inside` meets its contract: each of its answers is a case of a cut.
use Rattle.record.specs.Parting.{off_upper, off_lower}
use Rattle.record.proofs.link.cut_inside.Goals as goal

pub returns-then-is_upper : goal.returns-then-is_upper
returns-then-is_upper c v m o = off_upper m o

pub returns : goal.returns
returns c v m o = off_lower m o
