-- `set_tips` meets its contract: two numbers are stored.
use Rattle.std.proofs.Common.{arith, length-set}
use Rattle.record.proofs.link.set_tips.Goals as goal

pub bounds-tips-k-2 : goal.bounds-tips-k-2
bounds-tips-k-2 c = simp length-set (omega arith)
