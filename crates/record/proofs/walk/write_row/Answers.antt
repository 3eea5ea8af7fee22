-- `write_row` meets its contract: three numbers are stored.
use Rattle.std.proofs.Common.{arith, length-set}
use Rattle.record.proofs.walk.write_row.Goals as goal

pub bounds-rows-k-2 : goal.bounds-rows-k-2
bounds-rows-k-2 c = simp length-set (omega arith)

pub bounds-rows-k-3 : goal.bounds-rows-k-3
bounds-rows-k-3 c = simp length-set (omega arith)
