-- `put` meets its contract: a mark behind the last place changes nothing.
use mathlib.Core.Path.{sym}
use lib.Seq.{set_out}
use native.Mathlib.Omega.{arith}
use Rattle.graph.proofs.excluded.put.Goals as goal

pub returns-else-at-marks : goal.returns-else-at-marks
returns-else-at-marks c = sym (set_out _ _ _ (omega arith))
