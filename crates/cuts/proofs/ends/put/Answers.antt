-- `put` meets its contract: a mark behind the last place changes nothing.
use mathlib.Core.Path.{sym}
use lib.Seq.{set_out}
use native.Mathlib.Omega.{arith}
use Rattle.cuts.proofs.ends.put.Goals as goal

pub returns-else-place-dead : goal.returns-else-place-dead
returns-else-place-dead c = sym (set_out _ _ _ (omega arith))
