-- `unmark` meets its contract: a mark behind the last place changes nothing.
use mathlib.Core.Path.{sym}
use native.Mathlib.Omega.{arith}
use lib.Seq.{set_out}
use Rattle.depth.proofs.unmark.Goals as goal

pub returns-else-at-first : goal.returns-else-at-first
returns-else-at-first c = sym (set_out _ _ _ (omega arith))
