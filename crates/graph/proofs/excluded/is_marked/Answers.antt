-- `is_marked` meets its contract: behind the last place there is no mark.
use Prim.Native.Nat.{ℕ}
use lib.ListN.{get_or-eq_default}
use native.Mathlib.Omega.{arith}
use Rattle.graph.proofs.excluded.is_marked.Goals as goal

pub returns-then-at-marks : goal.returns-then-at-marks
returns-then-at-marks c = rw (get_or-eq_default {A = ℕ} c.args.marks.now 0 {n = c.args.v} (omega arith))
