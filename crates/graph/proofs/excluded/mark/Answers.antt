-- `mark` meets its contract. The loop's invariant: the numbers of the list so far have been marked.
use Rattle.graph.proofs.Marking.{marking_start, marking_step, marking_end}
use native.Mathlib.Omega.{arith}
use Rattle.graph.proofs.excluded.mark.Goals as goal

pub loop-v-init : goal.loop-v-init
loop-v-init c = marking_start _ _

pub loop-v-preserved : goal.loop-v-preserved
loop-v-preserved c = rw c.mark_one.ensures (marking_step c.loop-v.invariant)

pub shape_of-marks : goal.shape_of-marks
shape_of-marks c = c.loop-v.invariant.long

pub returns : goal.returns
returns c = marking_end (omega arith) c.loop-v.invariant
