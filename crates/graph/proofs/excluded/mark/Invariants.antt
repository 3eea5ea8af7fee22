-- `mark` meets its contract. The loop's invariant: the numbers of the list so far have been marked.
use Rattle.graph.proofs.Marking.{Marking}
use Rattle.graph.proofs.excluded.mark.Given as goal

abbrev pub invariant-loop-v : goal.invariant-loop-v
invariant-loop-v l = Marking l.list l.initial.marks l.marks l.v-index
