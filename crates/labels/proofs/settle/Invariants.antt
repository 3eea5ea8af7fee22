-- `settle` meets its contract. The loop's invariant: the places from k on are settled.
use Rattle.connectivity.specs.Plan.{plan}
use Rattle.labels.specs.Labels.{Settling}
use Rattle.labels.proofs.settle.Given as goal

abbrev pub invariant-loop-k : goal.invariant-loop-k
invariant-loop-k l = Settling (plan l.vertices l.ends l.excluded) l.first l.order l.initial.labels l.initial.sums l.labels l.sums l.k
