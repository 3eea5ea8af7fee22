-- `scatter` meets its contract. The loop's invariant: the sums are those of the labels, and what lies behind has stayed.
use Rattle.connectivity.specs.Plan.{plan}
use Rattle.labels.specs.Labels.{Scattered}
use Rattle.labels.proofs.scatter.Given as goal

abbrev pub invariant-loop-e : goal.invariant-loop-e
invariant-loop-e l = Scattered (plan l.vertices l.ends l.excluded) l.initial.labels l.initial.sums l.labels l.sums
