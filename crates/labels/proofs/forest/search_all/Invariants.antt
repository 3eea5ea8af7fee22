-- `search_all` meets its contract. The loop's invariant: the roots below v have been tried, and `seen` vertices stand in the order.
use Rattle.connectivity.specs.Plan.{plan}
use Rattle.labels.specs.Planting.{Growing}
use Rattle.labels.proofs.forest.search_all.Given as goal

abbrev pub invariant-loop-v : goal.invariant-loop-v
invariant-loop-v l = Growing (plan l.vertices l.ends l.excluded) l.initial.first l.initial.order l.initial.cursor l.first l.order l.cursor l.v l.seen
