-- `build_up` meets its contract. The loop's invariant: the legs that are done are built, and the top is the last vertex that was left.
use Rattle.connectivity.specs.Plan.{limits}
use Rattle.record.proofs.Paths.{left}
use Rattle.record.proofs.Rising.{LiftsAll}
use Rattle.record.proofs.walk.build_up.Given as goal

abbrev pub invariant-loop-at : goal.invariant-loop-at
invariant-loop-at l = LiftsAll limits l.ends l.first l.v l.stop l.initial.below l.initial.over l.below l.over l.top l.at

abbrev pub decreases-loop-at : goal.decreases-loop-at
decreases-loop-at l = left limits l.ends l.first l.stop l.at
