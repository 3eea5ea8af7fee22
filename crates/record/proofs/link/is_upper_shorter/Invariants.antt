-- `is_upper_shorter` meets its contract. The loop's invariant: both are onward on their ways.
use Rattle.connectivity.specs.Plan.{limits}
use Rattle.record.specs.Parting.{Between}
use Rattle.record.proofs.Paths.{left, Onward}
use Rattle.record.proofs.link.is_upper_shorter.Given as goal

abbrev pub invariant-loop-a : goal.invariant-loop-a
invariant-loop-a l = (d : Between limits l.ends l.first l.v l.top l.bottom) → Onward d.upper l.a × Onward d.lower l.b

abbrev pub decreases-loop-a : goal.decreases-loop-a
decreases-loop-a l = left limits l.ends l.first l.top l.a
