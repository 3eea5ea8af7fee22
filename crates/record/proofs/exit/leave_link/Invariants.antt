-- `leave_link` meets its contract. The loop's invariant: no edge leads out at a vertex of the link strictly above a or strictly below b. The measure
-- is how far their numbers are apart.
use Rattle.std.proofs.Common.{◌-◌}
use Rattle.connectivity.specs.Plan.{limits}
use Rattle.graph.specs.Marks.{read}
use Rattle.record.specs.Leaving.{Leaving}
use Rattle.record.proofs.Outward.{Sought}
use Rattle.record.proofs.exit.leave_link.Given as goal

abbrev pub invariant-loop-under : goal.invariant-loop-under
invariant-loop-under l =
    (c : Leaving limits l.ends l.incident l.begins l.first l.number l.last l.places l.below l.over l.top l.bottom) → Sought c l.a l.b

abbrev pub decreases-loop-under : goal.decreases-loop-under
decreases-loop-under l =
    read l.number l.b - read l.number l.a
