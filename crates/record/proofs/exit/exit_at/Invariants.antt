-- `exit_at` meets its contract. The loop's invariant: the edges of the group that are behind are built, or fail the test.
use Rattle.std.proofs.Common.{◌-◌}
use Rattle.graph.specs.Marks.{read}
use Rattle.record.specs.Exits.{Passes}
use Rattle.record.proofs.Exits.{Failing}
use Rattle.record.proofs.exit.exit_at.Given as goal

abbrev pub invariant-loop-k : goal.invariant-loop-k
invariant-loop-k l =
    Failing (read l.incident) (read l.begins) (read l.over) l.v (λ e. Passes l.ends l.number l.places (read l.over e - 1) l.own l.from l.to) l.k
