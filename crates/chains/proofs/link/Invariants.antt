-- `link` meets its contract. The loop's invariant: the edges from e on stand on their chains.
use lib.ListN.{length}
use Rattle.chains.specs.Parts.{Linked}
use Rattle.chains.proofs.link.Given as goal

abbrev pub invariant-loop-e : goal.invariant-loop-e
invariant-loop-e l = Linked l.edges l.e (length l.initial.heads) l.labels l.initial.next l.next l.heads
