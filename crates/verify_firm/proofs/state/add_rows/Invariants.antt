-- `add_rows` meets its contract. The loop's invariant: the edges of the rows passed count as built.
use Rattle.verify_firm.proofs.Adding.{Adding}
use Rattle.verify_firm.proofs.state.add_rows.Given as goal

abbrev pub invariant-loop-k : goal.invariant-loop-k
invariant-loop-k l = Adding l.initial.degree l.ends l.list l.first l.end l.degree l.k
