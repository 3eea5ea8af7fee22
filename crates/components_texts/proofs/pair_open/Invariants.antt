-- `pair_open` meets its contract. The loop's invariant: the list is filled with the pairs of the numbers below v that have no mark.
use Rattle.connectivity.specs.Lists.{range, keep}
use Rattle.graph.specs.Excluded.{is_open}
use Rattle.components_texts.specs.Pairs.{Paired}
use Rattle.components_texts.proofs.pair_open.Given as goal

abbrev pub invariant-loop-v : goal.invariant-loop-v
invariant-loop-v l = Paired l.table (keep (is_open l.marks) (range 0 l.v)) l.initial.list l.list l.at
