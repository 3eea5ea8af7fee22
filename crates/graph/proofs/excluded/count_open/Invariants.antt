-- `count_open` meets its contract. The loop's invariant: so many of the marks that were passed are 0.
use Rattle.std.proofs.Common.{◌≡◌, take, count_by}
use lib.Dec.{eqb}
use Rattle.graph.proofs.excluded.count_open.Given as goal

abbrev pub invariant-loop-mark : goal.invariant-loop-mark
invariant-loop-mark l = l.count ≡ count_by (λ mark. eqb mark 0) (take l.mark-index (take l.edges l.dead))
