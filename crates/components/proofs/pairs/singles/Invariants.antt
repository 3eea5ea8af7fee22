-- `singles` meets its contract: a turn for each edge.
use Prim.Native.Nat.{◌/◌}
use lib.ListN.{length}
use Rattle.connectivity.specs.Plan.{plan, graph}
use Rattle.components.specs.Stars.{Singles, Worked}
use Rattle.components.proofs.pairs.singles.Given as goal

abbrev pub invariant-loop-e : goal.invariant-loop-e
invariant-loop-e l =
    Singles (graph (plan l.vertices l.ends l.excluded)) l.vertices (length l.ends / 2) l.e l.claimed l.table × Worked l.vertices l.initial.claimed l.initial.table l.claimed l.table
