-- `stars` meets its contract: one edge after the other.
use Prim.Native.Nat.{◌/◌}
use lib.ListN.{length}
use Rattle.connectivity.specs.Plan.{plan, graph}
use Rattle.components.specs.Stars.{Stars, Worked}
use Rattle.components.proofs.pairs.stars.Given as goal

abbrev pub invariant-loop-e : goal.invariant-loop-e
invariant-loop-e l =
    Stars (graph (plan l.vertices l.ends l.excluded)) l.vertices (length l.ends / 2) l.e 0 l.claimed l.table × Worked l.vertices l.initial.claimed l.initial.table l.claimed l.table
