-- `star` meets its contract: a turn for each edge on the chain.
use Prim.Native.Nat.{◌-◌, ◌/◌, ◌≤◌}
use lib.ListN.{length}
use Rattle.connectivity.specs.Plan.{plan, graph}
use Rattle.chains.specs.Chains.{keys, named}
use Rattle.cuts.specs.Alike.{Chaining}
use Rattle.components.specs.Stars.{Stars, Worked}
use Rattle.components.proofs.Turning.{OnChain}
use Rattle.components.proofs.pairs.star.Given as goal

abbrev pub invariant-loop-x : goal.invariant-loop-x
invariant-loop-x l =
    (l.x ≤ length l.ends / 2) × Worked l.vertices l.initial.claimed l.initial.table l.claimed l.table × ((c : Chaining (length l.ends / 2) l.labels l.next) → OnChain (keys c.size l.labels) (length l.ends / 2) l.e l.x × Stars (graph (plan l.vertices l.ends l.excluded)) l.vertices (length l.ends / 2) l.e (named (length l.ends / 2) l.x) l.claimed l.table)

abbrev pub decreases-loop-x : goal.decreases-loop-x
decreases-loop-x l =
    length l.ends / 2 - named (length l.ends / 2) l.x
