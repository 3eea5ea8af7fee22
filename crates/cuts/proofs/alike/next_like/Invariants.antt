-- `next_like` meets its contract: the walk along the chain.
use Prim.Native.Nat.{◌-◌, ◌≤◌}
use Rattle.chains.specs.Chains.{keys, named}
use Rattle.cuts.specs.Alike.{Chaining}
use Rattle.cuts.proofs.Likes.{Walked}
use Rattle.cuts.proofs.alike.next_like.Given as goal

abbrev pub invariant-loop-x : goal.invariant-loop-x
invariant-loop-x l = (l.x ≤ l.edges) × ((c : Chaining l.edges l.labels l.next) → Walked l.labels l.dead (keys c.size l.labels) l.edges l.e l.x)

abbrev pub decreases-loop-x : goal.decreases-loop-x
decreases-loop-x l = l.edges - named l.edges l.x
