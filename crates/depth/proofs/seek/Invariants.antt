-- `seek` meets its contract. The loop's invariant: the edges from the first place up to i lead to nothing new.
use Prim.Native.Nat.{ℕ, ◌≤◌, ◌<◌}
use Rattle.connectivity.specs.Plan.{entire}
use lib.ListN.{get_or}
use Rattle.depth.specs.Parts.{Old}
use Rattle.depth.proofs.seek.Given as goal

abbrev pub invariant-loop-i : goal.invariant-loop-i
invariant-loop-i l = ((k : ℕ) → k < l.i → l.from ≤ k → Old (entire l.vertices l.ends) l.dead l.first l.v (get_or l.incident k 0))
