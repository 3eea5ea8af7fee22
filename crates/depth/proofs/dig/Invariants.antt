-- `dig` meets its contract. The loop's invariant: `Digging`, for whatever the tables were before the root was entered.
use mathlib.Core.Path.{◌≡◌}
use mathlib.Core.List.{List}
use Prim.Native.Nat.{ℕ, ◌+◌, ◌-◌}
use lib.ListN.{set}
use Rattle.connectivity.specs.Plan.{entire}
use Rattle.depth.specs.Depth.{root_mark, Fresh}
use Rattle.depth.specs.Parts.{Rooms}
use Rattle.depth.proofs.Digging.{Digging}
use Rattle.depth.proofs.dig.Given as goal

abbrev pub invariant-loop-first : goal.invariant-loop-first
invariant-loop-first l =
    (first before cursors : List ℕ) → l.initial.first ≡ set first l.root root_mark → l.initial.order ≡ set before l.seen l.root → l.initial.cursor ≡ set cursors l.root 0
    → Fresh l.vertices l.root l.seen first → Rooms l.vertices first before cursors
    → Digging (entire l.vertices l.ends) l.incident l.begins l.dead l.root l.seen first before cursors l.first l.order l.cursor l.s.at l.s.count l.s.depth

abbrev pub decreases-loop-first : goal.decreases-loop-first
decreases-loop-first l = (l.vertices - l.s.count) + (l.vertices - l.s.count) + l.s.depth
