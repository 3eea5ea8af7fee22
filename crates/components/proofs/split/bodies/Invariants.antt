-- `bodies` meets its contract: the pass along the order.
use mathlib.Core.Path.{◌≡◌}
use mathlib.Core.List.{List}
use Prim.Native.Nat.{ℕ}
use lib.ListN.{length}
use Rattle.connectivity.specs.Plan.{plan}
use Rattle.labels.specs.Answered.{ForestOf}
use Rattle.components.specs.Bodies.{Rooting}
use Rattle.components.proofs.split.bodies.Given as goal

abbrev pub invariant-loop-v : goal.invariant-loop-v
invariant-loop-v l = (length l.table ≡ length l.initial.table) × ((ends excluded : List ℕ) → ForestOf (plan l.vertices ends excluded) l.first l.order → Rooting l.vertices l.v-index l.root l.first l.order l.initial.table l.table)
