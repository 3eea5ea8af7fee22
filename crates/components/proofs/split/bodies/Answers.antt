-- `bodies` meets its contract: the pass along the order.
use mathlib.Core.Path.{◌≡◌, ◌∙◌, subst}
use Prim.Native.Nat.{ℕ, ◌<◌}
use native.Mathlib.Omega.{arith}
use lib.ListN.{length-set}
use Rattle.std.proofs.lemmas.List.{get_or-take, length-take-le}
use Rattle.connectivity.specs.Plan.{plan}
use Rattle.components.specs.Bodies.{Rooting}
use Rattle.components.proofs.Bodies.{rooting_step, bodied}
use Rattle.components.proofs.split.bodies.Goals as goal

pub loop-v-preserved : goal.loop-v-preserved
loop-v-preserved c =
    let a = c.args in
    let i = c.loop-v.invariant in
    let p = c.requires in
    let h : c.loop-v.v-index < a.vertices = omega (arith, c.loop-v-test.true, length-take-le a.vertices a.order.now p.order_room) in
    let e = get_or-take a.vertices a.order.now c.loop-v.v-index 0 h in
    rw e (length-set c.loop-v.table _ _ ∙ i.0, λ ends excluded f. rooting_step (plan a.vertices ends excluded) f h p.table_room (rw e at c.root_of-root.ensures) (i.1 ends excluded f))

pub returns : goal.returns
returns c =
    let i = c.loop-v.invariant in
    let s = c.args in
    let q : c.loop-v.v-index ≡ s.vertices = omega (arith, c.loop-v.auto.v-index-end, c.loop-v-test.false, length-take-le s.vertices s.order.now c.requires.order_room) in
    λ ends excluded f low. bodied (plan s.vertices ends excluded) f low (subst (λ (k : ℕ). Rooting s.vertices k c.loop-v.root s.first.now s.order.now s.table.now c.loop-v.table) q (i.1 ends excluded f))
