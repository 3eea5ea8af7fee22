-- `singles` meets its contract: a turn for each edge.
use mathlib.Core.Path.{◌≡◌, subst}
use Prim.Native.Nat.{ℕ, ◌/◌}
use native.Mathlib.Omega.{arith}
use lib.ListN.{length}
use Rattle.connectivity.specs.Plan.{plan, graph}
use Rattle.components.specs.Stars.{Singles}
use Rattle.components.proofs.Turning.{worked_more, worked_turn, working_on, working_setting, singles_turn}
use Rattle.components.proofs.pairs.singles.Goals as goal

pub turn-requires : goal.turn-requires
turn-requires c =
    let s = c.requires in
    let i = c.loop-e.invariant in
    let l = c.loop-e-test.true in
    (omega (arith, s.0, l), omega (arith, s.0, l), working_on s.1 i.1, i.0.groups.classes)

pub loop-e-preserved : goal.loop-e-preserved
loop-e-preserved c =
    let s = c.requires in
    let i = c.loop-e.invariant in
    let l = c.loop-e-test.true in
    let t = c.turn.ensures in
    (singles_turn (working_setting s.1) (omega (arith, s.0, l)) (working_on s.1 i.1).claimed_room i.0 t, worked_more i.1 (worked_turn t))

pub returns : goal.returns
returns c =
    let i = c.loop-e.invariant in
    let q : c.loop-e.e ≡ length c.args.ends.now / 2 = omega (arith, c.loop-e.auto.e-end, c.loop-e-test.false, c.requires.0) in
    (subst (λ (k : ℕ). Singles (graph (plan c.args.vertices c.args.ends.now c.args.excluded.now)) c.args.vertices (length c.args.ends.now / 2) k c.loop-e.claimed c.loop-e.table) q i.0, i.1)
