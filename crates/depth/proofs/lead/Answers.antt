-- `lead` meets its contract: each way out cites the law for its tests.
use native.Mathlib.Omega.{arith}
use Rattle.depth.proofs.Edges.{lead_outside, lead_dead, lead_right, lead_left, lead_neither}
use Rattle.connectivity.specs.Plan.{entire}
use Rattle.connectivity.proofs.Kept.{entire_vertex}
use Rattle.depth.proofs.lead.Goals as goal

pub returns-then-at-ends : goal.returns-then-at-ends
returns-then-at-ends c =
    let a = c.args in
    lead_outside (entire a.vertices a.ends.now) a.dead.now a.v a.e (omega arith)

pub returns-then-dead-at-ne0 : goal.returns-then-dead-at-ne0
returns-then-dead-at-ne0 c =
    let a = c.args in
    lead_dead (entire a.vertices a.ends.now) a.dead.now a.v a.e c.if-dead-at-ne0.true

pub returns-then-a-v : goal.returns-then-a-v
returns-then-a-v c =
    let a = c.args in
    lead_right (entire a.vertices a.ends.now) a.dead.now a.v a.e (entire_vertex a.vertices a.ends.now) (omega arith) c.if-dead-at-ne0.false c.requires.0 c.if-a-v.true

pub returns-then-b-v : goal.returns-then-b-v
returns-then-b-v c =
    let a = c.args in
    lead_left (entire a.vertices a.ends.now) a.dead.now a.v a.e (entire_vertex a.vertices a.ends.now) (omega arith) c.if-dead-at-ne0.false c.requires.0 c.if-a-v.false c.if-b-v.true

pub returns : goal.returns
returns c =
    let a = c.args in
    lead_neither (entire a.vertices a.ends.now) a.dead.now a.v a.e (entire_vertex a.vertices a.ends.now) (omega arith) c.if-dead-at-ne0.false c.requires.0 c.if-a-v.false c.if-b-v.false
