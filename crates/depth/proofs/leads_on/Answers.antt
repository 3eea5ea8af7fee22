-- `leads_on` meets its contract, by what `lead` tells.
use native.Mathlib.Omega.{arith}
use Rattle.depth.proofs.Edges.{on_none, on_old, on_new}
use Rattle.connectivity.specs.Plan.{entire}
use Rattle.depth.proofs.leads_on.Goals as goal

pub returns-then-w-vertices : goal.returns-then-w-vertices
returns-then-w-vertices c =
    let a = c.args in
    on_none (entire a.vertices a.ends.now) a.dead.now a.first.now a.v a.e _ c.lead-w.ensures (omega arith)

pub returns-then-first-at-ne0 : goal.returns-then-first-at-ne0
returns-then-first-at-ne0 c =
    let a = c.args in
    on_old (entire a.vertices a.ends.now) a.dead.now a.first.now a.v a.e _ c.lead-w.ensures c.if-first-at-ne0.true

pub returns : goal.returns
returns c =
    let a = c.args in
    on_new (entire a.vertices a.ends.now) a.dead.now a.first.now a.v a.e _ c.lead-w.ensures (omega arith) c.if-first-at-ne0.false
