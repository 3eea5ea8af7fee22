-- `find` meets its contract: refused, or filled.
use Rattle.connectivity.specs.Plan.{Plan, plan, limits}
use Rattle.components.proofs.Serving.{answer_ready, answer-served, answer-refused}
use Rattle.components.proofs.find.Goals as goal

pub fill-requires : goal.fill-requires
fill-requires c =
    let planned : Plan = let a = c.args in plan a.vertices a.ends.now a.excluded.now in
    let s = c.args in answer_ready limits planned s.table.now c.refusal-answer.ensures c.if-number-eq0.true

pub returns-then-number-eq0 : goal.returns-then-number-eq0
returns-then-number-eq0 c =
    let planned : Plan = let a = c.args in plan a.vertices a.ends.now a.excluded.now in
    let s = c.args in answer-served limits planned s.table.now c.refusal-answer.ensures c.if-number-eq0.true c.fill.ensures

pub returns-else-number-eq0 : goal.returns-else-number-eq0
returns-else-number-eq0 c =
    let planned : Plan = let a = c.args in plan a.vertices a.ends.now a.excluded.now in
    let s = c.args in answer-refused limits planned s.table.now c.refusal-answer.ensures c.if-number-eq0.false
