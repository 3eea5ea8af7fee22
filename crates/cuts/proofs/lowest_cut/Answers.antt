-- `lowest_cut` meets its contract: a refusal, and all tables stay; or the lowest cut, and the tables by vertex and the search.
use Rattle.connectivity.specs.Plan.{plan}
use Rattle.cuts.proofs.Serving.{answers_refused, told_space, filled-tables, answers_served}
use Rattle.cuts.proofs.lowest_cut.Goals as goal

pub returns-then-answer-ne0 : goal.returns-then-answer-ne0
returns-then-answer-ne0 c =
    let a = c.args in let p = plan a.vertices a.ends.now a.excluded.now in
    answers_refused p a.incident.now a.begins.now a.first.now a.order.now c.is_short-short.result c.is_short-short.ensures c.refusal-answer.ensures c.if-answer-ne0.true

pub lowest_filled-requires : goal.lowest_filled-requires
lowest_filled-requires c =
    let a = c.args in let p = plan a.vertices a.ends.now a.excluded.now in
    let h = c.is_short-short.ensures in let q = c.refusal-answer.ensures in let z = c.if-answer-ne0.false in let r = told_space p a.incident.now a.begins.now a.first.now a.order.now c.is_short-short.result h q z in (filled-tables p a.incident.now a.begins.now a.first.now a.order.now c.is_short-short.result h q z c.fill.ensures, r.first_room, r.order_room)

pub returns : goal.returns
returns c =
    let a = c.args in let p = plan a.vertices a.ends.now a.excluded.now in
    let l = c.lowest_filled.ensures in answers_served p a.incident.now a.begins.now a.first.now a.order.now c.is_short-short.result c.is_short-short.ensures c.refusal-answer.ensures c.if-answer-ne0.false c.fill.ensures _ l.0 l.1
