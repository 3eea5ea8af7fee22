-- `label` meets its contract: refused by the plan or for want of space, and nothing is written; else the forest, and the labels along it.
use mathlib.Core.Path.{◌≡◌}
use mathlib.Core.Bool.{not}
use native.Mathlib.Omega.{arith}
use Rattle.connectivity.specs.Plan.{Plan, plan, limits}
use Rattle.connectivity.specs.Admission.{Admitted}
use Rattle.graph.specs.Admission.{told_by, lent}
use Rattle.graph.proofs.Telling.{lent-told, told-refused, told_admitted, told_room}
use Rattle.labels.specs.Answered.{Tables, tables, enough}
use Rattle.labels.proofs.LongEnough.{AmpleFor, ample_is, ample_spacious, ample_rooms}
use Rattle.labels.proofs.Masks.{front_masks}
use Rattle.labels.proofs.Answers.{cancelled, answers_refused, answers_served}
use Rattle.labels.proofs.label.Goals as goal

pub plant-requires : goal.plant-requires
plant-requires c =
    let planned : Plan = let a = c.args in plan a.vertices a.ends.now a.excluded.now in
    let lending : Tables = let a = c.args in
    tables a.incident.now a.begins.now a.dead.now a.first.now a.order.now a.cursor.now a.labels.now a.sums.now in
    let told : c.refusal-answer.result ≡ told_by (lent limits planned (enough planned lending)) = lent-told limits planned (not c.is_short-short.result) (ample_is planned lending) c.is_short-short.ensures c.refusal-answer.ensures in
    let admitted : Admitted limits planned = told_admitted limits planned (enough planned lending) told c.if-number-eq0.true in
    let ample : AmpleFor planned lending = told_room limits planned (enough planned lending) told c.if-number-eq0.true (ample_is planned lending) in
    let p = planned in
    let t = lending in
    (admitted, ample_spacious p t ample, ample_rooms p t ample)

pub distribute-requires : goal.distribute-requires
distribute-requires c =
    let planned : Plan = let a = c.args in plan a.vertices a.ends.now a.excluded.now in
    let lending : Tables = let a = c.args in
    tables a.incident.now a.begins.now a.dead.now a.first.now a.order.now a.cursor.now a.labels.now a.sums.now in
    let told : c.refusal-answer.result ≡ told_by (lent limits planned (enough planned lending)) = lent-told limits planned (not c.is_short-short.result) (ample_is planned lending) c.is_short-short.ensures c.refusal-answer.ensures in
    let admitted : Admitted limits planned = told_admitted limits planned (enough planned lending) told c.if-number-eq0.true in
    let ample : AmpleFor planned lending = told_room limits planned (enough planned lending) told c.if-number-eq0.true (ample_is planned lending) in
    let t = lending in
    let made = c.plant.ensures in
    let s = made.spanned in
    let r = ample.room in (
      admitted,
      front_masks planned t.dead ample.edge_marks made.laid.dead_front,
      record { marks = omega (arith, r.marks, s.first_kept.long); places = omega (arith, r.places, s.order_kept.long); edges = r.edges; vertices = r.vertices },
    )

pub returns-then-number-eq0 : goal.returns-then-number-eq0
returns-then-number-eq0 c =
    let lending : Tables = let a = c.args in
    tables a.incident.now a.begins.now a.dead.now a.first.now a.order.now a.cursor.now a.labels.now a.sums.now in
    let planned : Plan = let a = c.args in plan a.vertices a.ends.now a.excluded.now in
    let told : c.refusal-answer.result ≡ told_by (lent limits planned (enough planned lending)) = lent-told limits planned (not c.is_short-short.result) (ample_is planned lending) c.is_short-short.ensures c.refusal-answer.ensures in
    let admitted : Admitted limits planned = told_admitted limits planned (enough planned lending) told c.if-number-eq0.true in
    let ample : AmpleFor planned lending = told_room limits planned (enough planned lending) told c.if-number-eq0.true (ample_is planned lending) in
    let made = c.plant.ensures in
    answers_served lending told c.if-number-eq0.true made.laid made.spanned
    (cancelled admitted ample.room.vertices made.spanned.forest c.distribute.ensures)

pub returns-else-number-eq0 : goal.returns-else-number-eq0
returns-else-number-eq0 c =
    let planned : Plan = let a = c.args in plan a.vertices a.ends.now a.excluded.now in
    let lending : Tables = let a = c.args in
    tables a.incident.now a.begins.now a.dead.now a.first.now a.order.now a.cursor.now a.labels.now a.sums.now in
    let told : c.refusal-answer.result ≡ told_by (lent limits planned (enough planned lending)) = lent-told limits planned (not c.is_short-short.result) (ample_is planned lending) c.is_short-short.ensures c.refusal-answer.ensures in
    let p = planned in
    let t = lending in
    answers_refused t (told-refused limits p (enough p t) told c.if-number-eq0.false)
