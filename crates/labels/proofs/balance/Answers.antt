-- `balance` meets its contract: refused by the plan or for want of space, or labelled along the order.
use mathlib.Core.Path.{◌≡◌}
use mathlib.Core.Bool.{Bool, not}
use Rattle.connectivity.specs.Plan.{Plan, plan, limits}
use Rattle.connectivity.specs.Admission.{Admitted}
use Rattle.graph.specs.Admission.{told_by, lent}
use Rattle.graph.proofs.Telling.{lent-told, told_admitted, told_room, told-refused}
use Rattle.labels.specs.Answered.{fits}
use Rattle.labels.proofs.LongEnough.{room_is}
use Rattle.labels.proofs.Masks.{masked_made}
use Rattle.labels.proofs.Labelled.{labelled_refused, labelled_done}
use Rattle.labels.proofs.balance.Goals as goal

pub distribute-requires : goal.distribute-requires
distribute-requires c =
    let planned : Plan = let a = c.args in plan a.vertices a.ends.now a.excluded.now in
    let roomy : Bool = let a = c.args in fits planned a.first.now a.order.now a.labels.now a.sums.now in
    let told : c.refusal-answer.result ≡ told_by (lent limits planned roomy) = let a = c.args in
    lent-told limits planned (not c.is_tight-short.result) (room_is planned a.first.now a.order.now a.labels.now a.sums.now) c.is_tight-short.ensures c.refusal-answer.ensures in
    let admitted : Admitted limits planned = told_admitted limits planned roomy told c.if-number-eq0.true in
    let p = planned in
    let a = c.args in
    let d = admitted in
    (d, masked_made d c.mask.ensures, told_room limits p roomy told c.if-number-eq0.true (room_is p a.first.now a.order.now a.labels.now a.sums.now))

pub returns-then-number-eq0 : goal.returns-then-number-eq0
returns-then-number-eq0 c =
    let planned : Plan = let a = c.args in plan a.vertices a.ends.now a.excluded.now in
    let roomy : Bool = let a = c.args in fits planned a.first.now a.order.now a.labels.now a.sums.now in
    let told : c.refusal-answer.result ≡ told_by (lent limits planned roomy) = let a = c.args in
    lent-told limits planned (not c.is_tight-short.result) (room_is planned a.first.now a.order.now a.labels.now a.sums.now) c.is_tight-short.ensures c.refusal-answer.ensures in
    labelled_done _ _ _ _ told c.if-number-eq0.true c.distribute.ensures

pub returns-else-number-eq0 : goal.returns-else-number-eq0
returns-else-number-eq0 c =
    let planned : Plan = let a = c.args in plan a.vertices a.ends.now a.excluded.now in
    let roomy : Bool = let a = c.args in fits planned a.first.now a.order.now a.labels.now a.sums.now in
    let told : c.refusal-answer.result ≡ told_by (lent limits planned roomy) = let a = c.args in
    lent-told limits planned (not c.is_tight-short.result) (room_is planned a.first.now a.order.now a.labels.now a.sums.now) c.is_tight-short.ensures c.refusal-answer.ensures in
    labelled_refused _ _ _ _ (told-refused _ _ _ told c.if-number-eq0.false)
