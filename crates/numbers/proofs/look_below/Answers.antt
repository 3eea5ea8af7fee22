-- `look_below` meets its contract: refused by the plan or for want of space, or filled.
use mathlib.Core.Path.{◌≡◌, refl}
use mathlib.Core.Bool.{not}
use Rattle.connectivity.specs.Plan.{entire, limits}
use Rattle.graph.specs.Admission.{told_by, lent}
use Rattle.graph.proofs.Telling.{lent-told, told_admitted, told_room}
use Rattle.numbers.specs.Answered.{fits}
use Rattle.numbers.proofs.Serving.{room_is}
use Rattle.numbers.proofs.look_below.Goals as goal

pub fill-requires : goal.fill-requires
fill-requires c =
    let told : let a = c.args in c.refusal-answer.result ≡ told_by (lent limits (entire a.vertices a.ends.now) (fits (entire a.vertices a.ends.now) a.first.now a.order.now a.number.now a.last.now a.over.now)) = let a = c.args in
    let p = entire a.vertices a.ends.now in
    lent-told limits p (not c.is_short-short.result) (room_is p a.first.now a.order.now a.number.now a.last.now a.over.now) c.is_short-short.ensures c.refusal-answer.ensures in
    let a = c.args in
    let p = entire a.vertices a.ends.now in
    let room = fits p a.first.now a.order.now a.number.now a.last.now a.over.now in record {
      admitted = told_admitted limits p room (told) c.if-refused-eq0.true;
      room = told_room limits p room (told) c.if-refused-eq0.true (room_is p a.first.now a.order.now a.number.now a.last.now a.over.now);
    }

pub returns-then-refused-eq0 : goal.returns-then-refused-eq0
returns-then-refused-eq0 c =
    let told : let a = c.args in c.refusal-answer.result ≡ told_by (lent limits (entire a.vertices a.ends.now) (fits (entire a.vertices a.ends.now) a.first.now a.order.now a.number.now a.last.now a.over.now)) = let a = c.args in
    let p = entire a.vertices a.ends.now in
    lent-told limits p (not c.is_short-short.result) (room_is p a.first.now a.order.now a.number.now a.last.now a.over.now) c.is_short-short.ensures c.refusal-answer.ensures in
    record { answer = told; filled = λ _. c.fill.ensures; unchanged = λ n. absurd (n c.if-refused-eq0.true) }

pub returns-else-refused-eq0 : goal.returns-else-refused-eq0
returns-else-refused-eq0 c =
    let told : let a = c.args in c.refusal-answer.result ≡ told_by (lent limits (entire a.vertices a.ends.now) (fits (entire a.vertices a.ends.now) a.first.now a.order.now a.number.now a.last.now a.over.now)) = let a = c.args in
    let p = entire a.vertices a.ends.now in
    lent-told limits p (not c.is_short-short.result) (room_is p a.first.now a.order.now a.number.now a.last.now a.over.now) c.is_short-short.ensures c.refusal-answer.ensures in
    record { answer = told; filled = λ z. absurd (c.if-refused-eq0.false z); unchanged = λ _. (refl, refl, refl) }
