-- `explore` meets its contract: refused by counts and lengths, or nothing to enter, or what `dig` finds.
use mathlib.Core.Path.{◌≡◌, refl}
use mathlib.Core.Logic.{inl, inr}
use Rattle.connectivity.specs.Plan.{entire, limits}
use Rattle.connectivity.specs.Admission.{passed}
use Rattle.depth.specs.Depth.{told}
use Rattle.depth.specs.Parts.{Fit, Rooms}
use Rattle.depth.proofs.Outcomes.{told_zero, told_passed, told-refused, told-fits, from_cases}
use Rattle.depth.proofs.explore.Goals as goal

pub returns-then-number-ne0 : goal.returns-then-number-ne0
returns-then-number-ne0 c =
    let a = c.args in
    from_cases _ _ _ _ _ _ _ _ _ _ _ _ _ _ (told-refused limits (entire a.vertices a.ends.now) a.incident.now a.begins.now a.dead.now a.first.now a.order.now a.cursor.now c.least-places.ensures c.refusal-number.ensures c.if-number-ne0.true, (refl, refl, refl))

pub is_fresh-requires : goal.is_fresh-requires
is_fresh-requires c =
    let zero : let a = c.args in (told limits (entire a.vertices a.ends.now) a.incident.now a.begins.now a.dead.now a.first.now a.order.now a.cursor.now).number ≡ 0 = let a = c.args in
    told_zero limits (entire a.vertices a.ends.now) a.incident.now a.begins.now a.dead.now a.first.now a.order.now a.cursor.now c.least-places.ensures c.refusal-number.ensures c.if-number-ne0.false in
    let fits : let a = c.args in Fit limits (entire a.vertices a.ends.now) a.incident.now a.begins.now a.dead.now × Rooms a.vertices a.first.now a.order.now a.cursor.now = let a = c.args in
    told-fits limits (entire a.vertices a.ends.now) a.incident.now a.begins.now a.dead.now a.first.now a.order.now a.cursor.now (zero) in
    (fits).1.first_room

pub dig-count-requires : goal.dig-count-requires
dig-count-requires c =
    let zero : let a = c.args in (told limits (entire a.vertices a.ends.now) a.incident.now a.begins.now a.dead.now a.first.now a.order.now a.cursor.now).number ≡ 0 = let a = c.args in
    told_zero limits (entire a.vertices a.ends.now) a.incident.now a.begins.now a.dead.now a.first.now a.order.now a.cursor.now c.least-places.ensures c.refusal-number.ensures c.if-number-ne0.false in
    let fits : let a = c.args in Fit limits (entire a.vertices a.ends.now) a.incident.now a.begins.now a.dead.now × Rooms a.vertices a.first.now a.order.now a.cursor.now = let a = c.args in
    told-fits limits (entire a.vertices a.ends.now) a.incident.now a.begins.now a.dead.now a.first.now a.order.now a.cursor.now (zero) in
    let k = fits in
    (k.0, k.1, rw c.if-is_fresh.true at c.is_fresh.ensures)

pub returns-then-is_fresh : goal.returns-then-is_fresh
returns-then-is_fresh c =
    let zero : let a = c.args in (told limits (entire a.vertices a.ends.now) a.incident.now a.begins.now a.dead.now a.first.now a.order.now a.cursor.now).number ≡ 0 = let a = c.args in
    told_zero limits (entire a.vertices a.ends.now) a.incident.now a.begins.now a.dead.now a.first.now a.order.now a.cursor.now c.least-places.ensures c.refusal-number.ensures c.if-number-ne0.false in
    let passes : let a = c.args in told limits (entire a.vertices a.ends.now) a.incident.now a.begins.now a.dead.now a.first.now a.order.now a.cursor.now ≡ passed = let a = c.args in
    told_passed limits (entire a.vertices a.ends.now) a.incident.now a.begins.now a.dead.now a.first.now a.order.now a.cursor.now (zero) in
    from_cases _ _ _ _ _ _ _ _ _ _ _ _ _ _ (passes, inl (rw c.if-is_fresh.true at c.is_fresh.ensures, c.dig-count.ensures))

pub returns : goal.returns
returns c =
    let zero : let a = c.args in (told limits (entire a.vertices a.ends.now) a.incident.now a.begins.now a.dead.now a.first.now a.order.now a.cursor.now).number ≡ 0 = let a = c.args in
    told_zero limits (entire a.vertices a.ends.now) a.incident.now a.begins.now a.dead.now a.first.now a.order.now a.cursor.now c.least-places.ensures c.refusal-number.ensures c.if-number-ne0.false in
    let passes : let a = c.args in told limits (entire a.vertices a.ends.now) a.incident.now a.begins.now a.dead.now a.first.now a.order.now a.cursor.now ≡ passed = let a = c.args in
    told_passed limits (entire a.vertices a.ends.now) a.incident.now a.begins.now a.dead.now a.first.now a.order.now a.cursor.now (zero) in
    from_cases _ _ _ _ _ _ _ _ _ _ _ _ _ _ (passes, inr (rw c.if-is_fresh.false at c.is_fresh.ensures, refl, (refl, refl, refl)))
