-- `leave_link` meets its contract. The loop's invariant: no edge leads out at a vertex of the link strictly above a or strictly below b. The measure
-- is how far their numbers are apart.
use Rattle.std.proofs.Common.{◌≡◌, ◌<◌, length, sym, ap, ◌∙◌, subst, arith}
use native.Mathlib.Decide.{dec_le}
use Rattle.connectivity.specs.Plan.{limits}
use Rattle.graph.specs.Marks.{read}
use Rattle.record.specs.Leaving.{Leaving}
use Rattle.record.proofs.Outward.{inside_below, ranging, sized, looking, stays_at, leaves_at, Still, Sought, sought_start, Descended, sought_down, Ascended, sought_up}
use Rattle.record.proofs.exit.leave_link.Goals as goal

pub range_below-under-requires : goal.range_below-under-requires
range_below-under-requires c = ranging c.requires

pub size-a_work-requires : goal.size-a_work-requires
size-a_work-requires c = sized c.requires c.args.top c.requires.tips.has_top

pub size-b_work-requires : goal.size-b_work-requires
size-b_work-requires c = sized c.requires c.args.bottom c.requires.tips.has_bottom

pub loop-under-init : goal.loop-under-init
loop-under-init c = sought_start

pub exit_at-f-requires : goal.exit_at-f-requires
exit_at-f-requires c =
    let Given : Type 0 = let a = c.args in
    Leaving limits a.ends.now a.incident.now a.begins.now a.first.now a.number.now a.last.now a.places.now a.below.now
    a.over.now a.top a.bottom in
    let sought : (d : Given) → Sought d c.loop-under.a c.loop-under.b = λ d. c.loop-under.invariant d in
    let inside : (d : Given) → read c.args.places.now c.chosen-v.result ≡ d.link = λ d. let place = read c.args.places.now in elim (dec_le c.loop-under.a_work c.loop-under.b_work) [
      | yes h ↦ ap place (c.chosen-v.ensures.top h) ∙ (sought d).upper
      | no n ↦ ap place (c.chosen-v.ensures.bottom (omega (arith, n))) ∙ (sought d).lower
    ] in
    looking c.requires (inside c.requires)

pub overflow_sub-result : goal.overflow_sub-result
overflow_sub-result c = omega (arith, c.if-f-ne0.true)

pub returns-then-f-ne0 : goal.returns-then-f-ne0
returns-then-f-ne0 c =
    let Given : Type 0 = let a = c.args in
    Leaving limits a.ends.now a.incident.now a.begins.now a.first.now a.number.now a.last.now a.places.now a.below.now
    a.over.now a.top a.bottom in
    let sought : (d : Given) → Sought d c.loop-under.a c.loop-under.b = λ d. c.loop-under.invariant d in
    let inside : (d : Given) → read c.args.places.now c.chosen-v.result ≡ d.link = λ d. let place = read c.args.places.now in elim (dec_le c.loop-under.a_work c.loop-under.b_work) [
      | yes h ↦ ap place (c.chosen-v.ensures.top h) ∙ (sought d).upper
      | no n ↦ ap place (c.chosen-v.ensures.bottom (omega (arith, n))) ∙ (sought d).lower
    ] in
    λ d. leaves_at d c.range_below-under.ensures (inside d) c.exit_at-f.ensures c.if-f-ne0.true

pub overflow_cast-a : goal.overflow_cast-a
overflow_cast-a c =
    let Given : Type 0 = let a = c.args in
    Leaving limits a.ends.now a.incident.now a.begins.now a.first.now a.number.now a.last.now a.places.now a.below.now
    a.over.now a.top a.bottom in
    let sought : (d : Given) → Sought d c.loop-under.a c.loop-under.b = λ d. c.loop-under.invariant d in
    omega (arith, inside_below c.requires (sought c.requires).upper, c.requires.ground.rooted.admitted.vertices)

pub offset_bounds-below-a : goal.offset_bounds-below-a
offset_bounds-below-a c =
    let Given : Type 0 = let a = c.args in
    Leaving limits a.ends.now a.incident.now a.begins.now a.first.now a.number.now a.last.now a.places.now a.below.now
    a.over.now a.top a.bottom in
    let sought : (d : Given) → Sought d c.loop-under.a c.loop-under.b = λ d. c.loop-under.invariant d in
    omega (arith, inside_below c.requires (sought c.requires).upper, c.requires.ground.rooted.admitted.vertices)

pub bounds-below-a : goal.bounds-below-a
bounds-below-a c =
    let Given : Type 0 = let a = c.args in
    Leaving limits a.ends.now a.incident.now a.begins.now a.first.now a.number.now a.last.now a.places.now a.below.now
    a.over.now a.top a.bottom in
    let sought : (d : Given) → Sought d c.loop-under.a c.loop-under.b = λ d. c.loop-under.invariant d in
    let below_long : c.loop-under.a < length c.args.below.now = let d = c.requires in omega (arith, inside_below d (sought d).upper, d.below_long) in
    below_long

pub overflow_sub-a : goal.overflow_sub-a
overflow_sub-a c =
    let Given : Type 0 = let a = c.args in
    Leaving limits a.ends.now a.incident.now a.begins.now a.first.now a.number.now a.last.now a.places.now a.below.now
    a.over.now a.top a.bottom in
    let sought : (d : Given) → Sought d c.loop-under.a c.loop-under.b = λ d. c.loop-under.invariant d in
    let inside : (d : Given) → read c.args.places.now c.chosen-v.result ≡ d.link = λ d. let place = read c.args.places.now in elim (dec_le c.loop-under.a_work c.loop-under.b_work) [
      | yes h ↦ ap place (c.chosen-v.ensures.top h) ∙ (sought d).upper
      | no n ↦ ap place (c.chosen-v.ensures.bottom (omega (arith, n))) ∙ (sought d).lower
    ] in
    let still : (d : Given) → Still d c.chosen-v.result = λ d. stays_at d c.range_below-under.ensures (inside d) c.exit_at-f.ensures c.if-f-ne0.false in
    let descended : (d : Given) → Descended d c.loop-under.a c.loop-under.b = λ d. sought_down d (sought d) (subst (Still d) (c.chosen-v.ensures.top c.if-a_work-b_work.true) (still d)) in
    (descended c.requires).some

pub size-requires : goal.size-requires
size-requires c =
    let Given : Type 0 = let a = c.args in
    Leaving limits a.ends.now a.incident.now a.begins.now a.first.now a.number.now a.last.now a.places.now a.below.now
    a.over.now a.top a.bottom in
    let sought : (d : Given) → Sought d c.loop-under.a c.loop-under.b = λ d. c.loop-under.invariant d in
    let inside : (d : Given) → read c.args.places.now c.chosen-v.result ≡ d.link = λ d. let place = read c.args.places.now in elim (dec_le c.loop-under.a_work c.loop-under.b_work) [
      | yes h ↦ ap place (c.chosen-v.ensures.top h) ∙ (sought d).upper
      | no n ↦ ap place (c.chosen-v.ensures.bottom (omega (arith, n))) ∙ (sought d).lower
    ] in
    let still : (d : Given) → Still d c.chosen-v.result = λ d. stays_at d c.range_below-under.ensures (inside d) c.exit_at-f.ensures c.if-f-ne0.false in
    let descended : (d : Given) → Descended d c.loop-under.a c.loop-under.b = λ d. sought_down d (sought d) (subst (Still d) (c.chosen-v.ensures.top c.if-a_work-b_work.true) (still d)) in
    let d = c.requires in sized d _ (descended d).next.upper

pub loop-under-smaller-then-a_work-b_work : goal.loop-under-smaller-then-a_work-b_work
loop-under-smaller-then-a_work-b_work c =
    let Given : Type 0 = let a = c.args in
    Leaving limits a.ends.now a.incident.now a.begins.now a.first.now a.number.now a.last.now a.places.now a.below.now
    a.over.now a.top a.bottom in
    let sought : (d : Given) → Sought d c.loop-under.a c.loop-under.b = λ d. c.loop-under.invariant d in
    let inside : (d : Given) → read c.args.places.now c.chosen-v.result ≡ d.link = λ d. let place = read c.args.places.now in elim (dec_le c.loop-under.a_work c.loop-under.b_work) [
      | yes h ↦ ap place (c.chosen-v.ensures.top h) ∙ (sought d).upper
      | no n ↦ ap place (c.chosen-v.ensures.bottom (omega (arith, n))) ∙ (sought d).lower
    ] in
    let still : (d : Given) → Still d c.chosen-v.result = λ d. stays_at d c.range_below-under.ensures (inside d) c.exit_at-f.ensures c.if-f-ne0.false in
    let descended : (d : Given) → Descended d c.loop-under.a c.loop-under.b = λ d. sought_down d (sought d) (subst (Still d) (c.chosen-v.ensures.top c.if-a_work-b_work.true) (still d)) in
    let z = descended c.requires in omega (arith, z.rises, z.most)

pub loop-under-preserved-then-a_work-b_work : goal.loop-under-preserved-then-a_work-b_work
loop-under-preserved-then-a_work-b_work c =
    let Given : Type 0 = let a = c.args in
    Leaving limits a.ends.now a.incident.now a.begins.now a.first.now a.number.now a.last.now a.places.now a.below.now
    a.over.now a.top a.bottom in
    let sought : (d : Given) → Sought d c.loop-under.a c.loop-under.b = λ d. c.loop-under.invariant d in
    let inside : (d : Given) → read c.args.places.now c.chosen-v.result ≡ d.link = λ d. let place = read c.args.places.now in elim (dec_le c.loop-under.a_work c.loop-under.b_work) [
      | yes h ↦ ap place (c.chosen-v.ensures.top h) ∙ (sought d).upper
      | no n ↦ ap place (c.chosen-v.ensures.bottom (omega (arith, n))) ∙ (sought d).lower
    ] in
    let still : (d : Given) → Still d c.chosen-v.result = λ d. stays_at d c.range_below-under.ensures (inside d) c.exit_at-f.ensures c.if-f-ne0.false in
    let descended : (d : Given) → Descended d c.loop-under.a c.loop-under.b = λ d. sought_down d (sought d) (subst (Still d) (c.chosen-v.ensures.top c.if-a_work-b_work.true) (still d)) in
    λ d. (descended d).next

pub above-b-requires : goal.above-b-requires
above-b-requires c =
    let Given : Type 0 = let a = c.args in
    Leaving limits a.ends.now a.incident.now a.begins.now a.first.now a.number.now a.last.now a.places.now a.below.now
    a.over.now a.top a.bottom in
    let sought : (d : Given) → Sought d c.loop-under.a c.loop-under.b = λ d. c.loop-under.invariant d in
    let inside : (d : Given) → read c.args.places.now c.chosen-v.result ≡ d.link = λ d. let place = read c.args.places.now in elim (dec_le c.loop-under.a_work c.loop-under.b_work) [
      | yes h ↦ ap place (c.chosen-v.ensures.top h) ∙ (sought d).upper
      | no n ↦ ap place (c.chosen-v.ensures.bottom (omega (arith, n))) ∙ (sought d).lower
    ] in
    let still : (d : Given) → Still d c.chosen-v.result = λ d. stays_at d c.range_below-under.ensures (inside d) c.exit_at-f.ensures c.if-f-ne0.false in
    let ascended : (d : Given) → Ascended d c.loop-under.a c.loop-under.b = λ d. sought_up d (sought d) (subst (Still d) (c.chosen-v.ensures.bottom c.if-a_work-b_work.false) (still d)) in
    (ascended c.requires).rises

pub size-requires-else-a_work-b_work : goal.size-requires-else-a_work-b_work
size-requires-else-a_work-b_work c =
    let Given : Type 0 = let a = c.args in
    Leaving limits a.ends.now a.incident.now a.begins.now a.first.now a.number.now a.last.now a.places.now a.below.now
    a.over.now a.top a.bottom in
    let sought : (d : Given) → Sought d c.loop-under.a c.loop-under.b = λ d. c.loop-under.invariant d in
    let inside : (d : Given) → read c.args.places.now c.chosen-v.result ≡ d.link = λ d. let place = read c.args.places.now in elim (dec_le c.loop-under.a_work c.loop-under.b_work) [
      | yes h ↦ ap place (c.chosen-v.ensures.top h) ∙ (sought d).upper
      | no n ↦ ap place (c.chosen-v.ensures.bottom (omega (arith, n))) ∙ (sought d).lower
    ] in
    let still : (d : Given) → Still d c.chosen-v.result = λ d. stays_at d c.range_below-under.ensures (inside d) c.exit_at-f.ensures c.if-f-ne0.false in
    let ascended : (d : Given) → Ascended d c.loop-under.a c.loop-under.b = λ d. sought_up d (sought d) (subst (Still d) (c.chosen-v.ensures.bottom c.if-a_work-b_work.false) (still d)) in
    let risen : (d : Given) → Sought d c.loop-under.a c.above-b.result = λ d. subst (Sought d c.loop-under.a) (sym c.above-b.ensures) (ascended d).next in
    let d = c.requires in sized d c.above-b.result (risen d).lower

pub loop-under-smaller : goal.loop-under-smaller
loop-under-smaller c =
    let Given : Type 0 = let a = c.args in
    Leaving limits a.ends.now a.incident.now a.begins.now a.first.now a.number.now a.last.now a.places.now a.below.now
    a.over.now a.top a.bottom in
    let sought : (d : Given) → Sought d c.loop-under.a c.loop-under.b = λ d. c.loop-under.invariant d in
    let inside : (d : Given) → read c.args.places.now c.chosen-v.result ≡ d.link = λ d. let place = read c.args.places.now in elim (dec_le c.loop-under.a_work c.loop-under.b_work) [
      | yes h ↦ ap place (c.chosen-v.ensures.top h) ∙ (sought d).upper
      | no n ↦ ap place (c.chosen-v.ensures.bottom (omega (arith, n))) ∙ (sought d).lower
    ] in
    let still : (d : Given) → Still d c.chosen-v.result = λ d. stays_at d c.range_below-under.ensures (inside d) c.exit_at-f.ensures c.if-f-ne0.false in
    let ascended : (d : Given) → Ascended d c.loop-under.a c.loop-under.b = λ d. sought_up d (sought d) (subst (Still d) (c.chosen-v.ensures.bottom c.if-a_work-b_work.false) (still d)) in
    let z = ascended c.requires in
    let p = ap (read c.args.number.now) c.above-b.ensures in
    omega (arith, z.falls, z.least, p)

pub loop-under-preserved : goal.loop-under-preserved
loop-under-preserved c =
    let Given : Type 0 = let a = c.args in
    Leaving limits a.ends.now a.incident.now a.begins.now a.first.now a.number.now a.last.now a.places.now a.below.now
    a.over.now a.top a.bottom in
    let sought : (d : Given) → Sought d c.loop-under.a c.loop-under.b = λ d. c.loop-under.invariant d in
    let inside : (d : Given) → read c.args.places.now c.chosen-v.result ≡ d.link = λ d. let place = read c.args.places.now in elim (dec_le c.loop-under.a_work c.loop-under.b_work) [
      | yes h ↦ ap place (c.chosen-v.ensures.top h) ∙ (sought d).upper
      | no n ↦ ap place (c.chosen-v.ensures.bottom (omega (arith, n))) ∙ (sought d).lower
    ] in
    let still : (d : Given) → Still d c.chosen-v.result = λ d. stays_at d c.range_below-under.ensures (inside d) c.exit_at-f.ensures c.if-f-ne0.false in
    let ascended : (d : Given) → Ascended d c.loop-under.a c.loop-under.b = λ d. sought_up d (sought d) (subst (Still d) (c.chosen-v.ensures.bottom c.if-a_work-b_work.false) (still d)) in
    let risen : (d : Given) → Sought d c.loop-under.a c.above-b.result = λ d. subst (Sought d c.loop-under.a) (sym c.above-b.ensures) (ascended d).next in
    λ d. risen d
