-- `build_walks` meets its contract: both ends are made branches, and the three walks are built. The loop's invariant: k of them are built.
use Rattle.std.proofs.Common.{refl, ◌∙◌, arith, length-set}
use Rattle.connectivity.specs.Plan.{limits}
use Rattle.record.specs.Opening.{Raw}
use Rattle.record.proofs.Opening.{root_fits, x_fits, p_fits, x_small, Stage, stage_start, stage_building, stage_next, stage_end}
use Rattle.record.proofs.theta.build_walks.Goals as goal

pub bounds-places-r : goal.bounds-places-r
bounds-places-r c = let a = c.args in root_fits a.places.now a.below.now a.tips.now a.over.now c.requires

pub bounds-places-t : goal.bounds-places-t
bounds-places-t c = let a = c.args in omega (arith, x_fits a.places.now a.below.now a.tips.now a.over.now c.requires, length-set a.places.now a.r 1)

pub overflow_add-below : goal.overflow_add-below
overflow_add-below c = let a = c.args in omega (arith, x_small a.places.now a.below.now a.tips.now a.over.now c.requires)

pub bounds-below-t : goal.bounds-below-t
bounds-below-t c = let a = c.args in p_fits a.places.now a.below.now a.tips.now a.over.now c.requires

pub loop-k-init : goal.loop-k-init
loop-k-init c = (refl, refl, refl, refl, λ places below i j q. stage_start places below _ _ q i j)

pub build_walk-next-requires : goal.build_walk-next-requires
build_walk-next-requires c =
    let Given : Type 0 = let a = c.args in let t = a.t in
    Raw limits a.ends.now a.first.now a.r t.x t.e t.p t.f t.w t.d t.u a.places.now a.below.now a.tips.now a.over.now in
    let stage : (q : Given) → let a = c.args in Stage a.places.now a.below.now a.tips.now a.over.now q c.loop-k.k c.loop-k.places c.loop-k.below c.loop-k.tips c.loop-k.over c.loop-k.next = λ q. let a = c.args in c.loop-k.invariant.4 a.places.now a.below.now refl refl q in
    let a = c.args in
    stage_building a.places.now a.below.now a.tips.now a.over.now c.requires (stage c.requires) c.loop-k-test.true c.way_at-to.ensures

pub loop-k-preserved : goal.loop-k-preserved
loop-k-preserved c =
    let i = c.loop-k.invariant in
    let e = c.build_walk-next.ensures in (
      e.0 ∙ i.0,
      e.1 ∙ i.1,
      e.2 ∙ i.2,
      e.3 ∙ i.3,
      λ places below p q r.
          stage_next places below _ _ r (i.4 places below p q r) c.loop-k-test.true c.way_at-to.ensures
          c.build_walk-next.new.places c.build_walk-next.new.below c.build_walk-next.new.tips c.build_walk-next.new.over c.build_walk-next.result e,
    )

pub returns : goal.returns
returns c =
    let Given : Type 0 = let a = c.args in let t = a.t in
    Raw limits a.ends.now a.first.now a.r t.x t.e t.p t.f t.w t.d t.u a.places.now a.below.now a.tips.now a.over.now in
    let stage : (q : Given) → let a = c.args in Stage a.places.now a.below.now a.tips.now a.over.now q c.loop-k.k c.loop-k.places c.loop-k.below c.loop-k.tips c.loop-k.over c.loop-k.next = λ q. let a = c.args in c.loop-k.invariant.4 a.places.now a.below.now refl refl q in
    let a = c.args in
    λ q. stage_end a.places.now a.below.now a.tips.now a.over.now q (stage q) (omega (arith, c.loop-k-test.false))
