-- `lowest_two` meets its contract: no pair whose first edge is lower than the one that is tried disconnects.
use mathlib.Core.Path.{◌∙◌}
use native.Mathlib.Omega.{arith}
use Rattle.cuts.specs.Lowest.{two, uncut}
use Rattle.cuts.proofs.First.{two_found, two_next, two_over}
use Rattle.cuts.proofs.Likes.{pass_two}
use Rattle.cuts.proofs.Trying.{ready_again, restored_more}
use Rattle.cuts.proofs.lowest.lowest_two.Goals as goal

pub loop-e-preserved-then-dead-e-ne0 : goal.loop-e-preserved-then-dead-e-ne0
loop-e-preserved-then-dead-e-ne0 c = let l = c.loop-e in (l.invariant.0 ∙ pass_two _ _ (ready_again c.requires.2 l.invariant.1).live c.loop-e-test.true c.if-dead-e-ne0.true, l.invariant.1)

pub returns-in-Some : goal.returns-in-Some
returns-in-Some c =
    let l = c.loop-e in
    rw (l.invariant.0 ∙ two_found _ _ _ c.loop-e-test.true _ c.in-Some.ensures.0, c.cut.ensures) (two _ _)

pub loop-e-preserved : goal.loop-e-preserved
loop-e-preserved c =
    let l = c.loop-e in
    let t = c.in_default.ensures in
    (l.invariant.0 ∙ two_next _ _ _ c.loop-e-test.true t.0, restored_more l.invariant.1 t.1)

pub returns : goal.returns
returns c =
    let l = c.loop-e in
    rw (l.invariant.0 ∙ two_over _ l.e _ (omega (arith, c.loop-e-test.false, l.auto.e-end))) uncut
