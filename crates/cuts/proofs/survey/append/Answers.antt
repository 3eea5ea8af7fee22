-- `append` meets its contract. The loop's invariant: the first i of them stand where they should.
use mathlib.Core.Path.{refl}
use Rattle.graph.proofs.Marking.{index_in}
use Rattle.cuts.proofs.Surveying.{added_step, added_end}
use native.Mathlib.Omega.{arith}
use Rattle.cuts.proofs.survey.append.Goals as goal

pub put_root-requires : goal.put_root-requires
put_root-requires c =
    let l = c.loop-i in
    let h = c.loop-i-test.true in
    (omega (arith, c.requires.inside _ (index_in c.args.excluded.now l.i h refl), l.invariant.first_long), omega (arith, c.requires.room, h, l.invariant.order_long))

pub loop-i-preserved : goal.loop-i-preserved
loop-i-preserved c =
    let l = c.loop-i in
    let h = c.loop-i-test.true in
    let e = c.put_root.ensures in
    rw (e.0, e.1) (added_step l.invariant (c.requires.inside _ (index_in c.args.excluded.now l.i h refl)) (omega (arith, c.requires.room, h)))

pub returns : goal.returns
returns c = added_end (omega arith) c.loop-i.invariant
