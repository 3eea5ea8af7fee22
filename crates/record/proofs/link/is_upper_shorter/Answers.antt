-- `is_upper_shorter` meets its contract. The loop's invariant: both are onward on their ways.
use Rattle.record.proofs.Paths.{left_less, Onward, onward_start, onward_rises, onward_step}
use Rattle.record.proofs.link.is_upper_shorter.Goals as goal

pub loop-a-init : goal.loop-a-init
loop-a-init c = λ d. (onward_start d.upper, onward_start d.lower)

pub above-a-requires : goal.above-a-requires
above-a-requires c =
    let upper : Onward c.requires.upper c.loop-a.a = (c.loop-a.invariant c.requires).0 in
    onward_rises upper c.loop-a-test.true

pub above-b-requires : goal.above-b-requires
above-b-requires c =
    let lower : Onward c.requires.lower c.loop-a.b = (c.loop-a.invariant c.requires).1 in
    onward_rises lower c.if-b-v.false

pub loop-a-smaller : goal.loop-a-smaller
loop-a-smaller c =
    let upper : Onward c.requires.upper c.loop-a.a = (c.loop-a.invariant c.requires).0 in
    rw c.above-a.ensures (left_less upper c.loop-a-test.true)

pub loop-a-preserved : goal.loop-a-preserved
loop-a-preserved c =
    λ d. rw c.above-a.ensures
    (rw c.above-b.ensures (onward_step (c.loop-a.invariant d).0 c.loop-a-test.true, onward_step (c.loop-a.invariant d).1 c.if-b-v.false))
