-- `own_all` meets its contract. The loop's invariant: the edges below e are done.
use mathlib.Core.Path.{◌≡◌, ◌∙◌, ap}
use native.Mathlib.Omega.{arith}
use lib.ListN.{length}
use Rattle.numbers.specs.Tables.{owns_to}
use Rattle.numbers.proofs.Lengths.{owns_long}
use Rattle.numbers.proofs.Steps.{owns_start, owns_next}
use Rattle.numbers.proofs.below.own_all.Goals as goal

pub loop-e-init : goal.loop-e-init
loop-e-init c = let a = c.args in owns_start a.vertices a.ends.now a.first.now a.number.now a.over.now

pub own_one-requires : goal.own_one-requires
own_one-requires c =
    let long : length c.loop-e.over ≡ length c.args.over.now = let a = c.args in ap length c.loop-e.invariant ∙ owns_long a.vertices a.ends.now a.first.now a.number.now a.over.now c.loop-e.e in
    let pre = c.requires in
    (record { admitted = pre.admitted; marks = pre.marks; numbers = pre.numbers; edges = omega (arith, pre.edges, long) }, omega arith)

pub loop-e-preserved : goal.loop-e-preserved
loop-e-preserved c =
    let a = c.args in
    owns_next a.vertices a.ends.now a.first.now a.number.now a.over.now c.loop-e.over _ c.loop-e.e c.loop-e.invariant c.own_one.ensures

pub returns : goal.returns
returns c =
    let a = c.args in
    c.loop-e.invariant ∙ ap (owns_to a.vertices a.ends.now a.first.now a.number.now a.over.now) (omega arith)
