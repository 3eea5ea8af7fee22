-- `distribute` meets its contract: labels and sums begin as 0, agree from there on, and are settled.
use native.Mathlib.Omega.{arith}
use Rattle.incidence.proofs.Loops.{cleared_front}
use Rattle.labels.proofs.Sums.{summed_start}
use Rattle.labels.proofs.Settling.{settling_after}
use Rattle.labels.proofs.distribute.Goals as goal

pub scatter-requires : goal.scatter-requires
scatter-requires c =
    let pre = c.requires in
    (pre.0, pre.1, summed_start pre.2.edges pre.2.vertices (cleared_front (omega (arith, pre.2.edges)) (c.fill.ensures.after (λ _ h. h))) (cleared_front (omega (arith, pre.2.vertices)) (c.fill-2.ensures.after (λ _ h. h))))

pub returns : goal.returns
returns c =
    let pre = c.requires in
    settling_after (cleared_front (omega (arith, pre.2.edges)) (c.fill.ensures.after (λ _ h. h))) (cleared_front (omega (arith, pre.2.vertices)) (c.fill-2.ensures.after (λ _ h. h))) c.scatter.ensures c.settle.ensures
