-- `scatter` meets its contract. The loop's invariant: the sums are those of the labels, and what lies behind has stayed.
use native.Mathlib.Omega.{arith}
use Rattle.labels.proofs.Sums.{ready, scattered_start, scattered_masked}
use Rattle.labels.proofs.scatter.Goals as goal

pub loop-e-init : goal.loop-e-init
loop-e-init c = scattered_start c.requires.2

pub toggle-requires : goal.toggle-requires
toggle-requires c =
    ready c.requires.0 (omega arith) c.loop-e.invariant.summed

pub loop-e-preserved : goal.loop-e-preserved
loop-e-preserved c =
    let pre = c.requires in
    scattered_masked pre.0 pre.1 (omega arith) c.noise.ensures c.loop-e.invariant c.toggle.ensures
