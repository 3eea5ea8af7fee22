-- `lowest_kept` meets its contract. The loop's invariant: the gap is the one from place k on.
use mathlib.Core.Path.{refl, sym, ◌∙◌}
use lib.ListN.{length-drop}
use Rattle.graph.proofs.Barring.{gap_next, gap_here, gap_over}
use native.Mathlib.Omega.{arith}
use Rattle.graph.proofs.excluded.lowest_kept.Goals as goal

pub loop-k-init : goal.loop-k-init
loop-k-init c = (omega arith, refl)

pub returns-then-v-k : goal.returns-then-v-k
returns-then-v-k c = sym (c.loop-k.invariant.1 ∙ gap_here _ _ (omega arith) c.if-v-k.true)

pub loop-k-preserved : goal.loop-k-preserved
loop-k-preserved c = (omega arith, c.loop-k.invariant.1 ∙ gap_next _ _ (omega arith) c.if-v-k.false)

pub returns : goal.returns
returns c = sym (c.loop-k.invariant.1 ∙ gap_over _ _ (omega (arith, length-drop c.loop-k.k c.args.excluded.now)) ∙ omega arith)
