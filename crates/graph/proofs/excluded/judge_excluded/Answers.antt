-- `judge_excluded` meets its contract. The loop's invariant: the answer is the one from place k on, and no place is above the number that comes next.
use mathlib.Core.Path.{refl, sym, ap, ◌∙◌}
use lib.ListN.{length-drop}
use Rattle.graph.specs.Admission.{told_by}
use Rattle.graph.proofs.Barring.{excluded_next, excluded_low, excluded_high, excluded_over}
use native.Mathlib.Omega.{arith}
use Rattle.graph.proofs.excluded.judge_excluded.Goals as goal

pub loop-k-init : goal.loop-k-init
loop-k-init c = (omega arith, omega arith, omega arith, refl)

pub eighteen-requires : goal.eighteen-requires
eighteen-requires c = omega (arith, c.ranges.vertices)

pub returns-then-v-low : goal.returns-then-v-low
returns-then-v-low c = let l = c.loop-k in c.eighteen.ensures ∙ sym (ap told_by (l.invariant.3 ∙ excluded_low _ _ _ _ (omega arith) (omega arith)))

pub eighteen-requires-then-vertices-v : goal.eighteen-requires-then-vertices-v
eighteen-requires-then-vertices-v c = omega (arith, c.ranges.vertices)

pub returns-then-vertices-v : goal.returns-then-vertices-v
returns-then-vertices-v c = let l = c.loop-k in c.eighteen-then-vertices-v.ensures ∙ sym (ap told_by (l.invariant.3 ∙ excluded_high _ _ _ _ (omega arith) (omega arith)))

pub overflow_add-low : goal.overflow_add-low
overflow_add-low c = omega (arith, c.ranges.vertices)

pub loop-k-preserved : goal.loop-k-preserved
loop-k-preserved c = (omega arith, omega arith, omega arith, c.loop-k.invariant.3 ∙ excluded_next _ _ _ _ (omega arith) (omega arith) (omega arith))

pub returns : goal.returns
returns c = sym (ap told_by (c.loop-k.invariant.3 ∙ excluded_over _ _ _ _ (omega (arith, length-drop c.loop-k.k c.args.excluded.now))))
