-- `misfits` meets its contract. The loop's invariant: where the sum is 0, the answer is the one from edge e on.
use mathlib.Core.Path.{refl, sym, ◌∙◌}
use Prim.Native.Nat.{◌*◌, ◌≤◌}
use native.Mathlib.Omega.{arith}
use lib.ListN.{length-drop}
use Rattle.graph.proofs.Laws.{number_most, ends_next, ends_over}
use Rattle.graph.proofs.misfits.Goals as goal

pub loop-e-init : goal.loop-e-init
loop-e-init c = (omega arith, omega arith, λ z. refl)

small : (c : goal.After-judge_edge-sum) → c.judge_edge-sum.result ≤ 5
small c = rw c.judge_edge-sum.ensures (number_most _ _ _)

pub overflow_add-sum : goal.overflow_add-sum
overflow_add-sum c = omega (arith, small c)

pub loop-e-preserved : goal.loop-e-preserved
loop-e-preserved c = (
  omega arith,
  omega (arith, small c),
  λ z. c.loop-e.invariant.2 (omega (arith, z)) ∙ ends_next _ _ c.loop-e.e (omega arith) (sym c.judge_edge-sum.ensures ∙ omega (arith, z)),
)

pub returns : goal.returns
returns c = λ z. c.loop-e.invariant.2 z ∙ ends_over _ _ _ (omega (arith, length-drop (2 * c.loop-e.e) c.args.ends.now))
