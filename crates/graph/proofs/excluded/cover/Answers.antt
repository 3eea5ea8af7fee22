-- `cover` meets its contract. The loop's invariant: the first e edges have been judged.
use mathlib.Core.Path.{◌∙◌}
use Rattle.graph.proofs.Barring.{covering_start, covering_step, covering_end}
use native.Mathlib.Omega.{arith}
use Rattle.graph.proofs.excluded.cover.Goals as goal

pub loop-e-init : goal.loop-e-init
loop-e-init c = (omega arith, λ x b. covering_start _)

pub loop-e-preserved : goal.loop-e-preserved
loop-e-preserved c = let l = c.loop-e.invariant in (c.cover_one.auto.dead ∙ l.0, λ x b. rw c.cover_one.ensures (covering_step c.args.barred.now b (l.1 x b)))

pub shape_of-dead : goal.shape_of-dead
shape_of-dead c = c.loop-e.invariant.0

pub returns : goal.returns
returns c = λ x b. covering_end (omega arith) (c.loop-e.invariant.1 x b)
