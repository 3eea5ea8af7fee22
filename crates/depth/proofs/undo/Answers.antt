-- `undo` meets its contract. The loop's invariant: the marks of the vertices at the places from the first up to i are 0.
use native.Mathlib.Omega.{arith}
use borrow.Author.Count.{below_more}
use Rattle.depth.proofs.Undoing.{undoing_start, undoing_step, undoing_end}
use Rattle.depth.proofs.undo.Goals as goal

pub loop-i-init : goal.loop-i-init
loop-i-init c = let a = c.args in (λ k h l. absurd (omega arith), undoing_start a.order.now a.from a.first.now)

pub loop-i-preserved : goal.loop-i-preserved
loop-i-preserved c =
    let i = c.loop-i.invariant in
    let t = c.loop-i-test.true in
    let a = c.args in (
      below_more _ _ i.0 (λ h. t),
      rw c.unmark.ensures (undoing_step a.order.now a.from c.loop-i.i (omega arith) (omega arith) i.1),
    )

pub returns : goal.returns
returns c =
    let i = c.loop-i.invariant in
    let a = c.args in
    undoing_end a.order.now a.from a.to c.loop-i.i (λ k b h. omega (arith, i.0 k h b)) (λ k b h. omega arith) i.1
