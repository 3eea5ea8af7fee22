-- `fill` meets its contract. The loop's invariant: the first i words are there.
use mathlib.Core.Path.{◌≡◌, ◌∙◌}
use native.Mathlib.Omega.{arith}
use lib.ListN.{length}
use Rattle.removal.proofs.Packing.{filled_step, filled-all}
use Rattle.removal.proofs.fill.Goals as goal

pub loop-i-preserved : goal.loop-i-preserved
loop-i-preserved c = filled_step _ c.loop-i.words (omega arith) c.word.ensures c.loop-i.invariant

pub returns : goal.returns
returns c =
    let all : c.loop-i.i ≡ length c.loop-i.words = omega arith in
    filled-all _ c.loop-i.words (rw all at c.loop-i.invariant) ∙ rw c.loop-i.auto.words
