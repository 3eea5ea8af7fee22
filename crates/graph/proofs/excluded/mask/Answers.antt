-- `mask` meets its contract: without excluded vertices nothing is marked; else the marks of the vertices tell those of the edges.
use Prim.Native.Nat.{ℕ}
use lib.ListN.{length-replicate}
use Rattle.connectivity.specs.Plan.{limits}
use Rattle.graph.proofs.Tally.{zeros}
use Rattle.graph.proofs.Barring.{mask_none, barring}
use Rattle.graph.proofs.excluded.mask.Goals as goal

pub returns-then-excluded-eq0 : goal.returns-then-excluded-eq0
returns-then-excluded-eq0 c = mask_none limits _ _ _ c.if-excluded-eq0.true

pub returns : goal.returns
returns c = c.cover.ensures _ (barring limits _ (length-replicate {A = ℕ} limits.vertices 0) (λ k. zeros limits.vertices k) c.mark.ensures)
