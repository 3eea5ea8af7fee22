-- `search` meets its contract: the marks tell what the root reaches without the two edges.
use Prim.Native.Nat.{ℕ}
use native.Mathlib.Omega.{arith}
use lib.ListN.{length-replicate}
use Rattle.connectivity.specs.Plan.{limits}
use Rattle.components.proofs.Attempting.{searched}
use Rattle.components.proofs.tries.search.Goals as goal

pub returns : goal.returns
returns c =
    let s = c.requires in
    let a = s.0.admitted in
    let room = length-replicate {A = ℕ} limits.vertices 0 in
    searched s.0 s.1 s.2 s.3 c.mask.ensures s.4 (omega (arith, a.vertices, room)) (omega (arith, a.vertices, room)) s.5 c.mark.ensures c.explore.ensures
