-- `pair` meets its contract: the excluded vertices are marked, and the pairs of all others are put.
use mathlib.Core.Path.{subst}
use mathlib.Core.List.{List}
use Prim.Native.Nat.{ℕ, ◌≤◌}
use native.Mathlib.Omega.{arith}
use lib.ListN.{length, replicate, length-replicate}
use Rattle.connectivity.specs.Plan.{limits}
use Rattle.graph.proofs.Tally.{zeros}
use Rattle.components_texts.specs.Pairs.{Paired}
use Rattle.components_texts.proofs.Listing.{open_others}
use Rattle.components_texts.proofs.pair.Goals as goal

pub returns : goal.returns
returns c =
    let room : c.args.vertices ≤ length {A = ℕ} (replicate limits.vertices 0) = omega (arith, c.requires, length-replicate {A = ℕ} limits.vertices 0) in
    let same = open_others c.args.excluded.now _ _ c.args.vertices room (zeros limits.vertices) c.mark.ensures in
    subst (λ (l : List ℕ). Paired c.args.table.now l c.args.list.now c.pair_open.new.list c.pair_open.result) same c.pair_open.ensures
