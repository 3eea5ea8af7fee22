-- `lowest_pair` meets its contract: the chains that it makes serve the search for a pair.
use Prim.Native.Nat.{ℕ}
use native.Mathlib.Omega.{arith}
use lib.ListN.{length-replicate}
use Rattle.connectivity.specs.Plan.{limits}
use Rattle.cuts.proofs.Likes.{chained}
use Rattle.cuts.proofs.lowest.lowest_pair.Goals as goal

pub lowest_two-requires : goal.lowest_two-requires
lowest_two-requires c =
    let s = c.requires in
    let h = s.0.shown in
    let r = h.room in
    let e = h.edges in
    let m = s.1.tables.tabled.admitted.edges in
    (s.0, chained c.chain.ensures r (omega (arith, e, m, length-replicate {A = ℕ} limits.edges 0)) (omega arith), s.1)
