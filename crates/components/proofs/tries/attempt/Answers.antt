-- `attempt` meets its contract: a search, and the groups taken apart by what it has seen.
use Prim.Native.Nat.{ℕ}
use native.Mathlib.Omega.{arith}
use lib.ListN.{length-replicate}
use Rattle.connectivity.specs.Plan.{limits}
use Rattle.connectivity.proofs.Kept.{edge_size_lem}
use Rattle.graph.proofs.Tally.{zeros}
use Rattle.cuts.proofs.Trying.{end_of, end_vertex}
use Rattle.components.proofs.Attempting.{far_below, attempted}
use Rattle.components.proofs.tries.attempt.Goals as goal

pub search-requires : goal.search-requires
search-requires c =
    let s = c.requires in
    let a = s.0.admitted in
    (s.0, s.2, edge_size_lem _ s.3, end_vertex _ s.3 (end_of c.args.ends.now c.args.first.now c.args.d c.lower_end-root.ensures), omega (arith, a.vertices, length-replicate {A = ℕ} limits.vertices 0), λ v l. zeros limits.vertices v)

pub part-requires : goal.part-requires
part-requires c =
    let s = c.requires in
    let a = s.0.admitted in
    let long = length-replicate {A = ℕ} limits.vertices 0 in
    let same = c.search.auto.marks in
    (omega (arith, far_below a s.3 (end_of c.args.ends.now c.args.first.now c.args.d c.lower_end-root.ensures) c.far_end-far.ensures, a.vertices, long, same), a.vertices, omega (arith, a.vertices, long, same), s.4, s.5)

pub returns : goal.returns
returns c =
    let s = c.requires in
    attempted s.0.admitted s.3 c.search.ensures (end_of c.args.ends.now c.args.first.now c.args.d c.lower_end-root.ensures) c.far_end-far.ensures c.part.ensures
