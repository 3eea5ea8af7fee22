-- `list_admitted` meets its contract: there is space for every record, so what falls with the verdict is marked.
use mathlib.Core.Path.{subst}
use mathlib.Core.List.{List}
use Prim.Native.Nat.{ℕ, ◌*◌, ◌≤◌}
use native.Mathlib.Omega.{arith}
use lib.ListN.{length, replicate, length-replicate}
use Rattle.connectivity.specs.Plan.{plan, limits}
use Rattle.connectivity.specs.Admission.{kept_edges}
use Rattle.graph.proofs.Barring.{edges_few}
use Rattle.fallen_texts.specs.Listing.{Begins}
use Rattle.fallen_texts.proofs.Answering.{words_long, marked-falls}
use Rattle.fallen_texts.proofs.list_admitted.Goals as goal

pub unpack-requires : goal.unpack-requires
unpack-requires c =
    (c.requires.0.vertices, rw c.marks_of.ensures (words_long c.requires.0 c.verdict-found.ensures), c.requires.1)

pub returns : goal.returns
returns c =
    let room : 3 * kept_edges (plan c.args.vertices c.args.ends.now c.args.excluded.now) ≤ length {A = ℕ} (replicate (3 * limits.edges) 0) = omega (arith, c.requires.0.edges, edges_few (plan c.args.vertices c.args.ends.now c.args.excluded.now), length-replicate {A = ℕ} (3 * limits.edges) 0) in
    subst (λ (front : List ℕ). Begins front c.unpack.new.list c.unpack.result) (marked-falls c.requires.0 c.verdict-found.ensures room) (rw c.marks_of.ensures at c.unpack.ensures)
