-- A plan's graph, as its table has it: its vertices are below the count, and an edge is one of the table's and joins the two ends there.
use mathlib.Core.Path.{◌≡◌}
use mathlib.Core.Logic.{◌⊎◌}
use Prim.Native.Nat.{ℕ, ◌+◌, ◌*◌, ◌/◌, ◌<◌}
use lib.ListN.{length, get_or}
use Rattle.connectivity.specs.Plan.{Plan, graph}
use Rattle.connectivity.specs.Graph.{Edge, Joins}
use Rattle.connectivity.proofs.Reach.{joins_sym, joins_vertex}
use Rattle.connectivity.proofs.Kept.{vertex_size, edge_size_lem}

-- what an edge joins is a vertex, and the edge is one of the table's
pub joins_below : (p : Plan) {e u v : ℕ} → Joins (graph p) e u v → v < p.vertices
joins_below p j = vertex_size p (joins_vertex (joins_sym j))

pub joins_edge : (p : Plan) {e u v : ℕ} → Joins (graph p) e u v → e < length p.ends / 2
joins_edge p j = edge_size_lem p j.edge

-- the ends of an edge
pub joins_ends : (p : Plan) {e u v : ℕ} → Joins (graph p) e u v
    → ((get_or p.ends (2 * e) 0 ≡ u) × (get_or p.ends (2 * e + 1) 0 ≡ v)) ⊎ ((get_or p.ends (2 * e) 0 ≡ v) × (get_or p.ends (2 * e + 1) 0 ≡ u))
unfolding graph
joins_ends p j = j.ends

pub ends_below : (p : Plan) {e : ℕ} → Edge (graph p) e → (get_or p.ends (2 * e) 0 < p.vertices) × (get_or p.ends (2 * e + 1) 0 < p.vertices)
unfolding graph
ends_below p h = (h.left.below, h.right.below)
