-- What a plan lists, and which of it is kept: an entry whose ends are vertices, or at which something stands in `over`, is an edge; the first places of
-- the order have the vertices.
use Rattle.std.proofs.Common.{ℕ, ◌/◌, ◌<◌, ◌≤◌, List, length, inl, inr, arith}
use Rattle.connectivity.specs.Plan.{Plan, graph, listed, Limits}
use Rattle.connectivity.specs.Graph.{Vertex, Edge, is_edge, Joins}
use Rattle.connectivity.specs.Admission.{kept_vertices, Admitted}
use Rattle.connectivity.proofs.Lists.{T-dec}
use Rattle.connectivity.proofs.Search.{is_edge_lem}
use Rattle.connectivity.proofs.Kept.{vertex_or, admitted_count}
use Rattle.graph.specs.Marks.{read}
use Rattle.numbers.specs.Standing.{Listed, Beneath}

module _ (p : Plan) {e u v : ℕ} (j : Joins (listed p) e u v) where
  -- an edge of the graph joins there what is listed
  pub edge_joins : Edge (graph p) e → Joins (graph p) e u v
  unfolding graph
  edge_joins k = record { edge = k; ends = j.ends }

  -- what joins two vertices is an edge
  pub kept_joins : Vertex (graph p) u → Vertex (graph p) v → Joins (graph p) e u v
  unfolding graph
  kept_joins h k = record {
    edge = elim j.ends [
      | inl (a, b) ↦ record { below = j.edge.below; left = rw a h; right = rw b k }
      | inr (a, b) ↦ record { below = j.edge.below; left = rw a k; right = rw b h }
    ];
    ends = j.ends;
  }

-- where something stands in `over`, there is an edge
pub over_edge : (p : Plan) {root e : ℕ} {first : List ℕ} {rank last over : ℕ → ℕ} → Beneath p root first rank last over → e < length p.ends / 2 → 1 ≤ over e → Edge (graph p) e
over_edge p {e = e} b l h = elim (T-dec (is_edge (graph p) e)) [
  | yes t ↦ (is_edge_lem (graph p) e).0 t
  | no n ↦ absurd (omega (arith, h, b.none e l (λ k. n ((is_edge_lem (graph p) e).1 k))))
]

-- a number below those of the excluded is that of a vertex
pub number_vertex : {p : Plan} {root v : ℕ} {order number : List ℕ} → Listed p root order number → v < p.vertices → read number v < kept_vertices p → Vertex (graph p) v
number_vertex {p} {v = v} l h k = elim (vertex_or p v h) [ inl x ↦ x | inr i ↦ absurd (omega (arith, k, l.fallen v i)) ]

pub place_vertex : {most : Limits} {p : Plan} {root : ℕ} {order number : List ℕ} → Admitted most p → Listed p root order number → (k : ℕ) → k < kept_vertices p → Vertex (graph p) (read order k)
place_vertex a l k h = let (b, q) = l.at k (omega (arith, h, admitted_count a)) in number_vertex l b (omega (arith, q, h))
