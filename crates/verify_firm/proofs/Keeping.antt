-- What a plan keeps, as the check finds it: the marks of the edges before the first row, and at the end the vertices. Every one is a branch exactly
-- if there are as many branches as vertices, since what is built ends at vertices alone.
use mathlib.Core.Path.{◌≡◌, ◌∙◌}
use mathlib.Core.Logic.{◌↔◌}
use mathlib.Core.List.{List}
use Prim.Native.Nat.{ℕ, ◌<◌}
use native.Mathlib.Omega.{arith}
use lib.Dec.{T, leb→le, le→leb}
use lib.ListN.{length, get_or}
use Rattle.connectivity.specs.Plan.{Plan, graph, Limits}
use Rattle.connectivity.specs.Graph.{Vertex, is_vertex, is_edge}
use Rattle.connectivity.specs.Walk.{Leg, all_edges, degree, Branch}
use Rattle.connectivity.specs.Mader.{Steps}
use Rattle.connectivity.specs.Admission.{Admitted, kept_vertices}
use Rattle.connectivity.proofs.Lists.{same_tests}
use Rattle.connectivity.proofs.Search.{is_vertex_lem}
use Rattle.connectivity.proofs.Degree.{built_vertex}
use Rattle.connectivity.proofs.Build.{steps_edges}
use Rattle.connectivity.proofs.Kept.{vertex_size}
use Rattle.graph.specs.Marks.{rank}
use Rattle.graph.specs.Excluded.{Masked, is_open}
use Rattle.graph.proofs.Rank.{rank_same, rank_full}
use Rattle.graph.proofs.Barring.{kept_rank, open_is}
use Rattle.verify_firm.specs.Marks.{is_forked}

module _ (p : Plan) where
  -- the marks are the degrees
  module _ (marks : List ℕ) {done : List (List Leg)} (steps : Steps (graph p) done)
      (degrees : (v : ℕ) → v < p.vertices → get_or marks v 0 ≡ degree (graph p) (all_edges done) v) where
    forked_vertex : (v : ℕ) → v < p.vertices → T (is_forked marks v) → T (is_vertex (graph p) v)
    forked_vertex v l t = (is_vertex_lem (graph p) v).1 (built_vertex (all_edges done) (λ e i. steps_edges steps i) (omega (arith, leb→le 3 (get_or marks v 0) t, degrees v l)))

    pub branches_are : (rank (is_forked marks) p.vertices ≡ kept_vertices p) ↔ ((v : ℕ) → Vertex (graph p) v → Branch (graph p) (all_edges done) v)
    branches_are = (to, from)
      where
        to : rank (is_forked marks) p.vertices ≡ kept_vertices p → (v : ℕ) → Vertex (graph p) v → Branch (graph p) (all_edges done) v
        to q v h =
            let l = vertex_size p h in
            let t = rank_full (is_forked marks) (is_vertex (graph p)) p.vertices forked_vertex (omega (arith, q, kept_rank p)) v l ((is_vertex_lem (graph p) v).1 h) in
            omega (arith, leb→le 3 (get_or marks v 0) t, degrees v l)

        from : ((v : ℕ) → Vertex (graph p) v → Branch (graph p) (all_edges done) v) → rank (is_forked marks) p.vertices ≡ kept_vertices p
        from b = rank_same (is_forked marks) (is_vertex (graph p)) p.vertices (λ v l. same_tests (is_forked marks v) (is_vertex (graph p) v) (forked_vertex v l)
            (λ t. le→leb 3 (get_or marks v 0) (omega (arith, b v ((is_vertex_lem (graph p) v).0 t), degrees v l)))) ∙ kept_rank p

-- before the first row the marks of the edges tell those that are kept
pub masked_open : {most : Limits} {p : Plan} (a : Admitted most p) {used₀ used : List ℕ} → Masked most p.ends p.excluded used₀ used → length used₀ ≡ most.edges
    → ((e : ℕ) → get_or used₀ e 0 ≡ 0) → (e : ℕ) → e < (graph p).size → is_open used e ≡ is_edge (graph p) e
unfolding graph
masked_open a m long clear e l = open_is a m (omega (arith, long, a.edges)) clear e l
