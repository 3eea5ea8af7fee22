-- A search from a vertex over the tables of a plan and the edges outside a cut, with marks that are all 0: fewer were seen than are kept exactly
-- where the cut disconnects; from the lowest vertex, the vertices without a mark are those that are cut off.
use mathlib.Core.Path.{◌≡◌}
use mathlib.Core.Logic.{inl, inr}
use mathlib.Core.List.{List, Memᴰ as In}
use Prim.Native.Nat.{ℕ, ◌≤◌, ◌<◌}
use native.Mathlib.Omega.{arith}
use native.Mathlib.Decide.{ℕ_discrete, dec_lt}
use lib.Dec.{T, eqb, ltb}
use lib.ListN.{get_or}
use borrow.Author.Tests.{eq-eqb, ne_eqb, lt-ltb, le-ltb}
use Rattle.connectivity.specs.Lists.{mem}
use Rattle.connectivity.specs.Plan.{Plan, graph, Limits}
use Rattle.connectivity.specs.Graph.{Graph, Vertex, is_vertex}
use Rattle.connectivity.specs.Reach.{Reach, Without, Disconnects}
use Rattle.connectivity.specs.Cut.{cut_off, disconnects}
use Rattle.connectivity.specs.Admission.{kept_vertices}
use Rattle.connectivity.proofs.Lists.{T-dec, T_true, T_false, in_mem, mem_in}
use Rattle.connectivity.proofs.Reach.{reach_edges, reach_sym, reach_trans, closed_reach, joins_sym, joins_vertex}
use Rattle.connectivity.proofs.Search.{is_vertex_lem}
use Rattle.connectivity.proofs.Disconnects.{disconnects_is, connected_is}
use Rattle.connectivity.proofs.CutOff.{Lowest, cut_off_not, cut_off_or}
use Rattle.connectivity.proofs.Kept.{vertex_size}
use Rattle.graph.specs.Marks.{read, rank, Live, Marked}
use Rattle.graph.proofs.Rank.{rank-part, rank_full}
use Rattle.graph.proofs.Barring.{kept_rank}
use Rattle.graph.proofs.Tally.{tally-none, is_set, set_is, tally-rank}
use Rattle.incidence.specs.Tables.{Tabled}
use Rattle.depth.specs.Depth.{Crossing, Fresh, Found, Cutting}
use Rattle.depth.proofs.Entering.{entered_reach, clear_closed}

-- where no vertex has a mark any can be entered
pub fresh_at : (n root : ℕ) (first : List ℕ) → root < n → ((v : ℕ) → v < n → get_or first v 0 ≡ 0) → Fresh n root 0 first
fresh_at n root first below clear = record { room = omega arith; below = below; fresh = clear root below }

-- from any vertex
module _ {most : Limits} {p : Plan} {incident begins dead cut : List ℕ} {root : ℕ} {first₀ order₀ cursor₀ first order cursor : List ℕ} {count : ℕ} (t : Tabled most p incident begins)
    (f : Found (Crossing p incident begins dead) p.vertices root 0 first₀ order₀ cursor₀ first order cursor count) (c : Cutting p cut (read dead))
    (clear : (v : ℕ) → v < p.vertices → get_or first₀ v 0 ≡ 0) (start : Vertex (graph p) root) where
  abbrev g : Graph
  g = graph p

  abbrev n : ℕ
  n = p.vertices

  fresh : Fresh n root 0 first₀
  fresh = fresh_at n root first₀ (vertex_size p start) clear

  left : {u v : ℕ} → Reach g (Live dead) u v → Reach g (Without cut) u v
  left w = reach_edges (λ e x y j l i. c.gone e j.edge i l) w

  live : {u v : ℕ} → Reach g (Without cut) u v → Reach g (Live dead) u v
  live w = reach_edges (λ e x y j h. c.kept e j.edge h) w

  -- a vertex has a mark exactly if the root reaches it without the cut
  pub seen : (v : ℕ) → v < n → Marked (read first) v → Reach g (Without cut) root v
  seen v l m = left ((entered_reach f fresh t (λ e u v l. clear_closed p (read first₀) clear e u v) (omega arith) v).0 (record { below = l; fresh = clear v l; marked = m }))

  pub marked : (v : ℕ) → Reach g (Without cut) root v → Marked (read first) v
  marked v r = ((entered_reach f fresh t (λ e u v l. clear_closed p (read first₀) clear e u v) (omega arith) v).1 (live r)).marked

  -- what has a mark is a vertex
  pub seen_vertex : (v : ℕ) → v < n → Marked (read first) v → Vertex g v
  seen_vertex v l m = closed_reach (Vertex g) (λ e x y w j h. joins_vertex (joins_sym j)) (seen v l m) start

  counted : count ≡ rank (is_set (read first)) n
  counted = omega (arith, f.counted, tally-none (read first₀) n clear, tally-rank (read first) n)

  set_vertex : (v : ℕ) → v < n → T (is_set (read first) v) → T (is_vertex g v)
  set_vertex v l s = (is_vertex_lem g v).1 (seen_vertex v l ((set_is (read first) v).0 s))

  pub count_most : count ≤ kept_vertices p
  count_most = omega (arith, counted, kept_rank p, rank-part (is_set (read first)) (is_vertex g) n set_vertex)

  -- where as many were seen as are kept, each vertex has a mark
  pub all_marked : kept_vertices p ≤ count → (v : ℕ) → Vertex g v → Marked (read first) v
  all_marked o v h = let l = vertex_size p h in
      (set_is (read first) v).0 (rank_full (is_set (read first)) (is_vertex g) n set_vertex (omega (arith, counted, kept_rank p)) v l ((is_vertex_lem g v).1 h))

  -- fewer were seen than are kept exactly where the cut disconnects
  pub fewer : ltb count (kept_vertices p) ≡ disconnects g cut
  fewer = elim (T-dec (disconnects g cut)) [
    | yes d ↦ rw (T_true (disconnects g cut) d) (lt-ltb count (kept_vertices p) (below ((disconnects_is g cut).0 d)))
    | no h ↦
        let full = rank-part (is_vertex g) (is_set (read first)) n (λ v l s. (set_is (read first) v).1 (marked v (connected_is g cut h root v start ((is_vertex_lem g v).0 s)))) in
        rw (T_false (disconnects g cut) h) (le-ltb count (kept_vertices p) (omega (arith, full, counted, kept_rank p)))
  ]
    where
      all_seen : kept_vertices p ≤ count → (v : ℕ) → Vertex g v → Reach g (Without cut) root v
      all_seen o v h = seen v (vertex_size p h) (all_marked o v h)

      below : Disconnects g cut → count < kept_vertices p
      below d = elim (dec_lt count (kept_vertices p)) [ yes l ↦ l | no o ↦ absurd (d (λ u v hu hv. reach_trans (reach_sym (all_seen (omega arith) u hu)) (all_seen (omega arith) v hv))) ]

-- from the lowest vertex
module _ {most : Limits} {p : Plan} {incident begins dead cut : List ℕ} {root : ℕ} {first₀ order₀ cursor₀ first order cursor : List ℕ} {count : ℕ} (t : Tabled most p incident begins)
    (f : Found (Crossing p incident begins dead) p.vertices root 0 first₀ order₀ cursor₀ first order cursor count) (c : Cutting p cut (read dead))
    (clear : (v : ℕ) → v < p.vertices → get_or first₀ v 0 ≡ 0) (low : Lowest (graph p) root) where
  -- a vertex is cut off exactly where its mark is 0
  pub mark_is : (v : ℕ) → Vertex (graph p) v → eqb (get_or first v 0) 0 ≡ mem v (cut_off (graph p) cut)
  mark_is v h = elim (cut_off_or low cut h) [
    | inl i ↦ rw (eq-eqb (get_or first v 0) 0 (zero_of i), T_true (mem v (cut_off (graph p) cut)) (in_mem i))
    | inr r ↦ rw (ne_eqb (get_or first v 0) 0 (marked t f c clear low.vertex v r), T_false (mem v (cut_off (graph p) cut)) (λ s. (cut_off_not low cut (mem_in v (cut_off (graph p) cut) s)).1 r))
  ]
    where
      zero_of : In v (cut_off (graph p) cut) → get_or first v 0 ≡ 0
      zero_of i = elim (ℕ_discrete (get_or first v 0) 0) [ yes q ↦ q | no m ↦ absurd ((cut_off_not low cut i).1 (seen t f c clear low.vertex v (vertex_size p h) m)) ]

  -- what is no vertex has none
  pub mark_none : (v : ℕ) → v < p.vertices → (Vertex (graph p) v → ⊥) → get_or first v 0 ≡ 0
  mark_none v l n = elim (ℕ_discrete (get_or first v 0) 0) [ yes q ↦ q | no m ↦ absurd (n (seen_vertex t f c clear low.vertex v l m)) ]
