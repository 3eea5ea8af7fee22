-- The marks of the edges of excluded vertices, in a table of their own or at the front of a lent one.
use mathlib.Core.Path.{◌≡◌, ap, ◌∙◌, sym}
use mathlib.Core.Bool.{cond}
use mathlib.Core.List.{List}
use Prim.Native.Nat.{ℕ, ◌+◌, ◌/◌, ◌≤◌, ◌<◌}
use native.Mathlib.Omega.{arith}
use lib.Dec.{T}
use lib.ListN.{length, get_or, replicate, length-map, length-replicate}
use Rattle.connectivity.specs.Lists.{range}
use Rattle.connectivity.specs.Plan.{Plan, graph, Limits}
use Rattle.connectivity.specs.Graph.{Edge, is_edge}
use Rattle.connectivity.specs.Admission.{Admitted}
use Rattle.connectivity.proofs.Lists.{T-dec, T_true, T_false, length-range, map_range}
use Rattle.connectivity.proofs.Search.{is_edge_lem}
use Rattle.connectivity.proofs.Kept.{edge_size_lem}
use Rattle.graph.specs.Marks.{read, Live}
use Rattle.graph.specs.Excluded.{Masked}
use Rattle.graph.proofs.Barring.{masked_in, masked_out, masked_edge}
use Rattle.graph.proofs.Tally.{zeros}
use Rattle.incidence.specs.Tables.{Front}
use Rattle.incidence.specs.Parts.{Cleared}
use Rattle.incidence.proofs.Front.{front, front_at, front_kept}
use Rattle.depth.specs.Depth.{Masking}
use Rattle.labels.specs.Answered.{mask_table}
use Rattle.labels.specs.Labels.{Masks}

-- the edges of the graph are live, and no other
module _ {p : Plan} {dead : List ℕ} (m : Masks p dead) where
  pub masks_live : (e : ℕ) → Edge (graph p) e → Live dead e
  masks_live e k = (m.kept e (edge_size_lem p k)).1 k

  pub masks_masking : Masking p (read dead)
  masks_masking e l z = (m.kept e l).0 z

module _ (p : Plan) where
  abbrev table : List ℕ
  table = mask_table (graph p)

  abbrev m : ℕ
  m = length p.ends / 2

  abbrev mark : ℕ → ℕ
  mark e = cond (is_edge (graph p) e) 0 1

  mask_long : length table ≡ m
  unfolding mask_table graph
  mask_long = length-map (range 0 m) mark ∙ length-range 0 m

  mask_at : (e : ℕ) → e < m → get_or table e 0 ≡ mark e
  unfolding mask_table graph
  mask_at e l = let q : 0 + e ≡ e = omega arith in map_range mark 0 m e l ∙ ap mark q

  mark_in : (e : ℕ) → Edge (graph p) e → mark e ≡ 0
  mark_in e k = rw (T_true (is_edge (graph p) e) ((is_edge_lem (graph p) e).1 k))

  mark_out : (e : ℕ) → (T (is_edge (graph p) e) → ⊥) → mark e ≡ 1
  mark_out e n = rw (T_false (is_edge (graph p) e) n)

  -- what stands at the front is 0 exactly for an edge
  pub front_masks : (dead₀ : List ℕ) {dead : List ℕ} → m ≤ length dead₀ → Front table dead₀ dead → Masks p dead
  front_masks dead₀ {dead} room f =
      let at : (e : ℕ) → e < m → get_or dead e 0 ≡ mark e = λ e l. front_at table dead₀ f e (omega (arith, mask_long)) ∙ mask_at e l in
      record {
        room = omega (arith, (front_kept table dead₀ f (omega (arith, mask_long))).long);
        kept = λ e l. (
          λ z. elim (T-dec (is_edge (graph p) e)) [ yes t ↦ (is_edge_lem (graph p) e).0 t | no n ↦ absurd (omega (arith, z, at e l, mark_out e n)) ],
          λ k. at e l ∙ mark_in e k,
        );
      }

module _ {most : Limits} {p : Plan} (a : Admitted most p) where
  -- marked at the front of a lent table, once that is cleared
  pub masked_front : {dead₀ dead₁ dead : List ℕ} → length p.ends / 2 ≤ length dead₀ → Cleared (length p.ends / 2) dead₀ dead₁ → Masked most p.ends p.excluded dead₁ dead
      → Front (mask_table (graph p)) dead₀ dead
  masked_front {dead₀} {dead₁} {dead} room c d = front (table p) dead₀ dead (omega (arith, mask_long p))
      (record { long = d.long ∙ c.kept.long; rest = λ k h. let b : m p ≤ k = omega (arith, mask_long p) in d.behind k b ∙ c.kept.rest k b })
      (λ e h. let l : e < m p = omega (arith, mask_long p) in
      elim (T-dec (is_edge (graph p) e)) [
        | yes t ↦ let k = (is_edge_lem (graph p) e).0 t in masked_in a d e k ∙ c.zero e l ∙ sym (mask_at p e l ∙ mark_in p e k)
        | no n ↦ masked_out a d e l (omega (arith, c.kept.long)) (λ k. n ((is_edge_lem (graph p) e).1 k)) ∙ sym (mask_at p e l ∙ mark_out p e n)
      ])

  -- in a table that is made for it
  pub masked_made : {dead : List ℕ} → Masked most p.ends p.excluded (replicate most.edges 0) dead → Masks p dead
  masked_made d = let long = length-replicate {A = ℕ} most.edges 0 in record {
    room = omega (arith, d.long, long, a.edges);
    kept = masked_edge a d (omega (arith, long, a.edges)) (zeros most.edges);
  }
