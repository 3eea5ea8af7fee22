-- What a search from the lowest vertex over the edges that are left says of a cut.
use Rattle.std.specs.Prelude.{Err, Ok}
use mathlib.Core.Path.{◌≡◌, sym, ap, ◌∙◌}
use mathlib.Core.Bool.{true, not}
use mathlib.Core.List.{List}
use Prim.Native.Nat.{ℕ, ◌*◌, ◌/◌, ◌≤◌, ◌<◌}
use native.Mathlib.Omega.{arith}
use lib.Dec.{T, eqb}
use lib.ListN.{length, get_or, replicate, length-replicate}
use Rattle.connectivity.specs.Plan.{Plan, entire, graph, Limits}
use Rattle.connectivity.specs.Graph.{is_vertex, is_edge}
use Rattle.connectivity.specs.Admission.{Admitted, admission}
use Rattle.connectivity.proofs.Lists.{T-dec, T_true, T_false, decides_le, decides_and}
use Rattle.connectivity.proofs.Search.{is_vertex_lem, is_edge_lem}
use Rattle.connectivity.proofs.CutOff.{Lowest}
use Rattle.connectivity.proofs.Admission.{admission_number}
use Rattle.connectivity.proofs.Kept.{vertex_size, edge_size_lem, admitted_entire}
use Rattle.graph.specs.Admission.{told_by, lent}
use Rattle.graph.specs.Marks.{read}
use Rattle.graph.specs.Excluded.{first_gap, Masked, MarkedAll}
use Rattle.graph.specs.declared.Answer as code
use Rattle.graph.proofs.Tally.{zeros}
use Rattle.graph.proofs.Handed.{lent_own}
use Rattle.graph.proofs.Telling.{told-refused}
use Rattle.graph.proofs.Barring.{lowest_is, masked_out, masked_in}
use Rattle.incidence.specs.Tables.{Filled, Tabled}
use Rattle.incidence.specs.Tables as tables
use Rattle.incidence.proofs.Filled.{filled_for, tabled_room}
use Rattle.depth.specs.Depth.{Explored}
use Rattle.depth.specs.Depth as search
use Rattle.depth.specs.Depth.{Crossing, Found, Cutting}
use Rattle.depth.proofs.Counts.{Enough}
use Rattle.depth.proofs.Outcomes.{not_refused, found_from}
use Rattle.depth.proofs.Masking.{found_kept}
use Rattle.depth.proofs.Left.{fresh_at, mark_is, mark_none}
use Rattle.removal.specs.Fallen.{is_reached, Ready, Searched}

-- tables of zeros that are as long as the limits ask
pub ready : (most : Limits) → Ready most (replicate (2 * most.edges) 0) (replicate most.vertices 0) (replicate most.edges 0)
    (replicate most.vertices 0) (replicate most.vertices 0) (replicate most.vertices 0)
ready most =
    let edges = length-replicate {A = ℕ} most.edges 0 in
    let vertices = length-replicate {A = ℕ} most.vertices 0 in
    record {
      incident_room = omega (arith, length-replicate {A = ℕ} (2 * most.edges) 0);
      begins_room = omega (arith, vertices);
      dead_room = omega (arith, edges);
      first_room = omega (arith, vertices);
      order_room = omega (arith, vertices);
      cursor_room = omega (arith, vertices);
      live = zeros most.edges;
      unmarked = zeros most.vertices;
    }

-- What `without` says: the plan's own refusal, or what the search has left.

-- with room for every plan, filling answers what all that is listed is refused by
pub whole_told : {most : Limits} {w : Plan} {incident₀ begins₀ dead₀ first₀ order₀ cursor₀ incident begins : List ℕ} {a : code.Answer}
    → Ready most incident₀ begins₀ dead₀ first₀ order₀ cursor₀ → Filled most w incident₀ begins₀ incident begins a → a ≡ told_by (lent most w true)
whole_told {most} {w} {incident₀} {begins₀} s f =
    let room : Admitted most w → T (tables.enough w incident₀ begins₀)
    = λ d. (decides_and (decides_le (2 * (length w.ends / 2)) (length incident₀)) (decides_le w.vertices (length begins₀))).test
    (omega (arith, d.edges, d.even, s.incident_room), omega (arith, d.vertices, s.begins_room)) in
    f.answer ∙ ap told_by (lent_own most w (tables.enough w incident₀ begins₀) room ∙ sym (lent_own most w true (λ d. tt)))

pub own_refusal : {most : Limits} {p : Plan} {a : code.Answer} → a ≡ told_by (lent most p true) → (a.number ≡ 0 → ⊥) → (Admitted most p → ⊥) × (a ≡ told_by (admission most p))
own_refusal {most} {p} q h =
    let r = rw (lent_own most p true (λ d. tt)) at (told-refused most p true q h) in
    (λ d. r.0 ((admission_number most p).1 d), r.1)

-- the marks of the cut, then of the edges that end at an excluded vertex
module _ {most : Limits} {p : Plan} (d : Admitted most p) {cut dead₀ dead₁ dead : List ℕ} (long : length p.ends / 2 ≤ length dead₀) (live : (e : ℕ) → get_or dead₀ e 0 ≡ 0)
    (r : MarkedAll cut dead₀ dead₁) (m : Masked most p.ends p.excluded dead₁ dead) where
  cutting : Cutting p cut (read dead)
  cutting = record {
    masking = λ e l z. elim (T-dec (is_edge (graph p) e)) [
      | yes t ↦ (is_edge_lem (graph p) e).0 t
      | no n ↦ absurd (omega (arith, z, masked_out d m e l (omega (arith, r.long)) (λ k. n ((is_edge_lem (graph p) e).1 k))))
    ];
    gone = λ e k i z. omega (arith, z, masked_in d m e k, r.named e (omega (arith, edge_size_lem p k)) i);
    kept = λ e k o. masked_in d m e k ∙ r.other e o ∙ live e;
  }

module _ {most : Limits} {p : Plan} (d : Admitted most p) {incident₀ begins₀ dead₀ first₀ order₀ cursor₀ : List ℕ} (s : Ready most incident₀ begins₀ dead₀ first₀ order₀ cursor₀)
    {incident begins : List ℕ} {a : code.Answer} (f : Filled most (entire p.vertices p.ends) incident₀ begins₀ incident begins a)
    {cut dead₁ dead : List ℕ} (r : MarkedAll cut dead₀ dead₁) (m : Masked most p.ends p.excluded dead₁ dead) where
  abbrev whole : Plan
  whole = entire p.vertices p.ends

  abbrev root : ℕ
  root = first_gap 0 p.excluded

  t : Tabled most p incident begins
  t = filled_for p d f (omega (arith, d.edges, s.incident_room)) (omega (arith, d.vertices, s.begins_room))

  c : Cutting p cut (read dead)
  c = cutting d (omega (arith, d.edges, s.dead_room)) s.live r m

  low : Lowest (graph p) root
  low = lowest_is d

  clear : (v : ℕ) → v < p.vertices → get_or first₀ v 0 ≡ 0
  clear v l = s.unmarked v

  room : Enough whole (length incident) (length begins) (length dead) (length first₀) (length order₀) (length cursor₀)
  room =
      let l = tabled_room t in
      (l.0, (l.1, (omega (arith, d.edges, s.dead_room, r.long, m.long), (omega (arith, d.vertices, s.first_room), (omega (arith, d.vertices, s.order_room), omega (arith, d.vertices, s.cursor_room))))))

  module _ (first order cursor : List ℕ) where
    -- a number has a mark exactly if it is a vertex that the lowest one reaches
    marks : {count : ℕ} → Found (Crossing p incident begins dead) p.vertices root 0 first₀ order₀ cursor₀ first order cursor count
        → (v : ℕ) → v < p.vertices → not (eqb (get_or first v 0) 0) ≡ is_reached p cut v
    marks f v l = elim (T-dec (is_vertex (graph p) v)) [
      | yes h ↦ rw (T_true (is_vertex (graph p) v) h, mark_is t f c clear low v ((is_vertex_lem (graph p) v).0 h))
      | no n ↦ rw (T_false (is_vertex (graph p) v) n, mark_none t f c clear low v l (λ h. n ((is_vertex_lem (graph p) v).1 h)))
    ]

    pub searched : (x : Explored) → search.Answered most whole incident begins dead root 0 first₀ order₀ cursor₀ first order cursor x → Searched most p cut first x
    searched (Err b) x = absurd (not_refused most whole incident begins dead root 0 first₀ order₀ cursor₀ first order cursor (admitted_entire d) room x)
    searched (Ok count) x =
        let fresh = fresh_at p.vertices root first₀ (vertex_size p low.vertex) clear in
        let f = found_kept p c.masking (found_from most whole incident begins dead root 0 first₀ order₀ cursor₀ first order cursor fresh x) in
        record { admitted = d; marks = marks f }
