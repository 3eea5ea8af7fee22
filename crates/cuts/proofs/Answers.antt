-- The answer as it is handed back. And what the first search and the labels say of the plan, and the tables that they have.
use Rattle.std.specs.Prelude.{Option, Some, Ok}
use Rattle.std.proofs.Math.Option as meaning
use mathlib.Core.Path.{◌≡◌, refl, sym, ◌∙◌}
use mathlib.Core.Logic.{◌↔◌}
use mathlib.Core.List.Memᴰ.{not-nil as not_in}
use mathlib.Core.List.{List, []}
use Prim.Native.Nat.{ℕ, ◌/◌, ◌≤◌, ◌<◌}
use native.Mathlib.Omega.{arith}
use borrow.Author.Tests.{lt-ltb, le-ltb}
use lib.Dec.{ltb}
use lib.ListN.{length, get_or, replicate, length-replicate}
use Rattle.connectivity.specs.Plan.{Plan, graph, limits}
use Rattle.connectivity.specs.Graph.{Edge}
use Rattle.connectivity.specs.Cut.{disconnects, lowest_cut}
use Rattle.connectivity.specs.Admission.{kept_vertices, Admitted}
use Rattle.connectivity.specs.Verdict.{verdict_on, verdict_handed}
use Rattle.connectivity.proofs.Kept.{edge_size_lem}
use Rattle.graph.specs.Marks.{read}
use Rattle.graph.specs.Excluded.{Masked}
use Rattle.graph.proofs.Barring.{masked_edge}
use Rattle.graph.proofs.Tally.{zeros}
use Rattle.incidence.specs.Tables.{Tabled}
use Rattle.incidence.specs.Parts.{Cleared}
use Rattle.depth.specs.Depth.{Cutting}
use Rattle.depth.proofs.Left.{fewer}
use Rattle.depth.proofs.Appending.{appended_forest}
use Rattle.labels.specs.Answered.{ForestOf}
use Rattle.labels.proofs.Labelled.{labelled_balanced}
use Rattle.cuts.specs.declared.lowest.Lowest.{Lowest}
use Rattle.cuts.specs.Lowest.{Told, parted, one, two, uncut, Whole}
use Rattle.cuts.specs.Tries.{Tables, Ready, Spaces, SearchedBy, LabelledBy}
use Rattle.cuts.specs.Verdict.{handed}
use Rattle.cuts.proofs.Filter.{lowest_parted}

pub told-handed : {r : Option Lowest} {o : meaning.Option (List ℕ)} → Told r o → handed (Ok r) ≡ verdict_handed (verdict_on o)
unfolding verdict_handed verdict_on
told-handed parted = refl
told-handed (one e) = refl
told-handed (two e d) = refl
told-handed uncut = refl

-- no edge is lost before the first search
pub uncut_yet : {p : Plan} {incident begins dead first order cursor labels marks other : List ℕ} → Tables limits p incident begins dead first order cursor → Spaces p dead labels marks other → Cutting p [] (read dead)
uncut_yet t s = record { masking = t.masking; gone = λ e l i q. absurd (not_in i); kept = λ e l h. s.live e l }

-- The first search has seen fewer vertices than are kept, or all.

module _ {p : Plan} {incident begins dead first₀ order₀ cursor₀ labels₀ marks other first order cursor : List ℕ} {count : ℕ}
    (t : Tables limits p incident begins dead first₀ order₀ cursor₀) (s : Spaces p dead labels₀ marks other)
    (b : SearchedBy p incident begins dead first₀ order₀ cursor₀ first order cursor count) {most-seen : ℕ} (k : most-seen ≡ kept_vertices p) where
  a : Admitted limits p
  a = t.tabled.admitted

  fewer_seen : ltb count (kept_vertices p) ≡ disconnects (graph p) []
  fewer_seen = fewer t.tabled b.found (uncut_yet t s) t.fresh b.lowest.vertex

  pub found_parted : {r : Option Lowest} → r ≡ Some (record { count = 0; first = 0; second = 0 }) → count < most-seen → Told r (lowest_cut (graph p))
  found_parted q l = rw (q, lowest_parted p (length p.ends / 2) refl (sym fewer_seen ∙ lt-ltb count (kept_vertices p) (omega (arith, l, k)))) parted

  module _ (h : most-seen ≤ count) where
    forest : ForestOf p first order
    forest = appended_forest t.tabled (omega (arith, a.edges)) b.found (uncut_yet t s) t.fresh b.lowest.vertex (omega (arith, h, k)) b.appended

    pub found_whole : {labels : List ℕ} → LabelledBy limits p first order labels₀ labels → Whole limits p labels × Ready limits p incident begins first dead marks other cursor
    found_whole l = (
      record {
        admitted = a;
        room = omega (arith, s.labels_room, l.labelled.labels_kept.long);
        connected = sym fewer_seen ∙ le-ltb count (kept_vertices p) (omega (arith, h, k));
        balanced = labelled_balanced l.labelled a (record {
          marks = omega (arith, t.marks_room, b.found.first_long, b.appended.first_long);
          places = omega (arith, t.order_room, b.found.order_long, b.appended.order_long);
          edges = s.labels_room;
          vertices = omega (arith, a.vertices, length-replicate {A = ℕ} limits.vertices 0);
        }) forest;
      },
      record {
        tables = record {
          tabled = t.tabled;
          dead_room = t.dead_room;
          masking = t.masking;
          marks_room = s.marks_room;
          order_room = s.other_room;
          cursor_room = omega (arith, t.cursor_room, b.found.cursor_long);
          fresh = s.fresh;
        };
        live = s.live;
        first_room = omega (arith, t.marks_room, b.found.first_long, b.appended.first_long);
      },
    )

-- Tables for any plan.

module _ (p : Plan) where
  -- with a place for each edge and each vertex that the limits allow
  abbrev by_edge : List ℕ
  by_edge = replicate limits.edges 0

  abbrev by_vertex : List ℕ
  by_vertex = replicate limits.vertices 0

  module _ {incident begins dead : List ℕ} (t : Tabled limits p incident begins) (m : Masked limits p.ends p.excluded by_edge dead) where
    edges_room : length p.ends / 2 ≤ length {A = ℕ} by_edge
    edges_room = omega (arith, t.admitted.edges, length-replicate {A = ℕ} limits.edges 0)

    vertices_room : p.vertices ≤ length {A = ℕ} by_vertex
    vertices_room = omega (arith, t.admitted.vertices, length-replicate {A = ℕ} limits.vertices 0)

    live_edge : (e : ℕ) → e < length p.ends / 2 → (get_or dead e 0 ≡ 0) ↔ Edge (graph p) e
    live_edge = masked_edge t.admitted m edges_room (λ e. zeros limits.edges e)

    pub filled_cut : Cutting p [] (read dead)
    filled_cut = record { masking = λ e l z. (live_edge e l).0 z; gone = λ e k i. absurd (not_in i); kept = λ e k h. (live_edge e (edge_size_lem p k)).1 k }

    pub filled_spaces : {first₀ order₀ first : List ℕ} → p.vertices ≤ length first₀ → p.vertices ≤ length order₀ → Cleared p.vertices first₀ first
        → Tables limits p incident begins dead first order₀ by_vertex × Spaces p dead by_edge by_vertex by_vertex
    filled_spaces h h' c = (
      record {
        tabled = t;
        dead_room = omega (arith, edges_room, m.long);
        masking = filled_cut.masking;
        marks_room = omega (arith, h, c.kept.long);
        order_room = h';
        cursor_room = vertices_room;
        fresh = c.zero;
      },
      record {
        live = λ e k. (live_edge e (edge_size_lem p k)).1 k;
        labels_room = edges_room;
        marks_room = vertices_room;
        fresh = λ v l. zeros limits.vertices v;
        other_room = vertices_room;
      },
    )
