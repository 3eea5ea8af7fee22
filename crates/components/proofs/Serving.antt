-- The whole answer: labels and bodies make ready for the cuts, what is found then is the definition's table, and a refusal leaves the table.
use mathlib.Core.Path.{◌≡◌, refl, sym, ap, ◌∙◌}
use mathlib.Core.Bool.{Bool, not}
use mathlib.Core.List.{List}
use Prim.Native.Nat.{ℕ, ◌*◌, ◌/◌, ◌≤◌, ◌<◌}
use native.Mathlib.Omega.{arith}
use native.Mathlib.Decide.{dec_lt}
use lib.Dec.{ltb, leb}
use lib.ListN.{length, drop, replicate, length-replicate}
use borrow.Author.Tests.{lt-ltb, le-ltb}
use Rattle.connectivity.specs.Plan.{Plan, graph, listed, Limits}
use Rattle.connectivity.specs.Component.{components}
use Rattle.connectivity.specs.Admission.{Admitted}
use Rattle.connectivity.proofs.Lists.{decides_le, T_true, T_false}
use Rattle.connectivity.proofs.Kept.{bound_is}
use Rattle.connectivity.proofs.Component.{components-length, components_at}
use Rattle.graph.specs.declared.Answer as code
use Rattle.graph.specs.Admission.{told_by, lent}
use Rattle.graph.specs.Excluded.{Masked}
use Rattle.graph.specs.Marks.{read}
use Rattle.graph.proofs.Telling.{told_admitted, told_room}
use Rattle.incidence.specs.Tables.{Front, incident_table, begins_table}
use Rattle.incidence.proofs.Front.{front}
use Rattle.depth.specs.Forest.{RootsLow}
use Rattle.labels.specs.Answered.{ForestOf, Tables, tables}
use Rattle.labels.specs.Answered as labelling
use Rattle.labels.specs.Labels.{Masks}
use Rattle.labels.proofs.LongEnough.{AmpleFor}
use Rattle.labels.proofs.Answers.{answers_zero}
use Rattle.labels.proofs.Masks.{masks_live, masks_masking, masked_made}
use Rattle.components.specs.Answered.{Answered}
use Rattle.components.specs.Bodies.{Ordered, Bodied}
use Rattle.components.specs.Stars.{Singles, Stars, Working, Worked}
use Rattle.components.specs.Tries.{Stage, Found}
use Rattle.components.proofs.Starring.{singles-start, stars_component}
use Rattle.components.proofs.Turning.{working_setting, worked_more}

-- The cuts.

module _ {most : Limits} {p : Plan} {incident begins first labels table claimed : List ℕ} (s : Stage most p incident begins first labels table)
    (z : Masked most p.ends p.excluded (replicate most.edges 0) claimed) where
  -- the edges of excluded vertices are claimed from the start
  m : Masks p claimed
  m = masked_made s.tabled.admitted z

  pub stage_working : Working most p incident begins first labels claimed table
  stage_working = record {
    tabled = s.tabled;
    first_room = s.first_room;
    labels_room = s.labels_room;
    balanced = s.balanced;
    claimed_room = m.room;
    masking = masks_masking m;
    table_room = s.table_room;
  }

  pub stage_singles : Singles (graph p) p.vertices (length p.ends / 2) 0 claimed table
  stage_singles = singles-start (working_setting stage_working) claimed table s.groups (masks_live m)

  pub stage_found : {claimed₁ table₁ claimed₂ table₂ : List ℕ} → Worked p.vertices claimed table claimed₁ table₁
      → Stars (graph p) p.vertices (length p.ends / 2) (length p.ends / 2) 0 claimed₂ table₂ × Worked p.vertices claimed₁ table₁ claimed₂ table₂ → Found p table table₂
  stage_found a b = record { kept = (worked_more a b.1).kept; each = stars_component (working_setting stage_working) b.0 }

-- Labels and bodies.

module _ {most : Limits} {p : Plan} (a : Admitted most p) where
  -- the tables that are made for it
  abbrev made : Tables
  made = tables (replicate (2 * most.edges) 0) (replicate most.vertices 0) (replicate most.edges 0) (replicate most.vertices 0) (replicate most.vertices 0) (replicate most.vertices 0)
      (replicate most.edges 0) (replicate most.vertices 0)

  long : (k : ℕ) → length (replicate {A = ℕ} k 0) ≡ k
  long k = length-replicate {A = ℕ} k 0

  roomy : AmpleFor p made
  roomy = record {
    groups = omega (arith, a.edges, long (2 * most.edges));
    beginnings = omega (arith, a.vertices, long most.vertices);
    edge_marks = omega (arith, a.edges, long most.edges);
    cursors = omega (arith, a.vertices, long most.vertices);
    room = record {
      marks = omega (arith, a.vertices, long most.vertices);
      places = omega (arith, a.vertices, long most.vertices);
      edges = omega (arith, a.edges, long most.edges);
      vertices = omega (arith, a.vertices, long most.vertices);
    };
  }

  module _ {incident begins dead first order cursor labels sums : List ℕ} {r : code.Answer} (s : labelling.Answered most p made (tables incident begins dead first order cursor labels sums) r) where
    served : r.number ≡ 0
    served = answers_zero s a roomy

    first_long : length first ≡ most.vertices
    first_long = (s.spanned served).first_kept.long ∙ long most.vertices

    order_long : length order ≡ most.vertices
    order_long = (s.spanned served).order_kept.long ∙ long most.vertices

    pub labelled_forest : ForestOf p first order
    labelled_forest = (s.spanned served).forest

    pub labelled_low : RootsLow p.vertices (read first) (read order)
    labelled_low = (s.spanned served).low

    pub labelled_ordered : {table : List ℕ} → p.vertices ≤ length table → Ordered p.vertices first order table
    labelled_ordered r = record {
      first_room = omega (arith, first_long, a.vertices);
      order_room = omega (arith, order_long, a.vertices);
      table_room = r;
      valid = labelled_forest.valid;
    }

    pub labelled_stage : {table₀ table : List ℕ} → p.vertices ≤ length table₀ → Bodied p table₀ table → Stage most p incident begins first labels table
    labelled_stage r b = let l = s.laid served in record {
      tabled = record {
        admitted = a;
        incident_rest = drop (length (incident_table (listed p))) made.incident;
        incident_is = l.incident_front;
        begins_rest = drop (length (begins_table (listed p))) made.begins;
        begins_is = l.begins_front;
      };
      first_room = omega (arith, first_long, a.vertices);
      labels_room = omega (arith, (s.cancelled served).labels_kept.long, long most.edges, a.edges);
      balanced = (s.cancelled served).balanced;
      table_room = omega (arith, b.kept.long);
      groups = b.groups;
    }

  -- what is found is the definition's table
  pub found_front : {table₀ table₁ table : List ℕ} → p.vertices ≤ length table₀ → Bodied p table₀ table₁ → Found p table₁ table → Front (components (graph p)) table₀ table
  found_front {table₀} {table₁} {table} r b f = front (components (graph p)) table₀ table (omega (arith, size)) (rw size (record {
    long = f.kept.long ∙ b.kept.long;
    rest = λ k l. f.kept.rest k l ∙ b.kept.rest k l;
  }))
      (λ v l. let h : v < p.vertices = omega (arith, size) in f.each v h ∙ sym (components_at (graph p) v (rw (bound_is p) h)))
    where
      size : length (components (graph p)) ≡ p.vertices
      size = components-length (graph p) ∙ bound_is p

-- The answer.

not_less : (a b : ℕ) → not (ltb a b) ≡ leb b a
not_less a b = elim (dec_lt a b) [
  | yes l ↦ ap not (lt-ltb a b l) ∙ sym (T_false (leb b a) (λ t. let h = (decides_le b a).holds t in omega arith))
  | no l ↦ ap not (le-ltb a b (omega arith)) ∙ sym (T_true (leb b a) ((decides_le b a).test (omega arith)))
]

module _ (most : Limits) (p : Plan) (table₀ : List ℕ) {r : code.Answer} (q : r ≡ told_by (lent most p (not (ltb (length table₀) p.vertices)))) where
  abbrev room : Bool
  room = leb p.vertices (length table₀)

  told : r ≡ told_by (lent most p room)
  told = q ∙ ap (λ (t : Bool). told_by (lent most p t)) (not_less (length table₀) p.vertices)

  pub answer_ready : r.number ≡ 0 → Admitted most p × (p.vertices ≤ length table₀)
  answer_ready z = (told_admitted most p room told z, told_room most p room told z (decides_le p.vertices (length table₀)))

  pub answer-served : {table : List ℕ} → r.number ≡ 0 → Front (components (graph p)) table₀ table → Answered most p table₀ table r
  answer-served z f = record { answer = told; front = λ w. f; unchanged = λ n. absurd (n z) }

  pub answer-refused : (r.number ≡ 0 → ⊥) → Answered most p table₀ table₀ r
  answer-refused n = record { answer = told; front = λ z. absurd (n z); unchanged = λ w. refl }
