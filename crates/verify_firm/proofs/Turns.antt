-- One row after another: a row's number is the definition's, and the answer is that of the first row that fails, or of the end.
use mathlib.Core.Path.{◌≡◌, refl, sym, ap, subst, ◌∙◌}
use mathlib.Core.Bool.{Bool, true, false, not, cond, ◌&&◌, ◌||◌}
use mathlib.Core.List.{List, [], ◌∷◌, ◌++◌}
use Prim.Native.Nat.{ℕ, suc, ◌+◌, ◌*◌, ◌/◌, ◌≤◌, ◌<◌}
use native.Mathlib.Omega.{arith}
use native.Mathlib.Decide.{ℕ_discrete}
use lib.Dec.{eqb, ltb}
use lib.ListN.{length, get_or, set, length-set}
use lib.Seq.{get_or-set_same, get_or-set_other}
use borrow.Author.Tests.{eq-eqb, ne_eqb, ltb-true}
use Rattle.connectivity.specs.Lists.{mem}
use Rattle.connectivity.specs.Plan.{Plan, plan, graph, Limits}
use Rattle.connectivity.specs.Graph.{Graph, is_edge}
use Rattle.connectivity.specs.Walk.{Leg, Walk, last, then, edges_of, all_edges, far}
use Rattle.connectivity.specs.Judge.{Row, leg_of, step_fits, edge_fits, comes_to, from_fits, row_number, step_number}
use Rattle.connectivity.proofs.Kept.{edge_size_lem, bound_is}
use Rattle.connectivity.proofs.Reach.{joins_vertex}
use Rattle.connectivity.proofs.Legs.{walk_stop, edges_snoc, joins_far}
use Rattle.connectivity.proofs.Run.{RowFits, row_fits}
use Rattle.graph.specs.Admission.{told_by}
use Rattle.graph.specs.Excluded.{is_open}
use Rattle.verify_firm.specs.declared.state.Run.{Run}
use Rattle.verify_firm.specs.declared.state.State.{State}
use Rattle.verify_firm.specs.Marks.{row_at, edge_at, from_at, row_mark, WentOn, begun, on, Ready, Whole, StepTold, RowsReady, RowsAdded, Used, Holds, Represents, taken_number, row_answer, SteppedAt}
use Rattle.verify_firm.proofs.Rows.{lies_le, laid_length}
use Rattle.verify_firm.proofs.Going.{lies_nil, went_on}
use Rattle.verify_firm.proofs.Ending.{finished}

-- The row's own number.

comes_is : {g : Graph} {a b : ℕ} {walk : List Leg} (v : ℕ) → Walk g a walk b → comes_to g walk v ≡ eqb b v
unfolding comes_to
comes_is v (last e j) = rw (walk_stop (last e j))
comes_is v (then e j k) = rw (walk_stop (then e j k))

not_or : (a b : Bool) → not (a || b) ≡ (not a && not b)
not_or true b = refl
not_or false b = refl

module _ {most : Limits} (p : Plan) {list used : List ℕ} {done : List (List Leg)} {walk : List Leg} {row : ℕ} {state : State}
    (r : Represents most (graph p) list used done walk row state) where
  abbrev g : Graph
  g = graph p

  abbrev holds : Holds most g list done walk row state.degree state.left state.steps state.run state.low state.high
  holds = r.holds

  comes : (v : ℕ) → comes_to g walk v ≡ (eqb state.run.first row || eqb state.run.at v)
  unfolding comes_to
  comes v = elim (ℕ_discrete state.run.first row) [
    | yes p ↦ rw (lies_nil holds.lies p, eq-eqb state.run.first row p)
    | no p ↦ comes_is v (holds.walks (omega (arith, p, lies_le holds.lies))) ∙ rw (ne_eqb state.run.first row p)
  ]

  -- 11 by the marks
  edge : (e : ℕ) → edge_fits g done walk (record { step = 0; edge = e; from = 0 }) ≡ (ltb e (length p.ends / 2) && is_open used e)
  unfolding edge_fits is_edge graph
  edge e = go (ltb e (length p.ends / 2)) refl (r.marked e)
    where
      go : (t : Bool) → ltb e (length p.ends / 2) ≡ t → (e < length p.ends / 2 → is_open used e ≡ (is_edge g e && not (mem e (edges_of walk) || mem e (all_edges done))))
          → (is_edge g e && (not (mem e (edges_of walk)) && not (mem e (all_edges done)))) ≡ (t && is_open used e)
      go false q m = rw q
      go true q m = rw (m (ltb-true e (length p.ends / 2) q), not_or (mem e (edges_of walk)) (mem e (all_edges done)))

  pub row_number_lem : row_mark p.ends used state.steps row state.run (row_at list row) ≡ row_number g done walk (row_at list row)
  unfolding row_number step_fits edge_fits from_fits graph
  row_number_lem = rw (holds.steps_done, edge (row_at list row).edge, comes (row_at list row).from)

-- Used edges.

or_false : (a : Bool) → (a || false) ≡ a
or_false true = refl
or_false false = refl

and_false : (a : Bool) → (a && false) ≡ false
and_false true = refl
and_false false = refl

and_true : (a : Bool) → (a && true) ≡ a
and_true true = refl
and_true false = refl

mem-append : (x : ℕ) (l r : List ℕ) → mem x (l ++ r) ≡ (mem x l || mem x r)
unfolding mem
mem-append x [] r = refl
mem-append x (y ∷ l) r = rw (mem-append x l r) (or_assoc (eqb x y) (mem x l) (mem x r))
  where
    or_assoc : (a b c : Bool) → (a || (b || c)) ≡ ((a || b) || c)
    or_assoc true b c = refl
    or_assoc false b c = refl

mem_one : (x y : ℕ) → mem x (y ∷ []) ≡ eqb x y
unfolding mem
mem_one x y = or_false (eqb x y)

mark_used : (used : List ℕ) (e x : ℕ) → e < length used → is_open (set used e 1) x ≡ (is_open used x && not (eqb x e))
mark_used used e x h = elim (ℕ_discrete x e) [
  | yes p ↦ rw (p, get_or-set_same used e 1 0 h, eq-eqb e e refl) (sym (and_false (is_open used e)))
  | no p ↦ rw (get_or-set_other used e x 1 0 p, ne_eqb x e p) (sym (and_true (is_open used x)))
]

used_next : (g : Graph) (used : List ℕ) (done : List (List Leg)) (walk : List Leg) (l : Leg) → l.edge < length used → Used g used done walk
    → Used g (set used l.edge 1) done (walk ++ (l ∷ []))
used_next g used done walk l b u x h =
    mark_used used l.edge x b
    ∙ rw (u x h, edges_snoc walk l, mem-append x (edges_of walk) (l.edge ∷ []), mem_one x l.edge) (one_less (is_edge g x) (mem x (edges_of walk)) (mem x (all_edges done)) (eqb x l.edge))
  where
    one_less : (e a b c : Bool) → ((e && not (a || b)) && not c) ≡ (e && not ((a || c) || b))
    one_less false a b c = refl
    one_less true true b c = refl
    one_less true false true true = refl
    one_less true false true false = refl
    one_less true false false true = refl
    one_less true false false false = refl

used_done : (g : Graph) (used : List ℕ) (done : List (List Leg)) (walk : List Leg) → Used g used done walk → Used g used (walk ∷ done) []
unfolding mem
used_done g used done walk u x h = u x h ∙ ap (λ (t : Bool). is_edge g x && not t) (sym (mem-append x (edges_of walk) (all_edges done)))

-- One row, as `step` takes it up.

table_far : (p : Plan) (e v : ℕ) → far (graph p) e v ≡ cond (eqb (get_or p.ends (2 * e) 0) v) (get_or p.ends (2 * e + 1) 0) (get_or p.ends (2 * e) 0)
unfolding far graph
table_far p e v = refl

module _ (g : Graph) (done : List (List Leg)) (walk : List Leg) where
  taken_own : (whole : Bool) (r : Row) (m : ℕ) → m ≡ row_number g done walk r → (m ≡ 0 → ⊥) → m ≡ taken_number g done walk whole r
  taken_own whole r m p n = rw (← p, ne_eqb m 0 n)

  taken_on : (r : Row) → row_number g done walk r ≡ 0 → 0 ≡ taken_number g done walk false r
  taken_on r p = rw p

  taken_whole : (r : Row) (m : ℕ) → row_number g done walk r ≡ 0 → m ≡ step_number g done (walk ++ (leg_of r ∷ [])) → m ≡ taken_number g done walk true r
  taken_whole r m p q = rw (p, q)

went_first : {left : List ℕ} {run : Run} {row v to built : ℕ} {after : List ℕ} {next : Run} → WentOn left run row v to built after next → run.first ≤ row → next.first ≤ row
went_first (begun p) h = omega arith
went_first (on n fresh t) h = h

-- the answer to a row, by its number
rejects : {m n : ℕ} (row : ℕ) → m ≡ n → (m ≡ 0 → ⊥) → record { number = m; place = row } ≡ told_by (row_answer n row)
rejects {m} row p h = rw (← p, ne_eqb m 0 h)

goes_by : {n : ℕ} (row : ℕ) → 0 ≡ n → record { number = 0; place = 0 } ≡ told_by (row_answer n row)
goes_by row p = rw (← p)

module _ {most : Limits} {ends used list : List ℕ} {row : ℕ} {state : State} (r : Ready most ends used list row state) where
  abbrev of : Plan
  of = plan r.n ends r.excluded

  abbrev drawn : Graph
  drawn = graph of

  abbrev here : Row
  here = row_at list row

  abbrev longer : List Leg
  longer = r.walk ++ (leg_of here ∷ [])

  abbrev own : ℕ
  own = row_mark ends used state.steps row state.run here

  pub number_own : own ≡ row_number drawn r.done r.walk here
  number_own = row_number_lem of r.represents

  bound : drawn.bound ≤ most.vertices
  bound = omega (arith, bound_is of, r.admitted.vertices)

  pub steps_few : state.steps ≤ row
  steps_few = let h = r.represents.holds in omega (arith, h.steps_done, laid_length h.laid, lies_le h.lies)

  -- rejected by the row's own number
  pub stops_own : (m : ℕ) (after : List ℕ) (whole : Bool) → m ≡ own → (m ≡ 0 → ⊥) → SteppedAt most drawn list after r.done r.walk row whole
      (record { state = state; answer = record { number = m; place = row } })
  stops_own m after whole p n = record {
    answered = rejects row (taken_own drawn r.done r.walk whole here m (p ∙ number_own) n) n;
    next = λ z. absurd (n z);
  }

  module _ (z : own ≡ 0) where
    fits : RowFits drawn r.done r.walk here
    fits = (row_fits drawn r.done r.walk here).0 (sym number_own ∙ z)

    pub edge_below : edge_at list row < length ends / 2
    edge_below = edge_size_lem of fits.edge

    pub from_below : from_at list row < most.vertices
    from_below = omega (arith, bound, (joins_vertex (joins_far fits.edge fits.end)).below)

    module _ {to : ℕ} {after : List ℕ} {next : Run} (f : to ≡ cond (eqb (get_or ends (2 * edge_at list row) 0) (from_at list row)) (get_or ends (2 * edge_at list row + 1) 0) (get_or ends (2 * edge_at list row) 0))
        (w : WentOn state.left state.run row (from_at list row) to (get_or state.degree (from_at list row) 0) after next) where
      pub goes : Holds most drawn list r.done longer (suc row) state.degree after state.steps next state.low state.high
      goes = went_on r.represents.holds bound fits (f ∙ sym (table_far of (edge_at list row) (from_at list row))) refl w

      abbrev marked : List ℕ
      marked = set used (edge_at list row) 1

      used_length : length marked ≡ most.edges
      used_length = length-set used (edge_at list row) 1 ∙ r.represents.used_length

      used_marked : Used drawn marked r.done longer
      used_marked = used_next drawn used r.done r.walk (leg_of here) (omega (arith, edge_below, r.admitted.edges, r.represents.used_length)) r.represents.marked

      -- the step goes on
      pub goes_on : (last_row : Bool) → last_row ≡ false → SteppedAt most drawn list marked r.done r.walk row last_row
          (record { state = record { degree = state.degree; left = after; steps = state.steps; run = next; low = state.low; high = state.high }; answer = record { number = 0; place = 0 } })
      goes_on last_row l = rw l (record {
        answered = goes_by row (taken_on drawn r.done r.walk here (sym number_own ∙ z));
        next = λ p. record { used_length = used_length; marked = used_marked; holds = goes };
      })

      -- it is whole
      began : next.first < suc row
      began = omega (arith, went_first w (lies_le r.represents.holds.lies))

      pub whole : Whole most state.degree list state.steps next state.low state.high (get_or after next.start 0) (get_or after next.at 0)
      whole = record {
        g = drawn;
        bound = bound;
        done = r.done;
        walk = longer;
        row = suc row;
        left = after;
        read = omega (arith, r.read);
        within = omega (arith, r.below);
        begun = began;
        holds = goes;
        start_mark = refl;
        at_mark = refl;
      }

      pub told_number : (m : ℕ) → StepTold most state.degree list state.steps next state.low state.high (get_or after next.start 0) (get_or after next.at 0) m
          → m ≡ step_number drawn r.done longer
      unfolding whole
      told_number m t = t whole

      -- and rejected
      pub stops_whole : (last_row : Bool) → last_row ≡ true → (m : ℕ) → m ≡ step_number drawn r.done longer → (m ≡ 0 → ⊥) → SteppedAt most drawn list marked r.done r.walk row last_row
          (record { state = record { degree = state.degree; left = after; steps = state.steps; run = next; low = state.low; high = state.high }; answer = record { number = m; place = row } })
      stops_whole last_row l m p n = rw l (record {
        answered = rejects row (taken_whole drawn r.done r.walk here m (sym number_own ∙ z) p) n;
        next = λ q. absurd (n q);
      })

      pub rows_ready : RowsReady most state.degree ends list next.first (row + 1)
      rows_ready = record {
        long = goes.marks_length;
        order = omega (arith, began);
        read = omega (arith, r.read);
        within = omega (arith, r.below);
        edges = λ k l. edge_size_lem of (goes.rows k (omega (arith, l))).edge;
        fit = λ e l. let f = r.admitted.fit e l in record { left = omega (arith, f.left, bounded); right = omega (arith, f.right, bounded); different = f.different };
        few = goes.few;
      }
        where
          bounded : r.n ≤ length state.degree
          bounded = omega (arith, r.admitted.vertices, goes.marks_length)

      -- or passed
      pub passes : (last_row : Bool) → last_row ≡ true → (degrees : List ℕ) → RowsAdded state.degree degrees ends list next.first (row + 1)
          → step_number drawn r.done longer ≡ 0 → (fresh : Run) → fresh ≡ record { first = row + 1; start = 0; at = 0; fresh = true }
          → SteppedAt most drawn list marked r.done r.walk row last_row
          (record { state = record { degree = degrees; left = after; steps = state.steps + 1; run = fresh; low = next.start; high = next.at }; answer = record { number = 0; place = 0 } })
      passes last_row l degrees a p fresh k = rw (l, k) (record {
        answered = goes_by row (taken_whole drawn r.done r.walk here 0 (sym number_own ∙ z) (sym p));
        next = λ q. record { used_length = used_length; marked = used_done drawn marked r.done longer used_marked; holds = subst Then same holds };
      })
        where
          same : suc row ≡ row + 1
          same = omega arith

          Then : ℕ → Type 0
          Then k = Holds most drawn list (longer ∷ r.done) [] (suc row) degrees after (state.steps + 1) (record { first = k; start = 0; at = 0; fresh = true }) next.start next.at

          holds : Then (suc row)
          holds = finished of goes r.admitted.vertices began p (subst (RowsAdded state.degree degrees ends list next.first) (sym same) a)
