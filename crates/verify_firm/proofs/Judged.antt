-- The judgement of a firm list, from one row to the next, and at its end.
use mathlib.Core.Path.{◌≡◌, refl, sym, ap, subst, ◌∙◌}
use mathlib.Core.Logic.{◌↔◌}
use mathlib.Core.Bool.{Bool, true, false, cond, ◌&&◌}
use mathlib.Core.List.{List, [], ◌∷◌, ◌++◌}
use Prim.Native.Nat.{ℕ, suc, ◌+◌, ◌*◌, ◌≤◌, ◌<◌}
use native.Mathlib.Omega.{arith}
use lib.Dec.{eqb, leb}
use lib.ListN.{length, drop}
use lib.Seq.{drop-length}
use borrow.Author.Tests.{eqb-true, eq-eqb, ne_eqb}
use Rattle.connectivity.specs.Lists.{all}
use Rattle.connectivity.specs.Plan.{Plan, plan, graph, Limits}
use Rattle.connectivity.specs.Graph.{Graph, Vertex, vertices, edges}
use Rattle.connectivity.specs.Walk.{Leg, all_edges, Branch, is_branch}
use Rattle.connectivity.specs.Admission.{Admitted, kept_vertices, Answer, answer, passed, and_then}
use Rattle.connectivity.specs.Judge.{Row, rows_of, leg_of, row_number, step_number, closing_number, is_last, judge_rows, judge_firm, judge_graph, judge}
use Rattle.connectivity.proofs.Admission.{passed_then, failed_then}
use Rattle.connectivity.proofs.Fit.{closing}
use Rattle.connectivity.proofs.Judge.{judge_admitted}
use Rattle.graph.specs.declared.Answer as code
use Rattle.graph.specs.declared.Graph as code-graph
use Rattle.graph.specs.Admission.{told_by}
use Rattle.verify_firm.specs.declared.state.State.{State}
use Rattle.verify_firm.specs.declared.state.Taken.{Taken}
use Rattle.graph.specs.Marks.{rank}
use Rattle.graph.proofs.Lent.{Made}
use Rattle.verify_firm.specs.Marks.{row_at, Holds, Represents, taken_number, row_answer, done_then, walk_then, SteppedAt, last_at, is_forked, Closed}
use Rattle.verify_firm.proofs.Tests.{rows_next}
use Rattle.verify_firm.proofs.Keeping.{branches_are}

-- a row's own number, then the step's, as one number
one_number : (own step k : ℕ) (last : Bool) (whole on : Answer)
    → and_then (answer own k) (cond last (and_then (answer step k) whole) on) ≡ and_then (answer (cond (eqb own 0) (cond last step 0) own) k) (cond last whole on)
unfolding and_then
one_number own step k last whole on = go (eqb own 0) refl last
  where
    go : (t : Bool) → eqb own 0 ≡ t → (l : Bool)
        → cond t (cond l (cond (eqb step 0) whole (answer step k)) on) (answer own k) ≡ cond (eqb (cond t (cond l step 0) own) 0) (cond l whole on) (answer (cond t (cond l step 0) own) k)
    go true p true = refl
    go true p false = refl
    go false p l = rw p

module _ (g : Graph) (done : List (List Leg)) (walk : List Leg) (k : ℕ) (r : Row) (rest : List Row) where
  abbrev taken : ℕ
  taken = taken_number g done walk (is_last r rest) r

  abbrev after : Answer
  after = judge_rows g (done_then done walk (is_last r rest) r) (walk_then walk (is_last r rest) r) (suc k) rest

  one_row : judge_rows g done walk k (r ∷ rest) ≡ and_then (answer taken k) after
  unfolding judge_rows
  one_row =
      one_number (row_number g done walk r) (step_number g done (walk ++ (leg_of r ∷ []))) k (is_last r rest) (judge_rows g ((walk ++ (leg_of r ∷ [])) ∷ done) [] (suc k) rest)
      (judge_rows g done (walk ++ (leg_of r ∷ [])) (suc k) rest)
      ∙ ap (and_then (answer taken k)) (go (is_last r rest))
    where
      go : (l : Bool)
          → cond l (judge_rows g ((walk ++ (leg_of r ∷ [])) ∷ done) [] (suc k) rest) (judge_rows g done (walk ++ (leg_of r ∷ [])) (suc k) rest) ≡ judge_rows g (done_then done walk l r) (walk_then walk l r) (suc k) rest
      go true = refl
      go false = refl

  -- a row that fails, and one that passes
  row_stops : (taken ≡ 0 → ⊥) → judge_rows g done walk k (r ∷ rest) ≡ answer taken k
  row_stops n = one_row ∙ failed_then (answer taken k) after n

  row_passes : taken ≡ 0 → judge_rows g done walk k (r ∷ rest) ≡ after
  row_passes z = one_row ∙ passed_then (answer taken k) after z

-- 16, if it is not 0
closing_fails : (g : Graph) (done : List (List Leg)) → (closing_number g done ≡ 0 → ⊥) → closing_number g done ≡ 16
unfolding closing_number
closing_fails g done = go (leb 3 (length done) && all (is_branch g (all_edges done)) (vertices g))
  where
    go : (t : Bool) → (◌≡◌ {A = ℕ} (cond t 0 16) 0 → ⊥) → ◌≡◌ {A = ℕ} (cond t 0 16) 16
    go true n = absurd (n refl)
    go false n = refl

-- the answer to a row, by its number
row_zero : (m row : ℕ) → (row_answer m row).number ≡ 0 → m ≡ 0
row_zero m row = go (eqb m 0) refl
  where
    go : (t : Bool) → eqb m 0 ≡ t → (cond t passed (answer m row)).number ≡ 0 → m ≡ 0
    go true q z = eqb-true m 0 q
    go false q z = z

row_fails : (m row : ℕ) → (m ≡ 0 → ⊥) → row_answer m row ≡ answer m row
row_fails m row h = rw (ne_eqb m 0 h)

-- some rows are taken up, and what is left to judge is the rest
pub record Judged (most : Limits) (p : Plan) (list used : List ℕ) (state : State) (row : ℕ) : Type 0 where
  pub done : List (List Leg)
  pub walk : List Leg
  pub represents : Represents most (graph p) list used done walk row state
  pub rest : judge_rows (graph p) [] [] 0 (rows_of list) ≡ judge_rows (graph p) done walk row (rows_of (drop (3 * row) list))

rows_here : (list : List ℕ) (row : ℕ) → 3 * row + 2 < length list → rows_of (drop (3 * row) list) ≡ row_at list row ∷ rows_of (drop (3 * (row + 1)) list)
rows_here list row h =
    let a : suc (3 * row) ≡ 3 * row + 1 = omega arith in
    let b : suc (suc (3 * row)) ≡ 3 * row + 2 = omega arith in
    let c : suc (suc (suc (3 * row))) ≡ 3 * (row + 1) = omega arith in
    rows_next list (3 * row) (omega (arith, h)) ∙ rw (c, b, a)

pub judged_start : {most : Limits} {p : Plan} {list used : List ℕ} {state : State} → Represents most (graph p) list used [] [] 0 state → Judged most p list used state 0
judged_start r = record { done = []; walk = []; represents = r; rest = refl }

module _ {most : Limits} {p : Plan} {list used : List ℕ} {state : State} {row : ℕ} (j : Judged most p list used state row) (h : 3 * row + 2 < length list)
    {marked : List ℕ} (t : Taken) {l : Bool} (q : l ≡ last_at list row) (taken-up : SteppedAt most (graph p) list marked j.done j.walk row l t) where
  s : SteppedAt most (graph p) list marked j.done j.walk row (last_at list row) t
  s = subst (λ (b : Bool). SteppedAt most (graph p) list marked j.done j.walk row b t) q taken-up

  -- what the row is answered, by its number
  abbrev number : ℕ
  number = taken_number (graph p) j.done j.walk (last_at list row) (row_at list row)

  passed_row : t.answer.number ≡ 0 → number ≡ 0
  passed_row z = row_zero number row (sym (ap (λ (a : code.Answer). a.number) s.answered) ∙ z)

  failed_row : (t.answer.number ≡ 0 → ⊥) → number ≡ 0 → ⊥
  failed_row h z = h (ap (λ (a : code.Answer). a.number) s.answered ∙ rw z)

  stops : (t.answer.number ≡ 0 → ⊥) → judge_rows (graph p) [] [] 0 (rows_of list) ≡ answer number row
  stops m = j.rest ∙ ap (judge_rows (graph p) j.done j.walk row) (rows_here list row h)
      ∙ row_stops (graph p) j.done j.walk row (row_at list row) (rows_of (drop (3 * (row + 1)) list)) (failed_row m)

  pub judged_stop : (t.answer.number ≡ 0 → ⊥) → t.answer ≡ told_by (judge_rows (graph p) [] [] 0 (rows_of list))
  judged_stop m = s.answered ∙ ap told_by (row_fails number row (failed_row m) ∙ sym (stops m))

  pub judged_next : t.answer.number ≡ 0 → Judged most p list marked t.state (row + 1)
  judged_next z = subst (Judged most p list marked t.state) same (record {
    done = done_then j.done j.walk (last_at list row) (row_at list row);
    walk = walk_then j.walk (last_at list row) (row_at list row);
    represents = s.next z;
    rest = j.rest ∙ ap (judge_rows (graph p) j.done j.walk row) (rows_here list row h)
        ∙ row_passes (graph p) j.done j.walk row (row_at list row) (rows_of (drop (3 * (row + 1)) list)) (passed_row z)
        ∙ ap (λ (k : ℕ). judge_rows (graph p) (done_then j.done j.walk (last_at list row) (row_at list row)) (walk_then j.walk (last_at list row) (row_at list row)) (suc row) (rows_of (drop (3 * k) list))) (sym same);
  })
    where
      same : suc row ≡ row + 1
      same = omega arith

-- the end of the list
module _ {most : Limits} {p : Plan} {list used : List ℕ} {state : State} {row : ℕ} (j : Judged most p list used state row) (over : 3 * row ≡ length list) (bound : p.vertices ≤ most.vertices)
    {kept : ℕ} (k : kept ≡ kept_vertices p) where
  ended : judge_rows (graph p) [] [] 0 (rows_of list) ≡ answer (closing_number (graph p) j.done) 0
  unfolding judge_rows rows_of
  ended = j.rest ∙ rw (over, drop-length list)

  abbrev Branches : Type 0
  Branches = (v : ℕ) → Vertex (graph p) v → Branch (graph p) (all_edges j.done) v

  marks_close : Closed state.degree p.vertices kept state.steps ↔ ((3 ≤ length j.done) × Branches)
  marks_close = (λ c. let m = three c.0 in (m, (told m).0 c.1), λ c. (omega (arith, c.0, h.steps_done), (told c.0).1 c.1))
    where
      h : Holds most (graph p) list j.done j.walk row state.degree state.left state.steps state.run state.low state.high
      h = j.represents.holds

      three : 3 ≤ state.steps → 3 ≤ length j.done
      three m = omega (arith, m, h.steps_done)

      told : 3 ≤ length j.done → (rank (is_forked state.degree) p.vertices ≡ kept) ↔ Branches
      told m = rw k (branches_are p state.degree (h.stands.steps m) (λ v l. h.degrees v (omega (arith, l, bound))))

  pub judged_passes : Closed state.degree p.vertices kept state.steps → judge_rows (graph p) [] [] 0 (rows_of list) ≡ answer 0 0
  judged_passes c = ended ∙ ap (λ (m : ℕ). answer m 0) ((closing (graph p) j.done).1 (marks_close.0 c))

  pub judged_fails : (Closed state.degree p.vertices kept state.steps → ⊥) → judge_rows (graph p) [] [] 0 (rows_of list) ≡ answer 16 0
  judged_fails c = ended ∙ ap (λ (m : ℕ). answer m 0) (closing_fails (graph p) j.done (λ z. c (marks_close.1 ((closing (graph p) j.done).0 z))))

-- the whole answer

module _ (g : Graph) (list : List ℕ) where
  pub firm_long : (length list ≡ 3 * length (edges g) → ⊥) → judge_firm g list ≡ answer 9 0
  unfolding judge_firm
  firm_long h = rw (ne_eqb (length list) (3 * length (edges g)) h)

  pub firm_rows : length list ≡ 3 * length (edges g) → judge_firm g list ≡ judge_rows g [] [] 0 (rows_of list)
  unfolding judge_firm
  firm_rows h = rw (eq-eqb (length list) (3 * length (edges g)) h)

-- of kind 0 the firm list is judged
pub judge_firm_lem : {most : Limits} {p : Plan} → Admitted most p → (list : List ℕ) → judge most p 0 list ≡ judge_firm (graph p) list
unfolding judge_graph
judge_firm_lem {most} {p} a list = judge_admitted most p 0 list a

-- the counts of a plan name its vertices
pub own_counts : {most : Limits} {n : ℕ} {ends excluded : List ℕ} {counts : code-graph.Graph} → Made most (plan n ends excluded) counts
    → Made most (plan counts.vertices ends excluded) counts
own_counts {most} {n} {ends} {excluded} {counts} m = subst (λ (k : ℕ). Made most (plan k ends excluded) counts) (sym m.vertices) m
