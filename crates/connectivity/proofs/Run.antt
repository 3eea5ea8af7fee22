-- The rows pass in turn exactly when they are the rows of walks that run: each a walk over edges that are new, whose step passes.
use mathlib.Core.Path.{◌≡◌, refl, sym, ap, ◌∙◌, subst}
use mathlib.Core.Logic.{◌⊎◌, inl, inr, ◌↔◌}
use mathlib.Core.Bool.{Bool, true, false, not, cond, ◌||◌}
use mathlib.Core.List.Memᴰ.{append_right as in_right}
use mathlib.Core.List.Memᴰ.{head as first}
use mathlib.Core.List.{List, [], ◌∷◌, ◌++◌, Memᴰ as In, append_assoc}
use Prim.Native.Nat.{ℕ, suc}
use native.Mathlib.Omega.{arith}
use lib.Dec.{T, eqb, eqb→eq, not_T}
use lib.ListN.{length}
use borrow.Author.Tests.{eqb-true, eq-eqb}
use Rattle.connectivity.specs.Lists.{Distinct, no_member, mem}
use Rattle.connectivity.specs.Graph.{Graph, Edge, Joins, is_edge}
use Rattle.connectivity.specs.Walk.{Leg, Walk, last, then, edges_of, all_edges, far, stop}
use Rattle.connectivity.specs.Admission.{Answer, answer, passed}
use Rattle.connectivity.specs.Judge.{Row, leg_of, step_fits, edge_fits, comes_to, from_fits, row_number, step_number, closing_number, is_last, judge_rows}
use Rattle.connectivity.proofs.Lists.{and_both, both_and, T-dec, T_true, T_false, true-T, eq-T, not_mem}
use Rattle.connectivity.proofs.Search.{is_edge_lem}
use Rattle.connectivity.proofs.Admission.{both_passed, passed_then}
use Rattle.connectivity.proofs.Distinct.{apart_distinct, left_distinct}
use Rattle.connectivity.proofs.Legs.{leg, far_is, joins_far, joins_end, walk_stop, stop_snoc, walk_snoc, edges_snoc, distinct_between}

-- `done` are the steps before, the latest first, and the second list those to come, the next first
pub data Runs (g : Graph) : List (List Leg) → List (List Leg) → Type 0 where
  end : {done : List (List Leg)} → closing_number g done ≡ 0 → Runs g done []
  step : {done walks : List (List Leg)} {a b : ℕ} {legs : List Leg} → Walk g a legs b → Distinct (edges_of legs ++ all_edges done)
      → step_number g done legs ≡ 0 → Runs g (legs ∷ done) walks → Runs g done (legs ∷ walks)

-- the rows of a step, and of steps from number s on, the next first
abbrev pub rows_at : ℕ → List Leg → List Row
rows_at s [] = []
rows_at s (l ∷ legs) = record { step = s; edge = l.edge; from = l.from } ∷ rows_at s legs

abbrev pub rows_from : ℕ → List (List Leg) → List Row
rows_from s [] = []
rows_from s (legs ∷ walks) = rows_at s legs ++ rows_from (suc s) walks

-- what a row that passes says
pub record RowFits (g : Graph) (done : List (List Leg)) (walk : List Leg) (r : Row) : Type 0 where
  pub step : r.step ≡ length done
  pub edge : Edge g r.edge
  pub new : In r.edge (edges_of walk) → ⊥
  pub unused : In r.edge (all_edges done) → ⊥
  pub end : T (eqb (g.left r.edge) r.from || eqb (g.right r.edge) r.from)
  pub comes : T (comes_to g walk r.from)

pub row_fits : (g : Graph) (done : List (List Leg)) (walk : List Leg) (r : Row) → (row_number g done walk r ≡ 0) ↔ RowFits g done walk r
unfolding row_number step_fits edge_fits from_fits
row_fits g done walk r = (to (step_fits done r) refl (edge_fits g done walk r) refl (from_fits g walk r) refl, from)
  where
    to : (a : Bool) → step_fits done r ≡ a → (b : Bool) → edge_fits g done walk r ≡ b → (c : Bool) → from_fits g walk r ≡ c
        → ◌≡◌ {A = ℕ} (cond a (cond b (cond c 0 12) 11) 10) 0 → RowFits g done walk r
    to false p b q c s h = absurd (omega arith)
    to true p false q c s h = absurd (omega arith)
    to true p true q false s h = absurd (omega arith)
    to true p true q true s h =
        let e = and_both (is_edge g r.edge) _ (true-T q) in
        let n = and_both (not (mem r.edge (edges_of walk))) _ e.1 in
        let f = and_both (eqb (g.left r.edge) r.from || eqb (g.right r.edge) r.from) _ (true-T s) in
        record {
          step = eqb-true r.step (length done) p;
          edge = (is_edge_lem g r.edge).0 e.0;
          new = (not_mem r.edge (edges_of walk)).0 n.0;
          unused = (not_mem r.edge (all_edges done)).0 n.1;
          end = f.0;
          comes = f.1;
        }

    from : RowFits g done walk r → row_number g done walk r ≡ 0
    from f = rw (
      T_true (step_fits done r) (eq-T f.step),
      T_true (edge_fits g done walk r) (both_and (is_edge g r.edge) _ ((is_edge_lem g r.edge).1 f.edge)
          (both_and (not (mem r.edge (edges_of walk))) _ ((not_mem r.edge (edges_of walk)).1 f.new) ((not_mem r.edge (all_edges done)).1 f.unused))),
      T_true (from_fits g walk r) (both_and (eqb (g.left r.edge) r.from || eqb (g.right r.edge) r.from) _ f.end f.comes),
    )

-- the walk of a step so far
data Begun (g : Graph) : List Leg → Type 0 where
  nothing : Begun g []
  some : {a b : ℕ} {walk : List Leg} → Walk g a walk b → Begun g walk

pub comes_to_lem : {g : Graph} {a b v : ℕ} {walk : List Leg} → Walk g a walk b → T (comes_to g walk v) → b ≡ v
unfolding comes_to
comes_to_lem {g} {v = v} (last e j) t = sym (walk_stop (last e j)) ∙ eqb→eq _ v t
comes_to_lem {g} {v = v} (then e j k) t = sym (walk_stop (then e j k)) ∙ eqb→eq _ v t

-- with a row that passes it goes on
one_more : {g : Graph} {done : List (List Leg)} {walk : List Leg} {r : Row} → Begun g walk → RowFits g done walk r
    → (a : ℕ) × (b : ℕ) × Walk g a (walk ++ (leg_of r ∷ [])) b
one_more {g} {r = r} nothing f = (r.from, far g r.edge r.from, last r.edge (joins_far f.edge f.end))
one_more {g} {r = r} (some {a = a} {walk = walk} k) f =
    (a, far g r.edge r.from, walk_snoc (subst (Walk g a walk) (comes_to_lem k f.comes) k) (joins_far f.edge f.end))

pub more_distinct : {g : Graph} {done : List (List Leg)} {walk : List Leg} {r : Row} → RowFits g done walk r → Distinct (edges_of walk ++ all_edges done)
    → Distinct (edges_of (walk ++ (leg_of r ∷ [])) ++ all_edges done)
more_distinct {done = done} {walk = walk} {r = r} f d = rw (edges_snoc walk (leg_of r)) (distinct_between (edges_of walk) (all_edges done) f.new f.unused d)

rows_snoc : (s : ℕ) (walk : List Leg) (r : Row) (rest : List Row) → r.step ≡ s → rows_at s (walk ++ (leg_of r ∷ [])) ++ rest ≡ rows_at s walk ++ (r ∷ rest)
rows_snoc s [] r rest p = ap (λ (t : ℕ). record { step = t; edge = r.edge; from = r.from } ∷ rest) (sym p)
rows_snoc s (l ∷ walk) r rest p = ap (λ (m : List Row). record { step = s; edge = l.edge; from = l.from } ∷ m) (rows_snoc s walk r rest p)

-- the rows of walks that run, `walk` being the first ones of the next step
pub record Running (g : Graph) (done : List (List Leg)) (walk : List Leg) (rest : List Row) : Type 0 where
  pub walks : List (List Leg)
  pub runs : Runs g done walks
  pub rows : rows_at (length done) walk ++ rest ≡ rows_from (length done) walks

-- a row passes: it fits, and either its step is whole and passes, or the next row goes on with it
record Passed (g : Graph) (done : List (List Leg)) (walk : List Leg) (k : ℕ) (r : Row) (rest : List Row) : Type 0 where
  fits : RowFits g done walk r
  after : ((step_number g done (walk ++ (leg_of r ∷ [])) ≡ 0) × (judge_rows g ((walk ++ (leg_of r ∷ [])) ∷ done) [] (suc k) rest ≡ passed))
      ⊎ ((T (is_last r rest) → ⊥) × (judge_rows g done (walk ++ (leg_of r ∷ [])) (suc k) rest ≡ passed))

row_passed : (g : Graph) (done : List (List Leg)) (walk : List Leg) (k : ℕ) (r : Row) (rest : List Row)
    → judge_rows g done walk k (r ∷ rest) ≡ passed → Passed g done walk k r rest
unfolding judge_rows
row_passed g done walk k r rest h = let p = both_passed _ _ h in record {
  fits = (row_fits g done walk r).0 p.0;
  after = elim (T-dec (is_last r rest)) [
    | yes t ↦ inl (both_passed _ _ (rw (T_true (is_last r rest) t) at p.1))
    | no n ↦ inr (n, rw (T_false (is_last r rest) n) at p.1)
  ];
}

-- where no row follows, a row is the last of its step
last_row : (r : Row) (rest : List Row) → (T (is_last r rest) → ⊥) → rest ≡ [] → ⊥
unfolding is_last
last_row r rest n p = n (rw p tt)

passing : (g : Graph) (done : List (List Leg)) (walk : List Leg) (k : ℕ) (rest : List Row) → Begun g walk → (rest ≡ [] → walk ≡ [])
    → Distinct (edges_of walk ++ all_edges done) → judge_rows g done walk k rest ≡ passed → Running g done walk rest
unfolding judge_rows
passing g done walk k [] b o d h = record { walks = []; runs = end (ap (λ (a : Answer). a.number) h); rows = rw (o refl) }
passing g done walk k (r ∷ rest) b o d h =
    let longer = walk ++ (leg_of r ∷ []) in
    let p = row_passed g done walk k r rest h in
    let w = one_more b p.fits in
    let e = more_distinct p.fits d in
    let same = sym (rows_snoc (length done) walk r rest p.fits.step) in
    elim p.after [
      | inl q ↦ let n = passing g (longer ∷ done) [] (suc k) rest nothing (λ z. refl) e q.1 in
          record { walks = longer ∷ n.walks; runs = step w.2 e q.0 n.runs; rows = same ∙ ap (λ (m : List Row). rows_at (length done) longer ++ m) n.rows }
      | inr q ↦ let n = passing g done longer (suc k) rest (some w.2) (λ z. absurd (last_row r rest q.0 z)) e q.1 in
          record { walks = n.walks; runs = n.runs; rows = same ∙ n.rows }
    ]

-- the other way: rows of walks that run pass
row_last : {g : Graph} {done : List (List Leg)} {walk : List Leg} {r : Row} (k : ℕ) (rest : List Row) → RowFits g done walk r → T (is_last r rest)
    → step_number g done (walk ++ (leg_of r ∷ [])) ≡ 0 → judge_rows g ((walk ++ (leg_of r ∷ [])) ∷ done) [] (suc k) rest ≡ passed
    → judge_rows g done walk k (r ∷ rest) ≡ passed
unfolding judge_rows
row_last {g} {done} {walk} {r} k rest f t s h = passed_then _ _ ((row_fits g done walk r).1 f) ∙ rw (T_true (is_last r rest) t) (passed_then _ _ s ∙ h)

row_next : {g : Graph} {done : List (List Leg)} {walk : List Leg} {r : Row} (k : ℕ) (rest : List Row) → RowFits g done walk r → is_last r rest ≡ false
    → judge_rows g done (walk ++ (leg_of r ∷ [])) (suc k) rest ≡ passed → judge_rows g done walk k (r ∷ rest) ≡ passed
unfolding judge_rows
row_next {g} {done} {walk} {r} k rest f t h = passed_then _ _ ((row_fits g done walk r).1 f) ∙ rw t h

comes_snoc : (g : Graph) (walk : List Leg) (l : Leg) (v : ℕ) → stop g (walk ++ (l ∷ [])) ≡ v → T (comes_to g (walk ++ (l ∷ [])) v)
unfolding comes_to
comes_snoc g [] l v p = eq-T p
comes_snoc g (k ∷ walk) l v p = eq-T p

edges-append : (k l : List Leg) → edges_of (k ++ l) ≡ edges_of k ++ edges_of l
edges-append [] l = refl
edges-append (m ∷ k) l = ap (λ (n : List ℕ). m.edge ∷ n) (edges-append k l)

-- a leg in the middle of a walk fits as a row
leg_fits : {g : Graph} {done : List (List Leg)} (pre post : List Leg) {e u v : ℕ} → Joins g e u v → T (comes_to g pre u)
    → Distinct (edges_of (pre ++ (leg e u ∷ post)) ++ all_edges done)
    → RowFits g done pre (record { step = length done; edge = e; from = u })
leg_fits {done = done} pre post {e} {u} j t d = record {
  step = refl;
  edge = j.edge;
  new = λ i. apart_distinct (edges_of pre) (left_distinct (edges_of pre ++ (e ∷ edges_of post)) (all_edges done) split) i (first refl);
  unused = λ i. apart_distinct (edges_of pre ++ (e ∷ edges_of post)) split (in_right (edges_of pre) (first refl)) i;
  end = joins_end j;
  comes = t;
}
  where
    split : Distinct ((edges_of pre ++ (e ∷ edges_of post)) ++ all_edges done)
    split = subst (λ (m : List ℕ). Distinct (m ++ all_edges done)) (edges-append pre (leg e u ∷ post)) d

-- while a walk goes on, so does its step
goes_on : {g : Graph} {u b : ℕ} {legs : List Leg} (s : ℕ) (rest : List Row) (r : Row) → Walk g u legs b → r.step ≡ s → is_last r (rows_at s legs ++ rest) ≡ false
unfolding is_last
goes_on s rest r (last e j) p = rw (eq-eqb r.step s p)
goes_on s rest r (then e j k) p = rw (eq-eqb r.step s p)

walk_passes : {g : Graph} (done : List (List Leg)) (pre : List Leg) {u b : ℕ} {post : List Leg} → Walk g u post b → T (comes_to g pre u)
    → Distinct (edges_of (pre ++ post) ++ all_edges done) → step_number g done (pre ++ post) ≡ 0
    → (rest : List Row) → ((r : Row) → r.step ≡ length done → T (is_last r rest))
    → ((k : ℕ) → judge_rows g ((pre ++ post) ∷ done) [] k rest ≡ passed) → (k : ℕ) → judge_rows g done pre k (rows_at (length done) post ++ rest) ≡ passed
walk_passes done pre (last e j) t d s rest o h k = row_last k rest (leg_fits pre [] j t d) (o _ refl) s (h (suc k))
walk_passes {g} done pre (then {u = u} {v = v} {legs = legs} e j w) t d s rest o h k =
    let same = append_assoc pre (leg e u ∷ []) legs in
    row_next k (rows_at (length done) legs ++ rest) (leg_fits pre legs j t d) (goes_on (length done) rest _ w refl)
    (walk_passes done (pre ++ (leg e u ∷ [])) w (comes_snoc g pre (leg e u) v (stop_snoc g pre (leg e u) ∙ far_is j))
    (rw same d) (rw same s) rest o (λ n. rw same (h n)) (suc k))

-- the first row of the next step has another number
ends_step : {g : Graph} {done walks : List (List Leg)} (s : ℕ) → Runs g done walks → (r : Row) → r.step ≡ s → T (is_last r (rows_from (suc s) walks))
unfolding is_last
ends_step s (end c) r p = tt
ends_step s (step (last e j) d n q) r p = not_T (eqb r.step (suc s)) (λ t. let z = eqb→eq r.step (suc s) t in omega arith)
ends_step s (step (then e j k) d n q) r p = not_T (eqb r.step (suc s)) (λ t. let z = eqb→eq r.step (suc s) t in omega arith)

runs_pass : {g : Graph} {done walks : List (List Leg)} → Runs g done walks → (k : ℕ) → judge_rows g done [] k (rows_from (length done) walks) ≡ passed
unfolding judge_rows comes_to
runs_pass (end c) k = ap (λ (n : ℕ). answer n 0) c
runs_pass {g} {done} (step {walks = walks} {legs = legs} w d s r) k =
    walk_passes done [] w tt d s (rows_from (suc (length done)) walks) (λ q p. ends_step (length done) r q p) (runs_pass r) k

-- both ways
pub rows_pass : (g : Graph) (rest : List Row) → (judge_rows g [] [] 0 rest ≡ passed) ↔ ((walks : List (List Leg)) × Runs g [] walks × (rest ≡ rows_from 0 walks))
rows_pass g rest = (
  λ h. let p = passing g [] [] 0 rest nothing (λ z. refl) no_member h in (p.walks, p.runs, p.rows),
  λ (walks, r, p). rw p (runs_pass r 0),
)
