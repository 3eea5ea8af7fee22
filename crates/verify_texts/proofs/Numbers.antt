-- The check's own answers are 0 to 5 and 9 to 19: 6, 7 and 8 are the lent space's and the texts'. A plan's own refusals are 1 to 5, 18 and 19.
use mathlib.Core.Logic.{◌⊎◌, inl, inr, ⊎_elim}
use mathlib.Core.Bool.{◌&&◌, ◌||◌}
use mathlib.Core.List.{List, [], ◌∷◌, ◌++◌}
use Prim.Native.Nat.{ℕ, suc, ◌*◌, ◌/◌, ◌%◌, ◌≤◌}
use native.Mathlib.Omega.{arith}
use lib.Dec.{eqb, ltb, leb}
use lib.ListN.{length}
use Rattle.connectivity.specs.Lists.{all}
use Rattle.connectivity.specs.Plan.{Plan, graph, Limits}
use Rattle.connectivity.specs.Graph.{Graph, is_edge, vertices, edges}
use Rattle.connectivity.specs.Cut.{disconnects}
use Rattle.connectivity.specs.Walk.{Leg, all_edges, is_branch}
use Rattle.connectivity.specs.Admission.{Answer, and_then, kept_vertices, edge_number, ends_answer, excluded_answer, kept_answer, admission}
use Rattle.connectivity.specs.Judge.{Row, rows_of, leg_of, step_fits, edge_fits, from_fits, row_number, paths_fit, ear_fits, links_fit, step_number, closing_number, is_last, judge_rows, ascending, judge_firm, judge_weak, judge_graph, judge}
use Rattle.connectivity.proofs.Admission.{cond_both}
use Rattle.text.specs.Plan.{listed_answer}

abbrev pub Own : ℕ → Type 0
Own k = (k ≤ 5) ⊎ ((9 ≤ k) × (k ≤ 19))

abbrev pub Owned : Answer → Type 0
Owned a = Own a.number

-- of the plan alone
abbrev pub PlanOwn : ℕ → Type 0
PlanOwn k = (k ≤ 5) ⊎ ((18 ≤ k) × (k ≤ 19))

abbrev PlanOwned : Answer → Type 0
PlanOwned a = PlanOwn a.number

plan_own : (k : ℕ) → PlanOwn k → Own k
plan_own k o = ⊎_elim (λ h. inl h) (λ h. inr (omega (arith, h.0), h.1)) o

then_both : (P : Answer → Type 0) (x y : Answer) → P x → P y → P (and_then x y)
unfolding and_then
then_both P x y p q = cond_both P (eqb x.number 0) q p

then_own : (x y : Answer) → Owned x → Owned y → Owned (and_then x y)
then_own = then_both Owned

-- an edge's, 4 and 5
edge_five : (n a b : ℕ) → edge_number n a b ≤ 5
unfolding edge_number
edge_five n a b = cond_both (λ k. k ≤ 5) (ltb a n && ltb b n) (cond_both (λ k. k ≤ 5) (eqb a b) (omega arith) (omega arith)) (omega arith)

ends_five : (n e : ℕ) (ends : List ℕ) → (ends_answer n e ends).number ≤ 5
unfolding ends_answer and_then
ends_five n e [] = omega arith
ends_five n e (a ∷ []) = omega arith
ends_five n e (a ∷ (b ∷ ends)) = cond_both (λ (x : Answer). x.number ≤ 5) (eqb (edge_number n a b) 0) (ends_five n (suc e) ends) (edge_five n a b)

-- those of the excluded vertices, 18 and 19
excluded_own : (n k low : ℕ) (list : List ℕ) → PlanOwned (excluded_answer n k low list)
unfolding excluded_answer
excluded_own n k low [] = inl (omega arith)
excluded_own n k low (v ∷ rest) = cond_both PlanOwned (leb low v && ltb v n) (excluded_own n (suc k) (suc v) rest) (inr (omega arith, omega arith))

kept_own : (p : Plan) → PlanOwned (kept_answer p)
unfolding kept_answer
kept_own p = cond_both PlanOwned (ltb (kept_vertices p) 2) (inr (omega arith, omega arith)) (inl (omega arith))

pub listed_own : (p : Plan) → PlanOwn (listed_answer p).number
unfolding listed_answer
listed_own p = then_both PlanOwned _ _ (inl (ends_five p.vertices 0 p.ends)) (then_both PlanOwned _ _ (excluded_own p.vertices 0 0 p.excluded) (kept_own p))

admission_own : (most : Limits) (p : Plan) → PlanOwned (admission most p)
unfolding admission listed_answer
admission_own most p = cond_both PlanOwned (eqb (length p.ends % 2) 0)
    (cond_both PlanOwned (ltb p.vertices 2 || ltb most.vertices p.vertices) (inl (omega arith))
    (cond_both PlanOwned (ltb most.edges (length p.ends / 2)) (inl (omega arith)) (listed_own p)))
    (inl (omega arith))

row_own : (g : Graph) (done : List (List Leg)) (walk : List Leg) (r : Row) → Own (row_number g done walk r)
unfolding row_number
row_own g done walk r = cond_both Own (step_fits done r)
    (cond_both Own (edge_fits g done walk r) (cond_both Own (from_fits g walk r) (inl (omega arith)) (inr (omega arith, omega arith))) (inr (omega arith, omega arith)))
    (inr (omega arith, omega arith))

step_own : (g : Graph) (done : List (List Leg)) (walk : List Leg) → Own (step_number g done walk)
unfolding step_number
step_own g done walk = cond_both Own (ltb (length done) 3)
    (cond_both Own (paths_fit g done walk) (inl (omega arith)) (inr (omega arith, omega arith)))
    (cond_both Own (ear_fits g (all_edges done) walk) (cond_both Own (links_fit g (all_edges done) walk) (inl (omega arith)) (inr (omega arith, omega arith))) (inr (omega arith, omega arith)))

closing_own : (g : Graph) (done : List (List Leg)) → Own (closing_number g done)
unfolding closing_number
closing_own g done = cond_both Own (leb 3 (length done) && all (is_branch g (all_edges done)) (vertices g)) (inl (omega arith)) (inr (omega arith, omega arith))

rows_own : (g : Graph) (done : List (List Leg)) (walk : List Leg) (k : ℕ) (rows : List Row) → Owned (judge_rows g done walk k rows)
unfolding judge_rows
rows_own g done walk k [] = closing_own g done
rows_own g done walk k (r ∷ rest) =
    let longer = walk ++ (leg_of r ∷ []) in
    then_own _ _ (row_own g done walk r)
    (cond_both Owned (is_last r rest) (then_own _ _ (step_own g done longer) (rows_own g (longer ∷ done) [] (suc k) rest)) (rows_own g done longer (suc k) rest))

ascending_own : (g : Graph) (k low : ℕ) (list : List ℕ) → Owned (ascending g k low list)
unfolding ascending
ascending_own g k low [] = inl (omega arith)
ascending_own g k low (e ∷ list) = cond_both Owned (is_edge g e && leb low e) (ascending_own g (suc k) (suc e) list) (inr (omega arith, omega arith))

firm_own : (g : Graph) (list : List ℕ) → Owned (judge_firm g list)
unfolding judge_firm
firm_own g list = cond_both Owned (eqb (length list) (3 * length (edges g))) (rows_own g [] [] 0 (rows_of list)) (inr (omega arith, omega arith))

weak_own : (g : Graph) (list : List ℕ) → Owned (judge_weak g list)
unfolding judge_weak
weak_own g list = cond_both Owned (leb (length list) 2)
    (then_own _ _ (ascending_own g 0 0 list) (cond_both Owned (disconnects g list) (inl (omega arith)) (inr (omega arith, omega arith))))
    (inr (omega arith, omega arith))

graph_own : (g : Graph) (kind : ℕ) (list : List ℕ) → Owned (judge_graph g kind list)
unfolding judge_graph
graph_own g kind list = cond_both Owned (eqb kind 0) (firm_own g list) (cond_both Owned (eqb kind 1) (weak_own g list) (inr (omega arith, omega arith)))

pub judge_own : (most : Limits) (p : Plan) (kind : ℕ) (list : List ℕ) → Own (judge most p kind list).number
unfolding judge
judge_own most p kind list = then_own _ _ (plan_own (admission most p).number (admission_own most p)) (graph_own (graph p) kind list)
