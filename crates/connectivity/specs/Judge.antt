-- The check's answer, for every plan, kind and list.
use Rattle.std.specs.Prelude.{Bool, true, not, cond, ◌&&◌, ◌||◌, List, [], ◌∷◌, ◌++◌, ℕ, suc, ◌*◌, eqb, ltb, leb, length}
use Rattle.connectivity.specs.Lists.{all, mem, distinct}
use Rattle.connectivity.specs.Graph.{Graph, is_edge, vertices, edges}
use Rattle.connectivity.specs.Plan.{Plan, graph, Limits}
use Rattle.connectivity.specs.Cut.{disconnects}
use Rattle.connectivity.specs.Walk.{Leg, inner, edges_of, all_inner, all_edges, is_built, is_branch, start, stop}
use Rattle.connectivity.specs.Link.{same_link}
use Rattle.connectivity.specs.Admission.{Answer, answer, passed, and_then, admission}

-- 01: a row: step, tab, piece
pub record Row : Type 0 where
  pub step : ℕ
  pub edge : ℕ
  pub from : ℕ

-- the rows of a list, three numbers each
unfoldable pub rows_of : List ℕ → List Row
rows_of [] = []
rows_of (s ∷ []) = []
rows_of (s ∷ (e ∷ [])) = []
rows_of (s ∷ (e ∷ (v ∷ list))) = record { step = s; edge = e; from = v } ∷ rows_of list

-- a row without its step
abbrev pub leg_of : Row → Leg
leg_of r = record { edge = r.edge; from = r.from }

-- In what follows `done` are the steps that are whole, the latest first, and `walk` the rows of the step after them so far.

-- 10: steps count 0, 1, 2 and so on. The first is 0; where `walk` goes on, the last one was `length done`, and where it begins, that
-- is one more than the last one.
unfoldable pub step_fits : List (List Leg) → Row → Bool
step_fits done r = eqb r.step (length done)

-- 11: an edge, and not used before
unfoldable pub edge_fits : Graph → List (List Leg) → List Leg → Row → Bool
edge_fits g done walk r = is_edge g r.edge && (not (mem r.edge (edges_of walk)) && not (mem r.edge (all_edges done)))

-- v is where the walk of this step has come to
unfoldable pub comes_to : Graph → List Leg → ℕ → Bool
comes_to g [] v = true
comes_to g (l ∷ legs) v = eqb (stop g (l ∷ legs)) v

-- 12: an end of the edge, and where the walk of this step has come to
unfoldable pub from_fits : Graph → List Leg → Row → Bool
from_fits g walk r =
    (eqb (g.left r.edge) r.from || eqb (g.right r.edge) r.from) && comes_to g walk r.from

-- 0, or the row's own rejection
unfoldable pub row_number : Graph → List (List Leg) → List Leg → Row → ℕ
row_number g done walk r =
    cond (step_fits done r) (cond (edge_fits g done walk r) (cond (from_fits g walk r) 0 12) 11) 10

-- a walk leads from a to b or from b to a
unfoldable pub leads_between : Graph → ℕ → ℕ → List Leg → Bool
leads_between g a b legs =
    (eqb (start legs) a && eqb (stop g legs) b) || (eqb (start legs) b && eqb (stop g legs) a)

-- all of some walks do
unfoldable pub all_between : Graph → ℕ → ℕ → List (List Leg) → Bool
all_between g a b [] = true
all_between g a b (legs ∷ walks) = leads_between g a b legs && all_between g a b walks

-- 13: of steps 0, 1 and 2, those so far are paths between the same two different vertices, in either direction, and no inner vertex is
-- one of these two, occurs twice or stands in two of the paths
unfoldable pub paths_fit : Graph → List (List Leg) → List Leg → Bool
paths_fit g done walk =
    all_between g (start walk) (stop g walk) done
    && distinct (start walk ∷ (stop g walk ∷ all_inner (walk ∷ done)))

-- 14: a later step is an ear (document 003): it begins and ends on built vertices, its inner vertices are new and all different, and it is closed only at a branch
unfoldable pub ear_fits : Graph → List ℕ → List Leg → Bool
ear_fits g built walk =
    (is_built g built (start walk) && is_built g built (stop g walk))
    && (all (λ v. not (is_built g built v)) (inner walk) && distinct (inner walk))
    && (not (eqb (start walk) (stop g walk)) || is_branch g built (start walk))

-- 15: the link rule: if neither end is a branch, they lie inside different links
unfoldable pub links_fit : Graph → List ℕ → List Leg → Bool
links_fit g built walk =
    is_branch g built (start walk) || is_branch g built (stop g walk) || not (same_link g built (start walk) (stop g walk))

-- 0, or the rejection of a whole step
unfoldable pub step_number : Graph → List (List Leg) → List Leg → ℕ
step_number g done walk =
    cond (ltb (length done) 3) (cond (paths_fit g done walk) 0 13)
    (cond (ear_fits g (all_edges done) walk) (cond (links_fit g (all_edges done) walk) 0 15) 14)

-- 16: the closing rule: three steps or more, and every vertex is built and has three or more edges
unfoldable pub closing_number : Graph → List (List Leg) → ℕ
closing_number g done = cond (leb 3 (length done) && all (is_branch g (all_edges done)) (vertices g)) 0 16

-- 01: a row is the last of its step if no row follows or the next has another step number
unfoldable pub is_last : Row → List Row → Bool
is_last r [] = true
is_last r (next ∷ rest) = not (eqb r.step next.step)

-- the rows in turn, from the place k on; a rejection's place is the row, that of 16 is 0
unfoldable pub judge_rows : Graph → List (List Leg) → List Leg → ℕ → List Row → Answer
judge_rows g done walk k [] = answer (closing_number g done) 0
judge_rows g done walk k (r ∷ rest) =
    let longer = walk ++ (leg_of r ∷ []) in
    let whole = and_then (answer (step_number g done longer) k) (judge_rows g (longer ∷ done) [] (suc k) rest) in
    let next = cond (is_last r rest) whole (judge_rows g done longer (suc k) rest) in
    and_then (answer (row_number g done walk r) k) next

-- 11 in a weak list, from the position k on: an edge, and above the one before, which `low` is one more than
unfoldable pub ascending : Graph → ℕ → ℕ → List ℕ → Answer
ascending g k low [] = passed
ascending g k low (e ∷ list) = cond (is_edge g e && leb low e) (ascending g (suc k) (suc e) list) (answer 11 k)

-- 01: firm: three numbers for each edge, else 9; then the rows
unfoldable pub judge_firm : Graph → List ℕ → Answer
judge_firm g list =
    let found = judge_rows g [] [] 0 (rows_of list) in
    cond (eqb (length list) (3 * length (edges g))) found (answer 9 0)

-- 01: weak: two edges at most, else 9; then 11 in turn, then 17
unfoldable pub judge_weak : Graph → List ℕ → Answer
judge_weak g list =
    let found = and_then (ascending g 0 0 list) (cond (disconnects g list) passed (answer 17 0)) in
    cond (leb (length list) 2) found (answer 9 0)

-- 01: kind 0 is firm, 1 is weak, any other is 9
unfoldable pub judge_graph : Graph → ℕ → List ℕ → Answer
judge_graph g kind list =
    let firm = judge_firm g list in
    let weak = judge_weak g list in
    cond (eqb kind 0) firm (cond (eqb kind 1) weak (answer 9 0))

-- 01: the check's answer: the plan's own refusals, then the verdict's
unfoldable pub judge : Limits → Plan → ℕ → List ℕ → Answer
judge most p kind list =
    let found = judge_graph (graph p) kind list in
    and_then (admission most p) found
