-- What the marks of the build state mean, and what its parts answer.
use Rattle.std.specs.Prelude.{◌≡◌, ◌⊎◌, Bool, true, not, cond, ◌&&◌, ◌||◌, ℕ, suc, ◌+◌, ◌*◌, ◌/◌, ◌-◌, ◌≤◌, ◌<◌, eqb, ltb, leb, length, get_or, set, drop}
use mathlib.Core.List.{List, [], ◌∷◌, ◌++◌, Memᴰ as In}
use Rattle.connectivity.specs.Lists.{Distinct, mem}
use Rattle.graph.specs.Tells.{Tells}
use Rattle.connectivity.specs.Plan.{plan, entire, graph, Limits}
use Rattle.connectivity.specs.Graph.{Graph, Joins, is_edge}
use Rattle.connectivity.specs.Walk.{Leg, Walk, Between, edges_of, all_inner, all_edges, degree, far}
use Rattle.connectivity.specs.Mader.{Steps}
use Rattle.connectivity.specs.Admission.{Answer, answer, passed, Admitted, EndsFit}
use Rattle.connectivity.specs.Judge.{Row, rows_of, leg_of, row_number, step_number, is_last}
use Rattle.connectivity.proofs.Fresh.{Fresh}
use Rattle.connectivity.proofs.Stretch.{Within}
use Rattle.verify_firm.specs.declared.state.Run.{Run}
use Rattle.graph.specs.Admission.{told_by}
use Rattle.graph.specs.Excluded.{is_open}
use Rattle.graph.specs.Marks.{rank}
use Rattle.verify_firm.specs.declared.state.State.{State}
use Rattle.verify_firm.specs.declared.state.Taken.{Taken}

-- Row k of the list.
abbrev pub step_at : List ℕ → ℕ → ℕ
step_at list k = get_or list (3 * k) 0

abbrev pub edge_at : List ℕ → ℕ → ℕ
edge_at list k = get_or list (3 * k + 1) 0

abbrev pub from_at : List ℕ → ℕ → ℕ
from_at list k = get_or list (3 * k + 2) 0

abbrev pub row_at : List ℕ → ℕ → Row
row_at list k = record { step = step_at list k; edge = edge_at list k; from = from_at list k }

-- the rows from n on and below m are the legs of step s
pub data Lies (list : List ℕ) (s : ℕ) : ℕ → List Leg → ℕ → Type 0 where
  no_row : {n : ℕ} → Lies list s n [] n
  one : {n m : ℕ} {legs : List Leg} → step_at list n ≡ s → Lies list s (suc n) legs m → Lies list s n (leg_of (row_at list n) ∷ legs) m

-- the rows below n are the steps `done`, of which the latest comes first
pub data Laid (list : List ℕ) : List (List Leg) → ℕ → Type 0 where
  nothing : Laid list [] 0
  more : {n m : ℕ} {done : List (List Leg)} {legs : List Leg} → Laid list done n → n < m → Lies list (length done) n legs m
      → Laid list (legs ∷ done) m

-- row k + 1 goes on with the step of row k
abbrev pub GoesOn : List ℕ → ℕ → Type 0
GoesOn list k = step_at list k ≡ step_at list (suc k)

-- The link marks: 0, or one more than the row that leaves the vertex as an inner one.
pub record Left (list : List ℕ) (row v mark : ℕ) : Type 0 where
  pub before : ℕ
  pub taken : suc before < row
  pub on : GoesOn list before
  pub from : from_at list (suc before) ≡ v
  pub marked : mark ≡ suc (suc before)

pub record Lefts (list : List ℕ) (row : ℕ) (left : List ℕ) : Type 0 where
  pub mark : (k : ℕ) → suc k < row → GoesOn list k → get_or left (from_at list (suc k)) 0 ≡ suc (suc k)
  pub found : (v : ℕ) → (get_or left v 0 ≡ 0) ⊎ Left list row v (get_or left v 0)

-- The steps so far: the first three are paths between the ends of the latest, and three or more are Mader's.
pub record Stands (g : Graph) (done : List (List Leg)) (low high : ℕ) : Type 0 where
  pub between : 1 ≤ length done → length done ≤ 3 → (legs : List Leg) → In legs done → Between g low legs high
  pub simple : 1 ≤ length done → length done ≤ 3 → Distinct (low ∷ high ∷ all_inner done)
  pub steps : 3 ≤ length done → Steps g done

-- `done` are the whole steps and `walk` the rows below `row` of the one after them; the marks say what the check has to know of them.
pub record Holds (most : Limits) (g : Graph) (list : List ℕ) (done : List (List Leg)) (walk : List Leg) (row : ℕ) (marks left : List ℕ) (steps : ℕ) (run : Run)
    (low high : ℕ) : Type 0 where
  pub marks_length : length marks ≡ most.vertices
  pub left_length : length left ≡ most.vertices
  -- each vertex's edges in whole steps
  pub degrees : (v : ℕ) → v < most.vertices → get_or marks v 0 ≡ degree g (all_edges done) v
  pub few : (v : ℕ) → get_or marks v 0 ≤ run.first
  pub steps_done : steps ≡ length done
  pub laid : Laid list done run.first
  pub lies : Lies list (length done) run.first walk row
  pub once : Distinct (edges_of walk ++ all_edges done)
  pub walks : run.first < row → Walk g run.start walk run.at
  pub fresh : Tells run.fresh (Fresh g (all_edges done) walk)
  pub lefts : run.fresh ≡ true → Lefts list row left
  pub stands : Stands g done low high
  -- each row leaves an end of its edge
  pub rows : (k : ℕ) → k < row → Joins g (edge_at list k) (from_at list k) (far g (edge_at list k) (from_at list k))

-- an entry of the table of ends has a mark exactly if it is used or is no edge of the graph
abbrev pub Used : Graph → List ℕ → List (List Leg) → List Leg → Type 0
Used g used done walk = (e : ℕ) → e < g.size → is_open used e ≡ (is_edge g e && not (mem e (edges_of walk) || mem e (all_edges done)))

pub record Represents (most : Limits) (g : Graph) (list used : List ℕ) (done : List (List Leg)) (walk : List Leg) (row : ℕ) (state : State) : Type 0 where
  pub used_length : length used ≡ most.edges
  pub marked : Used g used done walk
  pub holds : Holds most g list done walk row state.degree state.left state.steps state.run state.low state.high

-- The parts of a row's test.

-- 0, or 10, 11 or 12
abbrev pub row_mark : List ℕ → List ℕ → ℕ → ℕ → Run → Row → ℕ
row_mark ends used steps row run r =
    cond (eqb r.step steps)
    (cond (ltb r.edge (length ends / 2) && is_open used r.edge)
    (cond ((eqb (get_or ends (2 * r.edge) 0) r.from || eqb (get_or ends (2 * r.edge + 1) 0) r.from) && (eqb run.first row || eqb run.at r.from)) 0 12) 11)
    10

-- the step goes on from v, which has `built` edges in whole steps and the link mark `mark`, and stays fresh
abbrev pub StaysFresh : Run → ℕ → ℕ → ℕ → Type 0
StaysFresh run v built mark = (run.fresh ≡ true) × (built ≡ 0) × (mark ≡ 0) × (v ≡ run.start → ⊥)

-- the step leaves v by row `row` and comes to `to`
pub data WentOn (left : List ℕ) (run : Run) (row v to built : ℕ) : List ℕ → Run → Type 0 where
  begun : run.first ≡ row → WentOn left run row v to built left (record { first = row; start = v; at = to; fresh = true })
  on : (run.first ≡ row → ⊥) → (fresh : Bool) → Tells fresh (StaysFresh run v built (get_or left v 0))
      → WentOn left run row v to built (set left v (row + 1)) (record { first = run.first; start = run.start; at = to; fresh = fresh })

-- The parts of a whole step's test.

-- 13: step 0, and steps 1 and 2
abbrev pub Opens : Run → ℕ → Type 0
Opens run mark = (run.fresh ≡ true) × (mark ≡ 0) × (run.at ≡ run.start → ⊥)

abbrev pub Parallels : Run → ℕ → ℕ → Type 0
Parallels run low high =
    (run.fresh ≡ true) × (((run.start ≡ low) × (run.at ≡ high)) ⊎ ((run.start ≡ high) × (run.at ≡ low)))

-- 14
abbrev pub FitsEar : List ℕ → Run → Type 0
FitsEar marks run =
    (run.fresh ≡ true) × (1 ≤ get_or marks run.start 0) × (1 ≤ get_or marks run.at 0) × (run.start ≡ run.at → 3 ≤ get_or marks run.start 0)

-- 15: rows i and j are of one step, and no branch stands there or between
pub record Joined (marks list : List ℕ) (i j : ℕ) : Type 0 where
  pub same : step_at list i ≡ step_at list j
  pub plain : (k : ℕ) → Within i j k → get_or marks (from_at list k) 0 < 3

-- the link marks of the ends are `from` and `to`
abbrev pub FitsLinks : List ℕ → List ℕ → Run → ℕ → ℕ → Type 0
FitsLinks marks list run from to =
    ((3 ≤ get_or marks run.start 0) ⊎ (3 ≤ get_or marks run.at 0)) ⊎ (Joined marks list (from - 1) (to - 1) → ⊥)

-- the rows below n can be read, and their vertices have marks
pub record RowsFit (most : Limits) (marks list : List ℕ) (n : ℕ) : Type 0 where
  pub rows : 3 * n ≤ length list
  pub from : (k : ℕ) → k < n → from_at list k < length marks
  pub within : n ≤ most.edges

-- what the test for links reads: where an end is no branch, its link mark tells a row
pub record Reads (most : Limits) (marks list : List ℕ) (run : Run) (from to : ℕ) : Type 0 where
  pub start : run.start < length marks
  pub at : run.at < length marks
  pub start-row : get_or marks run.start 0 < 3 → (1 ≤ from) × RowsFit most marks list from
  pub at_row : get_or marks run.at 0 < 3 → (1 ≤ to) × RowsFit most marks list to

-- a step that is whole, and what is said of it
pub record Whole (most : Limits) (marks list : List ℕ) (steps : ℕ) (run : Run) (low high from to : ℕ) : Type 0 where
  pub g : Graph
  pub bound : g.bound ≤ most.vertices
  pub done : List (List Leg)
  pub walk : List Leg
  pub row : ℕ
  pub left : List ℕ
  pub read : 3 * row ≤ length list
  pub within : row ≤ most.edges
  pub begun : run.first < row
  pub holds : Holds most g list done walk row marks left steps run low high
  pub start_mark : from ≡ get_or left run.start 0
  pub at_mark : to ≡ get_or left run.at 0

abbrev pub StepTold : Limits → List ℕ → List ℕ → ℕ → Run → ℕ → ℕ → ℕ → ℕ → ℕ → Type 0
StepTold most marks list steps run low high from to r =
    (w : Whole most marks list steps run low high from to) → r ≡ step_number w.g w.done w.walk

-- Edges that count as built: an edge adds one to the mark of each of its ends.

pub record EdgeReady (most : Limits) (marks ends : List ℕ) (e : ℕ) : Type 0 where
  pub long : length marks ≡ most.vertices
  pub edge : e < length ends / 2
  pub left : get_or ends (2 * e) 0 < length marks
  pub right : get_or ends (2 * e + 1) 0 < length marks
  pub different : get_or ends (2 * e) 0 ≡ get_or ends (2 * e + 1) 0 → ⊥
  pub few : (v : ℕ) → get_or marks v 0 ≤ most.edges

pub record EdgeAdded (marks after ends : List ℕ) (e : ℕ) : Type 0 where
  pub length-same : length after ≡ length marks
  pub more : (v : ℕ) → get_or after v 0 ≡ cond (eqb (get_or ends (2 * e) 0) v || eqb (get_or ends (2 * e + 1) 0) v) 1 0 + get_or marks v 0

pub record RowsReady (most : Limits) (marks ends list : List ℕ) (first end : ℕ) : Type 0 where
  pub long : length marks ≡ most.vertices
  pub order : first ≤ end
  pub read : 3 * end ≤ length list
  pub within : end ≤ most.edges
  pub edges : (k : ℕ) → k < end → edge_at list k < length ends / 2
  pub fit : (e : ℕ) → e < length ends / 2 → EndsFit (entire (length marks) ends) e
  pub few : (v : ℕ) → get_or marks v 0 ≤ first

pub record RowsAdded (marks after ends list : List ℕ) (first end : ℕ) : Type 0 where
  pub length-same : length after ≡ length marks
  pub few : (v : ℕ) → get_or after v 0 ≤ end
  pub more : (n : ℕ) (excluded : List ℕ) (s : ℕ) (legs : List Leg) → Lies list s first legs end
      → (v : ℕ) → get_or after v 0 ≡ degree (graph (plan n ends excluded)) (edges_of legs) v + get_or marks v 0

-- One row.

abbrev pub Begins : Limits → State → Type 0
Begins most r = (g : Graph) (list used : List ℕ) → length used ≡ most.edges → ((e : ℕ) → e < g.size → is_open used e ≡ is_edge g e)
    → Represents most g list used [] [] 0 r

pub record Ready (most : Limits) (ends used list : List ℕ) (row : ℕ) (state : State) : Type 0 where
  pub n : ℕ
  pub excluded : List ℕ
  pub admitted : Admitted most (plan n ends excluded)
  pub read : 3 * row + 2 < length list
  pub below : row < most.edges
  pub done : List (List Leg)
  pub walk : List Leg
  pub represents : Represents most (graph (plan n ends excluded)) list used done walk row state

-- what is said of a row: its own rejection, and where it is the last of its step, the step's
abbrev pub taken_number : Graph → List (List Leg) → List Leg → Bool → Row → ℕ
taken_number g done walk last r =
    let own = row_number g done walk r in
    cond (eqb own 0) (cond last (step_number g done (walk ++ (leg_of r ∷ []))) 0) own

-- the steps and the rows after it
abbrev pub done_then : List (List Leg) → List Leg → Bool → Row → List (List Leg)
done_then done walk last r = cond last ((walk ++ (leg_of r ∷ [])) ∷ done) done

abbrev pub walk_then : List Leg → Bool → Row → List Leg
walk_then walk last r = cond last [] (walk ++ (leg_of r ∷ []))

-- the answer to a row: its number at its place, or success
abbrev pub row_answer : ℕ → ℕ → Answer
row_answer number row = cond (eqb number 0) passed (answer number row)

-- the answer to the row and the state after it, which is of use where the row has passed
pub record SteppedAt (most : Limits) (g : Graph) (list after : List ℕ) (done : List (List Leg)) (walk : List Leg) (row : ℕ) (last : Bool) (t : Taken) : Type 0 where
  pub answered : t.answer ≡ told_by (row_answer (taken_number g done walk last (row_at list row)) row)
  pub next : t.answer.number ≡ 0
      → Represents most g list after (done_then done walk last (row_at list row)) (walk_then walk last (row_at list row)) (suc row) t.state

abbrev pub Stepped : Limits → List ℕ → List ℕ → List ℕ → List ℕ → ℕ → Bool → State → Taken → Type 0
Stepped most ends used after list row last state t =
    (r : Ready most ends used list row state) → SteppedAt most (graph (plan r.n ends r.excluded)) list after r.done r.walk row last t

-- 16: a vertex is marked as a branch
abbrev pub is_forked : List ℕ → ℕ → Bool
is_forked marks v = leb 3 (get_or marks v 0)

-- of the numbers below n as many are as vertices are kept
abbrev pub Closed : List ℕ → ℕ → ℕ → ℕ → Type 0
Closed marks n kept steps = (3 ≤ steps) × (rank (is_forked marks) n ≡ kept)

-- the row is the last of its step
abbrev pub last_at : List ℕ → ℕ → Bool
last_at list row = is_last (row_at list row) (rows_of (drop (3 * (row + 1)) list))
