-- Which plans are admitted, and the number and place by which any other is refused.
use Rattle.std.specs.Prelude.{◌≡◌, cond, ◌&&◌, ◌||◌, ℕ, suc, ◌+◌, ◌*◌, ◌/◌, ◌%◌, ◌≤◌, ◌<◌, eqb, ltb, leb, length, get_or}
use mathlib.Core.List.{List, [], ◌∷◌, Memᴰ as In}
use Rattle.connectivity.specs.Lists.{Ordered}
use Rattle.connectivity.specs.Graph.{vertices, edges}
use Rattle.connectivity.specs.Plan.{Plan, graph, Limits}

-- 01: an answer is a number and a place; 0 and 0 is success
pub record Answer : Type 0 where
  pub number : ℕ
  pub place : ℕ

-- the answer with this number at this place
abbrev pub answer : ℕ → ℕ → Answer
answer n p = record { number = n; place = p }

-- 01: success; a verdict passes when the check answers it
abbrev pub passed : Answer
passed = answer 0 0

-- 01: what is handed back: number and place, and the values of a success
pub record Handed : Type 0 where
  pub reply : Answer
  pub values : List ℕ

-- a success with its values
abbrev pub served : List ℕ → Handed
served values = record { reply = passed; values = values }

-- a refusal, which has none
abbrev pub refusal : Answer → Handed
refusal a = record { reply = a; values = [] }

-- the first answer, or if it is success the second
unfoldable pub and_then : Answer → Answer → Answer
and_then first second = cond (eqb first.number 0) second first

-- both ends of an edge are below the number of vertices, and they differ
pub record EndsFit (p : Plan) (e : ℕ) : Type 0 where
  pub left : get_or p.ends (2 * e) 0 < p.vertices
  pub right : get_or p.ends (2 * e + 1) 0 < p.vertices
  pub different : get_or p.ends (2 * e) 0 ≡ get_or p.ends (2 * e + 1) 0 → ⊥

-- 02: how many pieces are kept, and how many tabs
abbrev pub kept_vertices : Plan → ℕ
kept_vertices p = length (vertices (graph p))

abbrev pub kept_edges : Plan → ℕ
kept_edges p = length (edges (graph p))

-- 01: admitted: none of the plan's own refusals, 1 to 5, 18 and 19 (02), applies
pub record Admitted (most : Limits) (p : Plan) : Type 0 where
  pub even : length p.ends % 2 ≡ 0
  pub two : 2 ≤ p.vertices
  pub vertices : p.vertices ≤ most.vertices
  pub edges : length p.ends / 2 ≤ most.edges
  pub fit : (e : ℕ) → e < length p.ends / 2 → EndsFit p e
  pub inside : (v : ℕ) → In v p.excluded → v < p.vertices
  pub ascending : Ordered ◌<◌ p.excluded
  pub remain : 2 ≤ kept_vertices p

-- 01: 4 where an end is not below the number of vertices, 5 where both ends are the same, 4 before 5; else 0
unfoldable pub edge_number : ℕ → ℕ → ℕ → ℕ
edge_number n a b = cond (ltb a n && ltb b n) (cond (eqb a b) 5 0) 4

-- 01: the first edge with 4 or 5, from number e on
unfoldable pub ends_answer : ℕ → ℕ → List ℕ → Answer
ends_answer n e [] = passed
ends_answer n e (a ∷ []) = passed
ends_answer n e (a ∷ (b ∷ ends)) = and_then (answer (edge_number n a b) e) (ends_answer n (suc e) ends)

-- 02: 18, the first slug, from position k on, that is not below the number of vertices or not above the one before, which `low` is one
-- more than
unfoldable pub excluded_answer : ℕ → ℕ → ℕ → List ℕ → Answer
excluded_answer n k low [] = passed
excluded_answer n k low (v ∷ rest) = cond (leb low v && ltb v n) (excluded_answer n (suc k) (suc v) rest) (answer 18 k)

-- 02: 19, fewer than two kept pieces
unfoldable pub kept_answer : Plan → Answer
kept_answer p = cond (ltb (kept_vertices p) 2) (answer 19 0) passed

-- 01: the plan's own refusals: 1, 2, 3, then the first edge with 4 or 5; 02: then 18, then 19
unfoldable pub admission : Limits → Plan → Answer
admission most p =
    let kept = and_then (excluded_answer p.vertices 0 0 p.excluded) (kept_answer p) in
    cond (eqb (length p.ends % 2) 0)
    (cond (ltb p.vertices 2 || ltb most.vertices p.vertices) (answer 2 0)
    (cond (ltb most.edges (length p.ends / 2)) (answer 3 0) (and_then (ends_answer p.vertices 0 p.ends) kept)))
    (answer 1 0)
