-- What a depth-first search over tables of edges by vertex finds, whatever the tables hold.
use Rattle.std.specs.Prelude.{◌≡◌, Bool, cond, ◌&&◌, ◌||◌, ◌⊎◌, ℕ, ◌+◌, ◌-◌, ◌/◌, ◌%◌, ◌≤◌, ◌<◌, eqb, ltb, leb, length, get_or, Result, Err, Ok}
use mathlib.Core.List.{List, [], ◌∷◌, Memᴰ as In}
use Rattle.connectivity.specs.Plan.{Plan, graph, Limits}
use Rattle.connectivity.specs.Graph.{Edge, Joins}
use Rattle.connectivity.specs.Admission.{Answer, answer, passed, and_then, Handed, served, refusal}
use Rattle.graph.specs.Admission.{answer_of}
use Rattle.graph.specs.Marks.{read, Live, Marked, tally}
use Rattle.graph.specs.declared.Answer as code

-- Marks.

-- the mark of a root, which no edge has; that of any other vertex is one more than the edge by which it was entered
abbrev pub root_mark : ℕ
root_mark = 65535

-- The tables.

-- 02: where the group of v ends: where the next begins, and for the last vertex at the end of a table of `size` numbers
unfoldable pub group_end : ℕ → ℕ → List ℕ → ℕ → ℕ
group_end n size begins v = cond (ltb (v + 1) n) (get_or begins (v + 1) 0) size

-- a place of the group of v, in a table of `size` numbers
pub record InGroup (n size : ℕ) (begins : List ℕ) (v place : ℕ) : Type 0 where
  pub from : get_or begins v 0 ≤ place
  pub to : place < group_end n size begins v
  pub inside : place < size

-- the tables list e in the group of u, and it is a live edge that joins u to v: an end that is no vertex is never come to, since an edge
-- joins vertices
pub record Crossing (p : Plan) (incident begins dead : List ℕ) (e u v : ℕ) : Type 0 where
  pub place : ℕ
  pub group : InGroup p.vertices (length p.ends) begins u place
  pub listed : get_or incident place 0 ≡ e
  pub live : Live dead e
  pub joins : Joins (graph p) e u v

-- What is entered.

-- a step of the search: v had no mark before
pub record Step (cross : ℕ → ℕ → ℕ → Type 0) (mark₀ : ℕ → ℕ) (e u v : ℕ) : Type 0 where
  pub crossing : cross e u v
  pub fresh : mark₀ v ≡ 0

-- a way by steps, each over an edge from a vertex to a vertex
pub data Along (step : ℕ → ℕ → ℕ → Type 0) : ℕ → ℕ → Type 0 where
  stay : {u : ℕ} → Along step u u
  leave : {u v w : ℕ} (e : ℕ) → step e u v → Along step v w → Along step u w

-- v has been entered: it is a vertex that had no mark and has one
pub record Entered (n : ℕ) (mark₀ mark : ℕ → ℕ) (v : ℕ) : Type 0 where
  pub below : v < n
  pub fresh : mark₀ v ≡ 0
  pub marked : Marked mark v

-- the same by two tables of marks
abbrev pub EnteredBy : ℕ → List ℕ → List ℕ → ℕ → Type 0
EnteredBy n first₀ first = Entered n (read first₀) (read first)

-- The tree: `mark v` is the mark of v, and `at k` the vertex at place k of the order.

-- v has been entered, by its first edge from u
pub record Up (cross : ℕ → ℕ → ℕ → Type 0) (n : ℕ) (mark₀ mark : ℕ → ℕ) (u v : ℕ) : Type 0 where
  pub entered : Entered n mark₀ mark v
  pub by : cross (mark v - 1) u v

-- u is v, or above v by first edges
pub data Above (up : ℕ → ℕ → Type 0) : ℕ → ℕ → Type 0 where
  same : {v : ℕ} → Above up v v
  over : {u w v : ℕ} → up w v → Above up u w → Above up u v

-- a way up from x, on which each vertex that is left is closed
pub data Climb (up : ℕ → ℕ → Type 0) (closed : ℕ → Type 0) (x : ℕ) : ℕ → Type 0 where
  here : Climb up closed x x
  rise : {v w : ℕ} → Climb up closed x v → closed v → up w v → Climb up closed x w

-- v stands in the order before place k, and not among the first `seen`
pub record Stands (at : ℕ → ℕ) (seen k v : ℕ) : Type 0 where
  pub place : ℕ
  pub low : seen ≤ place
  pub high : place < k
  pub there : at place ≡ v

-- whatever v leads to had a mark before the search, or stands before place k
abbrev pub Closed : (ℕ → ℕ → ℕ → Type 0) → (ℕ → ℕ) → (ℕ → ℕ) → ℕ → ℕ → ℕ → Type 0
Closed cross mark₀ at seen k v = (e w : ℕ) → cross e v w → Marked mark₀ w ⊎ Stands at seen k w

-- the vertex at place k was entered from one that stands before it, on the way up from the vertex just before it: those that are left on
-- this way lead to nothing new
pub record Hangs (cross : ℕ → ℕ → ℕ → Type 0) (n seen : ℕ) (mark₀ mark at : ℕ → ℕ) (k : ℕ) : Type 0 where
  pub from : ℕ
  pub stands : Stands at seen k from
  pub up : Up cross n mark₀ mark from (at k)
  pub climb : Climb (Up cross n mark₀ mark) (Closed cross mark₀ at seen k) (at (k - 1)) from

-- the marks and the order after a search
pub record Tree (cross : ℕ → ℕ → ℕ → Type 0) (n root seen : ℕ) (mark₀ mark at : ℕ → ℕ) (count : ℕ) : Type 0 where
  -- the places of the order from `seen` up to `count` have the entered vertices, each once; the root is first
  pub valid : (k : ℕ) → seen ≤ k → k < count → Entered n mark₀ mark (at k)
  pub listed : (v : ℕ) → Entered n mark₀ mark v → Stands at seen count v
  pub once : (j k : ℕ) → seen ≤ j → j < k → k < count → at j ≡ at k → ⊥
  pub some : seen < count
  pub top : at seen ≡ root
  pub top_mark : mark root ≡ root_mark
  -- every other was entered depth first
  pub hangs : (k : ℕ) → seen < k → k < count → Hangs cross n seen mark₀ mark at k

-- The search.

-- the root can be entered: it is a vertex that has no mark, and there is room for it
pub record Fresh (n root seen : ℕ) (first : List ℕ) : Type 0 where
  pub room : seen < n
  pub below : root < n
  pub fresh : get_or first root 0 ≡ 0

-- what a search leaves behind
pub record Found (cross : ℕ → ℕ → ℕ → Type 0) (n root seen : ℕ) (first₀ order₀ cursor₀ first order cursor : List ℕ) (count : ℕ) : Type 0 where
  pub tree : Tree cross n root seen (read first₀) (read first) (read order) count
  -- entered is what the root leads to over vertices that had no mark; all of it, if the order is not full
  pub sound : (v : ℕ) → EnteredBy n first₀ first v → Along (Step cross (read first₀)) root v
  pub room : count ≤ n
  pub whole : count < n → (v : ℕ) → Along (Step cross (read first₀)) root v → EnteredBy n first₀ first v
  -- so many marks are new; every other mark stays, and the rest of the order
  pub counted : count + tally (read first₀) n ≡ seen + tally (read first) n
  pub kept : (v : ℕ) → (EnteredBy n first₀ first v → ⊥) → get_or first v 0 ≡ get_or first₀ v 0
  pub rest : (k : ℕ) → (k < seen) ⊎ (count ≤ k) → get_or order k 0 ≡ get_or order₀ k 0
  -- the cursors of the entered are 0, every other stays
  pub cleared : (v : ℕ) → EnteredBy n first₀ first v → get_or cursor v 0 ≡ 0
  pub cursor_kept : (v : ℕ) → (EnteredBy n first₀ first v → ⊥) → get_or cursor v 0 ≡ get_or cursor₀ v 0
  pub first_long : length first ≡ length first₀
  pub order_long : length order ≡ length order₀
  pub cursor_long : length cursor ≡ length cursor₀

-- 01: the refusals that the plan's counts decide, 1 to 3; 4 and 5 would cost a look at every edge
unfoldable pub counted : Limits → Plan → Answer
counted most p =
    cond (eqb (length p.ends % 2) 0)
    (cond (ltb p.vertices 2 || ltb most.vertices p.vertices) (answer 2 0)
    (cond (ltb most.edges (length p.ends / 2)) (answer 3 0) passed))
    (answer 1 0)

-- the lent tables, of these lengths, have two places or one for each edge, or one for each vertex
abbrev pub enough : Plan → ℕ → ℕ → ℕ → ℕ → ℕ → ℕ → Bool
enough p incident begins dead first order cursor =
    leb (length p.ends) incident
    && (leb p.vertices begins && (leb (length p.ends / 2) dead && (leb p.vertices first && (leb p.vertices order && leb p.vertices cursor))))

-- 01: 1 to 3, then 6 where the lent space is too short
unfoldable pub refused : Limits → Plan → Bool → Answer
refused most p room = and_then (counted most p) (cond room passed (answer 6 0))

-- what a search gives: how many vertices stand in the order, or why there was none
abbrev pub Explored : Type 0
Explored = Result ℕ code.Answer

-- 01's number, place and values for each case; the value of a search is how many vertices stand in the order
abbrev pub handed : Explored → Handed
handed (Err a) = refusal (answer_of a)
handed (Ok count) = served (count ∷ [])

-- the answer to a plan and these tables
abbrev pub told : Limits → Plan → List ℕ → List ℕ → List ℕ → List ℕ → List ℕ → List ℕ → Answer
told most p incident begins dead first order cursor =
    refused most p (enough p (length incident) (length begins) (length dead) (length first) (length order) (length cursor))

-- all three tables stay
abbrev pub Same : List ℕ → List ℕ → List ℕ → List ℕ → List ℕ → List ℕ → Type 0
Same first₀ order₀ cursor₀ first order cursor = (first ≡ first₀) × (order ≡ order₀) × (cursor ≡ cursor₀)

module _ (p : Plan) (incident begins dead : List ℕ) (root seen : ℕ) (first₀ order₀ cursor₀ first order cursor : List ℕ) where
  -- what a search that is not refused has done: nothing, where the root can't be entered
  abbrev pub Searched : ℕ → Type 0
  Searched count =
      (Fresh p.vertices root seen first₀ × Found (Crossing p incident begins dead) p.vertices root seen first₀ order₀ cursor₀ first order cursor count)
      ⊎ ((Fresh p.vertices root seen first₀ → ⊥) × (count ≡ seen) × Same first₀ order₀ cursor₀ first order cursor)

  -- the same by its value
  abbrev pub Served : List ℕ → Type 0
  Served [] = ⊥
  Served (count ∷ []) = Searched count
  Served (count ∷ (more ∷ values)) = ⊥

-- the whole answer of a search
pub record Answered (most : Limits) (p : Plan) (incident begins dead : List ℕ) (root seen : ℕ) (first₀ order₀ cursor₀ first order cursor : List ℕ) (r : Explored) : Type 0 where
  -- 01: 1 to 3, then 6 where the lent space is too short
  pub answer : (handed r).reply ≡ told most p incident begins dead first₀ order₀ cursor₀
  -- what is found
  pub found : told most p incident begins dead first₀ order₀ cursor₀ ≡ passed
      → Served p incident begins dead root seen first₀ order₀ cursor₀ first order cursor (handed r).values
  -- refused: all three tables stay
  pub unchanged : (told most p incident begins dead first₀ order₀ cursor₀ ≡ passed → ⊥) → Same first₀ order₀ cursor₀ first order cursor

-- `undo`: the marks of the vertices at the places from `from` up to `to` of the order have become 0, and every other stays
pub record Undone (order : List ℕ) (from to : ℕ) (before after : List ℕ) : Type 0 where
  pub long : length after ≡ length before
  pub gone : (k : ℕ) → from ≤ k → k < to → k < length order → get_or after (get_or order k 0) 0 ≡ 0
  pub kept : (v : ℕ) → ((k : ℕ) → from ≤ k → k < to → k < length order → get_or order k 0 ≡ v → ⊥) → get_or after v 0 ≡ get_or before v 0

-- no live edge ends at an excluded vertex
abbrev pub Masking : Plan → (ℕ → ℕ) → Type 0
Masking p dead = (e : ℕ) → e < length p.ends / 2 → dead e ≡ 0 → Edge (graph p) e

-- the marks of the edges are those of a cut: 0 exactly where an edge of the graph is not in it
pub record Cutting (p : Plan) (cut : List ℕ) (dead : ℕ → ℕ) : Type 0 where
  pub masking : Masking p dead
  pub gone : (e : ℕ) → Edge (graph p) e → In e cut → dead e ≡ 0 → ⊥
  pub kept : (e : ℕ) → Edge (graph p) e → (In e cut → ⊥) → dead e ≡ 0
