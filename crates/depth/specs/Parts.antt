-- What the parts of the search promise one another.
use Rattle.std.specs.Prelude.{◌≡◌, Bool, true, false, List, ℕ, ◌+◌, ◌-◌, ◌/◌, ◌≤◌, ◌<◌, length, get_or, set}
use Rattle.connectivity.specs.Plan.{Plan, graph, Limits}
use Rattle.connectivity.specs.Graph.{Joins}
use Rattle.graph.specs.Marks.{read, Marked, Live}
use Rattle.depth.specs.Depth.{InGroup}
use Rattle.depth.specs.declared.State.{State}

-- the least of four lengths
pub record Least (a b c d r : ℕ) : Type 0 where
  pub first : r ≤ a
  pub second : r ≤ b
  pub third : r ≤ c
  pub fourth : r ≤ d
  pub most : (k : ℕ) → k ≤ a → k ≤ b → k ≤ c → k ≤ d → k ≤ r

-- counts within the limits, and tables to read that are long enough
pub record Fit (most : Limits) (p : Plan) (incident begins dead : List ℕ) : Type 0 where
  pub few : p.vertices ≤ most.vertices
  pub small : length p.ends / 2 ≤ most.edges
  pub incident_room : length p.ends ≤ length incident
  pub begins_room : p.vertices ≤ length begins
  pub dead_room : length p.ends / 2 ≤ length dead

-- tables to write that are long enough
pub record Rooms (n : ℕ) (first order cursor : List ℕ) : Type 0 where
  pub first_room : n ≤ length first
  pub order_room : n ≤ length order
  pub cursor_room : n ≤ length cursor

-- `group_end`: where the group of v ends
pub record EndsAt (n size : ℕ) (begins : List ℕ) (v r : ℕ) : Type 0 where
  pub right : (k : ℕ) → get_or begins v 0 ≤ k → k < r → InGroup n size begins v k
  pub whole : (k : ℕ) → InGroup n size begins v k → k < r
  pub inside : r ≤ size

-- `lead`: r is the vertex to which e leads from v, or no vertex
pub record Leads (p : Plan) (dead : List ℕ) (v e r : ℕ) : Type 0 where
  pub right : r < p.vertices → Live dead e × Joins (graph p) e v r
  pub whole : (w : ℕ) → Live dead e → Joins (graph p) e v w → w ≡ r

-- e is live, and leads from v to w, which has no mark
pub record New (p : Plan) (dead first : List ℕ) (v e w : ℕ) : Type 0 where
  pub live : Live dead e
  pub joins : Joins (graph p) e v w
  pub fresh : get_or first w 0 ≡ 0

-- e leads from v to nothing new
abbrev pub Old : Plan → List ℕ → List ℕ → ℕ → ℕ → Type 0
Old p dead first v e = (w : ℕ) → Live dead e → Joins (graph p) e v w → Marked (read first) w

-- `leads_on`: whether e leads from v to a vertex that has no mark
pub record LeadsOn (p : Plan) (dead first : List ℕ) (v e : ℕ) (r : Bool) : Type 0 where
  pub yes : r ≡ true → (w : ℕ) × New p dead first v e w
  pub no : r ≡ false → Old p dead first v e

-- `seek`: what it asks for
pub record SeekStart (p : Plan) (incident dead first : List ℕ) (v to : ℕ) : Type 0 where
  pub vertex : v < p.vertices
  pub inside : to ≤ length incident
  pub dead_room : length p.ends / 2 ≤ length dead
  pub first_room : p.vertices ≤ length first

-- r is the first place whose edge leads on, or `to`
pub record Sought (p : Plan) (incident dead first : List ℕ) (v from to r : ℕ) : Type 0 where
  pub passed : (k : ℕ) → from ≤ k → k < r → Old p dead first v (get_or incident k 0)
  pub found : r < to → (from ≤ r) × ((w : ℕ) × New p dead first v (get_or incident r 0) w)
  pub inside : to ≤ r → r ≡ to

-- `descend`: what it asks for: room, and an edge at place k that leads on
pub record DescendStart (most : Limits) (p : Plan) (incident dead : List ℕ) (s : State) (start k : ℕ) (first order cursor : List ℕ) : Type 0 where
  pub rooms : Rooms p.vertices first order cursor
  pub vertex : s.at < p.vertices
  pub free : s.count < p.vertices
  pub few : p.vertices ≤ most.vertices
  pub shallow : s.depth ≤ p.vertices
  pub low : start ≤ k
  pub high : k < length p.ends
  pub inside : k < length incident
  pub small : length p.ends / 2 ≤ most.edges
  pub dead_room : length p.ends / 2 ≤ length dead
  pub to : ℕ
  pub new : New p dead first s.at (get_or incident k 0) to

-- the vertex to which that edge leads is entered, and the cursor goes past the edge
pub record Descended (p : Plan) (incident dead : List ℕ) (s : State) (start k : ℕ) (first order cursor first' order' cursor' : List ℕ) (r : State) : Type 0 where
  pub leads : Leads p dead s.at (get_or incident k 0) r.at
  pub first_is : first' ≡ set first r.at (get_or incident k 0 + 1)
  pub order_is : order' ≡ set order s.count r.at
  pub cursor_is : cursor' ≡ set (set cursor s.at (k + 1 - start)) r.at 0
  pub count_is : r.count ≡ s.count + 1
  pub depth_is : r.depth ≡ s.depth + 1

-- `ascend`: what it asks for: a vertex that has a mark
pub record AscendStart (p : Plan) (dead : List ℕ) (s : State) (first : List ℕ) : Type 0 where
  pub vertex : s.at < p.vertices
  pub first_room : p.vertices ≤ length first
  pub dead_room : length p.ends / 2 ≤ length dead
  pub marked : Marked (read first) s.at
  pub deep : 0 < s.depth

-- the search goes where the first edge leads
pub record Ascended (p : Plan) (dead : List ℕ) (s : State) (first : List ℕ) (r : State) : Type 0 where
  pub leads : Leads p dead s.at (get_or first s.at 0 - 1) r.at
  pub count_is : r.count ≡ s.count
  pub depth_is : r.depth ≡ s.depth - 1

-- `goes_on`: there is a vertex where the search is, and room for another
abbrev pub GoesOn : ℕ → ℕ → ℕ → Type 0
GoesOn n count depth = (0 < depth) × (count < n)

-- `turn`: what it asks for: a vertex that has a mark, and room for another
pub record TurnStart (n : ℕ) (first : List ℕ) (s : State) : Type 0 where
  pub vertex : s.at < n
  pub marked : Marked (read first) s.at
  pub free : s.count < n
  pub deep : 0 < s.depth
  pub shallow : s.depth ≤ n

module _ (p : Plan) (incident begins dead : List ℕ) (s : State) (first order cursor first' order' cursor' : List ℕ) (r : State) where
  -- the first place that is not before the cursor
  abbrev pub next : ℕ
  next = get_or begins s.at 0 + get_or cursor s.at 0

  -- a step down over the edge at place k, or a step up
  pub data Turned : Type 0 where
    down : (k w : ℕ) → next ≤ k → ((i : ℕ) → next ≤ i → i < k → Old p dead first s.at (get_or incident i 0)) → InGroup p.vertices (length p.ends) begins s.at k
        → New p dead first s.at (get_or incident k 0) w → Descended p incident dead s (get_or begins s.at 0) k first order cursor first' order' cursor' r → Turned
    up : ((i : ℕ) → next ≤ i → InGroup p.vertices (length p.ends) begins s.at i → Old p dead first s.at (get_or incident i 0))
        → first' ≡ first → order' ≡ order → cursor' ≡ cursor → Ascended p dead s first r → Turned
