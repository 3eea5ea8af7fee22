-- Ways up along first edges, and what the loops along them ask and leave behind.
use Rattle.std.specs.Prelude.{◌≡◌, ℕ, suc, ◌+◌, ◌-◌, ◌*◌, ◌/◌, ◌<◌, ◌≤◌, cond, List, [], ◌∷◌, ◌++◌, length, drop, ◌≢◌, nat_lt, slice_index, slice_index_or, slice_set}
use mathlib.Core.List.{Memᴰ as In}
use Rattle.connectivity.specs.Lists.{Distinct}
use Rattle.connectivity.specs.Plan.{plan, graph, Limits}
use Rattle.connectivity.specs.Graph.{Graph, Joins}
use Rattle.connectivity.specs.Walk.{Leg, froms, edges_of}
use Rattle.connectivity.specs.Mader.{step_rows}
use Rattle.connectivity.specs.Admission.{Admitted}
use Rattle.connectivity.proofs.Legs.{leg}
use Rattle.graph.specs.Marks.{read, Marked}
use Rattle.graph.specs.Ends.{far_end}

-- the rows with one written after the first `count`
abbrev pub with_row : List ℕ → ℕ → ℕ → ℕ → ℕ → List ℕ
with_row rows count step e v = slice_set (slice_set (slice_set rows (3 * count) step) (3 * count + 1) e) (3 * count + 2) v

-- what a list holds after some numbers are written at its front
abbrev pub Written : List ℕ → List ℕ → List ℕ → Type 0
Written numbers before after = after ≡ numbers ++ drop (length numbers) before

-- where the first edge of v leads
abbrev pub next_up : List ℕ → List ℕ → ℕ → ℕ
next_up ends first v = far_end ends (read first v - 1) v

-- the end of e that has the lower number
abbrev pub upper_end : List ℕ → List ℕ → ℕ → ℕ
upper_end ends number e = cond (nat_lt (read number (slice_index ends (2 * e))) (read number (slice_index ends (2 * e + 1)))) (slice_index ends (2 * e)) (slice_index ends (2 * e + 1))

-- e is an edge, and both of its ends have a number
pub record Ended (ends number : List ℕ) (e : ℕ) : Type 0 where
  pub below : e < length ends / 2
  pub left : slice_index_or ends (2 * e) 0 < length number
  pub right : slice_index_or ends (2 * e + 1) 0 < length number

-- v has a first edge
pub record Rises (ends first : List ℕ) (v : ℕ) : Type 0 where
  pub long : v < length first
  pub seen : 1 ≤ read first v
  pub edge : read first v - 1 < length ends / 2

-- from v up to w: each leg leaves a vertex over its first edge, of which `mark` has one more
pub data Path (g : Graph) (mark : ℕ → ℕ) : ℕ → List Leg → ℕ → Type 0 where
  there : {w : ℕ} → Path g mark w [] w
  up : {v p w : ℕ} {legs : List Leg} → 1 ≤ mark v → Joins g (mark v - 1) v p → Path g mark p legs w → Path g mark v (leg (mark v - 1) v ∷ legs) w

-- a way up that passes each vertex once
pub record Way (most : Limits) (ends first : List ℕ) (v stop : ℕ) : Type 0 where
  pub n : ℕ
  pub excluded : List ℕ
  pub admitted : Admitted most (plan n ends excluded)
  pub long : n ≤ length first
  pub to : stop < n
  pub legs : List Leg
  pub path : Path (graph (plan n ends excluded)) (read first) v legs stop
  pub once : Distinct (froms legs)
  pub apart : In stop (froms legs) → ⊥
  pub short : length legs ≤ most.vertices

-- The rows of a way up.

-- and room for its rows
pub record Climbing (most : Limits) (ends first : List ℕ) (v stop room : ℕ) : Type 0 where
  pub way : Way most ends first v stop
  pub fits : 3 * length way.legs ≤ room

abbrev pub Climbed : Limits → List ℕ → List ℕ → ℕ → ℕ → ℕ → List ℕ → List ℕ → ℕ → Type 0
Climbed most ends first v stop step before after r =
    (c : Climbing most ends first v stop (length before)) → Written (step_rows step c.way.legs) before after × (r ≡ length c.way.legs)

-- over e from `from`, and up: room for one row more
pub record OneMore (most : Limits) (ends first : List ℕ) (v stop room : ℕ) : Type 0 where
  pub way : Way most ends first v stop
  pub fits : 3 * length way.legs + 3 ≤ room

abbrev pub OverUp : Limits → List ℕ → List ℕ → ℕ → ℕ → ℕ → ℕ → ℕ → List ℕ → List ℕ → ℕ → Type 0
OverUp most ends first e from v stop step before after r =
    (c : OneMore most ends first v stop (length before)) → Written (step_rows step (leg e from ∷ c.way.legs)) before after × (r ≡ length c.way.legs + 1)

-- Marks along a way up.

-- and a mark for each vertex
pub record Marking (most : Limits) (ends first : List ℕ) (v stop size : ℕ) : Type 0 where
  pub way : Way most ends first v stop
  pub room : way.n ≤ size

-- its vertices have the mark m, the marks of all others stay
pub record MarkedOn (legs : List Leg) (stop m : ℕ) (before after : ℕ → ℕ) : Type 0 where
  pub on : (u : ℕ) → In u (froms legs) → after u ≡ m
  pub end : after stop ≡ m
  pub off : (u : ℕ) → (In u (froms legs) → ⊥) → (u ≢ stop) → after u ≡ before u

abbrev pub MarkedUp : Limits → List ℕ → List ℕ → ℕ → ℕ → ℕ → List ℕ → List ℕ → Type 0
MarkedUp most ends first v stop m before after =
    (length after ≡ length before) × ((c : Marking most ends first v stop (length before)) → MarkedOn c.way.legs stop m (read before) (read after))

-- a way up to the first marked vertex on it
pub record Toward (most : Limits) (ends first marks : List ℕ) (v : ℕ) : Type 0 where
  pub to : ℕ
  pub way : Way most ends first v to
  pub room : way.n ≤ length marks
  pub plain : (u : ℕ) → In u (froms way.legs) → read marks u ≡ 0
  pub met : Marked (read marks) to

abbrev pub MetFirst : Limits → List ℕ → List ℕ → List ℕ → ℕ → ℕ → Type 0
MetFirst most ends first marks v r = (c : Toward most ends first marks v) → r ≡ c.to

-- The edges of a way up are built.

-- a place for each vertex and for each edge
pub record Raising (most : Limits) (ends first : List ℕ) (v stop below over : ℕ) : Type 0 where
  pub way : Way most ends first v stop
  pub room : way.n ≤ below
  pub edges : length ends / 2 ≤ over

-- each vertex that is left is noted below the one above it, the edges stand as built, and nothing else changes; the top is the last that is left
pub record Raised (ends first : List ℕ) (legs : List Leg) (stop : ℕ) (below over below' over' : ℕ → ℕ) (top : ℕ) : Type 0 where
  pub noted : (y : ℕ) → In y (froms legs) → below' (next_up ends first y) ≡ suc y
  pub below_off : (z : ℕ) → ((y : ℕ) → In y (froms legs) → next_up ends first y ≢ z) → below' z ≡ below z
  pub over_on : (e : ℕ) → In e (edges_of legs) → over' e ≡ 0
  pub over_off : (e : ℕ) → (In e (edges_of legs) → ⊥) → over' e ≡ over e
  pub top_on : 1 ≤ length legs → In top (froms legs)
  pub top_up : 1 ≤ length legs → next_up ends first top ≡ stop

abbrev pub RaisedUp : Limits → List ℕ → List ℕ → ℕ → ℕ → List ℕ → List ℕ → List ℕ → List ℕ → ℕ → Type 0
RaisedUp most ends first v stop below over below' over' r =
    (length below' ≡ length below) × (length over' ≡ length over)
    × ((c : Raising most ends first v stop (length below) (length over)) → Raised ends first c.way.legs stop (read below) (read over) (read below') (read over') r)
