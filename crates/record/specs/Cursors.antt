-- What the two cursors ask and find.
use Rattle.std.specs.Prelude.{◌≡◌, ℕ, ◌+◌, ◌/◌, ◌<◌, ◌≤◌, List, length}
use Rattle.connectivity.specs.Plan.{Plan, Limits}
use Rattle.connectivity.specs.Admission.{Admitted}
use Rattle.graph.specs.Marks.{read}
use Rattle.record.specs.Standing.{Grouped}

-- the first place from `from` on that has a top, or `next`
pub record NextLink (top : ℕ → ℕ) (next from r : ℕ) : Type 0 where
  pub least : from ≤ r
  pub most : r ≤ next
  pub gone : (m : ℕ) → from ≤ m → m < r → top m ≡ 0
  pub some : r < next → 1 ≤ top r

-- the first place from `from` on whose edge is not built, or `end`
pub record NextSlot (incident over : ℕ → ℕ) (from end r : ℕ) : Type 0 where
  pub least : from ≤ r
  pub most : r ≤ end
  pub built : (k : ℕ) → from ≤ k → k < r → over (incident k) ≡ 0
  pub new : r < end → 1 ≤ over (incident r)

-- what `next_slot` asks: each of these places has an edge that stands in the table
pub record Slots (incident : List ℕ) (over from end : ℕ) : Type 0 where
  pub low : from ≤ end
  pub long : end ≤ length incident
  pub edges : (k : ℕ) → from ≤ k → k < end → read incident k < over

-- places k of the group of the vertex at place i of the order, from the cursor (at, slot) on
pub record Ahead (order begins : ℕ → ℕ) (at slot n i k : ℕ) : Type 0 where
  pub least : at ≤ i
  pub most : i < n
  pub from : begins (order i) ≤ k
  pub to : k < begins (order i + 1)
  pub after : i ≡ at → slot ≤ k

-- what `next_open` asks: some edge ahead is not built
pub record Opening (most : Limits) (incident begins order over : List ℕ) (at slot : ℕ) : Type 0 where
  pub p : Plan
  pub admitted : Admitted most p
  pub grouped : Grouped p incident begins
  pub valid : (k : ℕ) → k < p.vertices → read order k < p.vertices
  pub order_long : p.vertices ≤ length order
  pub over_long : length p.ends / 2 ≤ length over
  pub at_below : at < p.vertices
  pub slot_from : read begins (read order at) ≤ slot
  pub slot_to : slot ≤ read begins (read order at + 1)
  pub some : ((i k : ℕ) → Ahead (read order) (read begins) at slot p.vertices i k → read over (read incident k) ≡ 0) → ⊥

-- it comes to an edge that is not built, and those that it passes are built
pub record Opened (incident begins order over : ℕ → ℕ) (at slot n at' slot' : ℕ) : Type 0 where
  pub here : Ahead order begins at slot n at' slot'
  pub new : 1 ≤ over (incident slot')
  pub passed : (i k : ℕ) → Ahead order begins at slot n i k → i < at' → over (incident k) ≡ 0
  pub before : (k : ℕ) → Ahead order begins at slot n at' k → k < slot' → over (incident k) ≡ 0

abbrev pub OpenedAt : Limits → List ℕ → List ℕ → List ℕ → List ℕ → ℕ → ℕ → ℕ → ℕ → Type 0
OpenedAt most incident begins order over at slot at' slot' =
    (c : Opening most incident begins order over at slot) → Opened (read incident) (read begins) (read order) (read over) at slot c.p.vertices at' slot'

-- on the way, at place `from` of the group of the vertex at place i: all that is ahead of the cursor and before this is built
pub record Scanned (incident begins order over : ℕ → ℕ) (at slot n i from : ℕ) : Type 0 where
  pub least : at ≤ i
  pub most : i < n
  pub low : begins (order i) ≤ from
  pub high : from ≤ begins (order i + 1)
  pub after : i ≡ at → slot ≤ from
  pub passed : (j k : ℕ) → Ahead order begins at slot n j k → j < i → over (incident k) ≡ 0
  pub before : (k : ℕ) → Ahead order begins at slot n i k → k < from → over (incident k) ≡ 0

abbrev pub ScannedTo : Limits → List ℕ → List ℕ → List ℕ → List ℕ → ℕ → ℕ → ℕ → ℕ → Type 0
ScannedTo most incident begins order over at slot i from =
    (c : Opening most incident begins order over at slot) → Scanned (read incident) (read begins) (read order) (read over) at slot c.p.vertices i from
