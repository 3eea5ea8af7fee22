-- What the writing of a record asks and leaves behind.
use Rattle.std.specs.Prelude.{◌≡◌, ℕ, ◌+◌, ◌-◌, ◌*◌, ◌/◌, ◌<◌, ◌≤◌, List, ◌∷◌, length, ◌≢◌}
use mathlib.Core.List.{Memᴰ as In}
use Rattle.connectivity.specs.Plan.{Plan, plan, graph, Limits}
use Rattle.connectivity.specs.Graph.{Graph}
use Rattle.connectivity.specs.Reach.{ThreeEdgeConnected}
use Rattle.connectivity.specs.Walk.{Leg, all_edges, Built}
use Rattle.connectivity.specs.Mader.{MaderPath, rows, step_rows, Builds}
use Rattle.connectivity.specs.Admission.{kept_edges, Admitted}
use Rattle.connectivity.proofs.Legs.{leg}
use Rattle.tree.specs.Tree.{Pointers, Back, Climb}
use Rattle.tree.specs.State.{State}
use Rattle.tree.specs.Links.{Links}
use Rattle.graph.specs.Marks.{read}
use Rattle.record.specs.Ways.{Written}
use Rattle.numbers.specs.Standing.{Rooted, Listed, tree_of}
use Rattle.record.specs.Standing.{Ground}
use Rattle.record.specs.Linking.{Roomy, top_of, bottom_of}
use Rattle.record.specs.Leaving.{Uses}

-- a plan with no cut of at most two edges, and a list with room for its rows
pub record Sturdy (most : Limits) (p : Plan) (room : ℕ) : Type 0 where
  pub admitted : Admitted most p
  pub three : ThreeEdgeConnected (graph p)
  pub fits : 3 * kept_edges p ≤ room

-- a record that builds the plan stands at the front, and what stands behind stays
pub record Recorded (p : Plan) (before after : List ℕ) : Type 0 where
  pub list : List ℕ
  pub builds : Builds (graph p) list
  pub long : length list ≡ 3 * kept_edges p
  pub written : Written list before after

-- the steps so far, and what the tables say of them
pub record Holds (p : Plan) (root : ℕ) (first : List ℕ) (rank whole : ℕ → ℕ) (walks : List (List Leg)) (places below tips over : List ℕ) (next : ℕ) : Type 0 where
  pub state : State (graph p) (tree_of p root first rank) walks (read places) (read below)
  pub links : Links (graph p) (tree_of p root first rank) (read places) (top_of tips) (bottom_of tips) next
  pub uses : Uses (all_edges walks) whole (read over)
  pub roomy : Roomy p.vertices below places tips
  pub over_long : length p.ends / 2 ≤ length over

-- and their rows at the front of the list
pub record Recording (p : Plan) (root : ℕ) (first : List ℕ) (rank whole : ℕ → ℕ) (walks : List (List Leg)) (before now places below tips over : List ℕ) (row step next : ℕ) : Type 0 where
  pub holds : Holds p root first rank whole walks places below tips over next
  pub written : Written (rows walks) before now
  pub row_is : row ≡ length (all_edges walks)
  pub step_is : step ≡ length walks
  pub fits : 3 * kept_edges p ≤ length before

-- The first three walks.

-- what they ask: the tables of the tree, nothing in the others, and room for the rows
pub record Beginning (most : Limits) (ends incident begins first order number last : List ℕ) (places below tips over : List ℕ) (room : ℕ) : Type 0 where
  pub n : ℕ
  pub excluded : List ℕ
  pub ground : Ground most (plan n ends excluded) (read order 0) incident begins first number last (read over)
  pub listing : Listed (plan n ends excluded) (read order 0) order number
  pub places_blank : (v : ℕ) → read places v ≡ 0
  pub below_blank : (v : ℕ) → read below v ≡ 0
  pub roomy : Roomy n below places tips
  pub over_long : length ends / 2 ≤ length over
  pub fits : 3 * kept_edges (plan n ends excluded) ≤ room

-- they are written and built
pub record Begun (p : Plan) (root : ℕ) (first : List ℕ) (rank whole : ℕ → ℕ) (before after places below tips over : List ℕ) (row step next : ℕ) : Type 0 where
  pub walks : List (List Leg)
  pub recording : Recording p root first rank whole walks before after places below tips over row step next

abbrev pub BegunBy : Limits → List ℕ → List ℕ → List ℕ → List ℕ → List ℕ → List ℕ → List ℕ → List ℕ → List ℕ → List ℕ → List ℕ → List ℕ → List ℕ → List ℕ → List ℕ → List ℕ → List ℕ → ℕ → ℕ → ℕ → Type 0
BegunBy most ends incident begins first order number last places below tips over rows places' below' tips' over' rows' row step next =
    (c : Beginning most ends incident begins first order number last places below tips over (length rows))
    → Begun (plan c.n ends c.excluded) (read order 0) first (read number) (read over) rows rows' places' below' tips' over' row step next

-- One step more.

-- an edge f outside the tree over which any climb to what is built makes a Mader-path
pub record Chosen (g : Graph) (t : Pointers) (built : List ℕ) (f : ℕ) : Type 0 where
  pub upper : ℕ
  pub lower : ℕ
  pub back : Back g t f upper lower
  pub new : In f built → ⊥
  pub path : (legs : List Leg) (x : ℕ) → Climb g t (Built g built) lower legs x → MaderPath g built upper (leg f upper ∷ legs) x

-- the cursors: the places of links before `empty` have no vertex; every edge at the vertices of the order before `at` is built, and of the next one those
-- listed before `slot`
pub record Behind (n : ℕ) (incident begins order place over : ℕ → ℕ) (next empty at slot : ℕ) : Type 0 where
  pub least : 2 ≤ empty
  pub most : empty ≤ next
  pub gone : (m : ℕ) → 2 ≤ m → m < empty → (y : ℕ) → place y ≢ m
  pub at_below : at < n
  pub from : begins (order at) ≤ slot
  pub to : slot ≤ begins (order at + 1)
  pub passed : (i k : ℕ) → i < at → begins (order i) ≤ k → k < begins (order i + 1) → over (incident k) ≡ 0
  pub before : (k : ℕ) → begins (order at) ≤ k → k < slot → over (incident k) ≡ 0

-- what `next_edge` asks: an edge is left
pub record Nexting (most : Limits) (ends incident begins first order number last places below tips over : List ℕ) (next empty at slot : ℕ) : Type 0 where
  pub n : ℕ
  pub excluded : List ℕ
  pub whole : ℕ → ℕ
  pub ground : Ground most (plan n ends excluded) (read order 0) incident begins first number last whole
  pub listing : Listed (plan n ends excluded) (read order 0) order number
  pub walks : List (List Leg)
  pub holds : Holds (plan n ends excluded) (read order 0) first (read number) whole walks places below tips over next
  pub behind : Behind n (read incident) (read begins) (read order) (read places) (read over) next empty at slot
  pub left : length (all_edges walks) < kept_edges (plan n ends excluded)

abbrev pub NextBy : Limits → List ℕ → List ℕ → List ℕ → List ℕ → List ℕ → List ℕ → List ℕ → List ℕ → List ℕ → List ℕ → List ℕ → ℕ → ℕ → ℕ → ℕ → ℕ → ℕ → ℕ → ℕ → Type 0
NextBy most ends incident begins first order number last places below tips over next empty at slot empty' at' slot' f =
    (c : Nexting most ends incident begins first order number last places below tips over next empty at slot)
    → Behind c.n (read incident) (read begins) (read order) (read places) (read over) next empty' at' slot'
    × Chosen (graph (plan c.n ends c.excluded)) (tree_of (plan c.n ends c.excluded) (read order 0) first (read number)) (all_edges c.walks) f

-- what one more asks: room for its rows
pub record Stepping (most : Limits) (ends first number : List ℕ) (f next : ℕ) (places below tips over : List ℕ) (room : ℕ) : Type 0 where
  pub n : ℕ
  pub excluded : List ℕ
  pub root : ℕ
  pub whole : ℕ → ℕ
  pub rooted : Rooted most (plan n ends excluded) root first (read number)
  pub walks : List (List Leg)
  pub holds : Holds (plan n ends excluded) root first (read number) whole walks places below tips over next
  pub chosen : Chosen (graph (plan n ends excluded)) (tree_of (plan n ends excluded) root first (read number)) (all_edges walks) f
  pub number_long : n ≤ length number
  pub fits : 3 * (kept_edges (plan n ends excluded) - length (all_edges walks)) ≤ room

-- it is written and built
pub record Stepped (p : Plan) (root : ℕ) (first : List ℕ) (rank whole : ℕ → ℕ) (walks : List (List Leg)) (step next : ℕ) (before after places places' below tips over : List ℕ) (count next' : ℕ) : Type 0 where
  pub legs : List Leg
  pub holds : Holds p root first rank whole (legs ∷ walks) places' below tips over next'
  pub written : Written (step_rows step legs) before after
  pub counted : count ≡ length legs
  pub some : 1 ≤ count
  pub more : next ≤ next'
  -- a place that had no vertex stays without
  pub gone : (m : ℕ) → 2 ≤ m → m < next → ((y : ℕ) → read places y ≢ m) → (y : ℕ) → read places' y ≢ m
