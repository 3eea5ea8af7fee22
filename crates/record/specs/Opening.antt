-- What the parts of the first three walks ask and leave behind.
use Rattle.std.specs.Prelude.{◌≡◌, ℕ, ◌+◌, ◌*◌, ◌/◌, ◌<◌, ◌≤◌, List, [], ◌∷◌, length}
use Rattle.connectivity.specs.Plan.{Plan, plan, graph, Limits}
use Rattle.connectivity.specs.Graph.{Graph, Vertex}
use Rattle.connectivity.specs.Walk.{Leg, all_edges}
use Rattle.connectivity.specs.Mader.{rows}
use Rattle.connectivity.specs.Admission.{kept_edges, Admitted}
use Rattle.connectivity.proofs.Legs.{leg}
use Rattle.tree.specs.Tree.{Pointers, Child, Above, Passing, Climb}
use Rattle.graph.specs.Marks.{read}
use Rattle.graph.specs.Ends.{far_end}
use Rattle.record.specs.Ways.{Written}
use Rattle.numbers.specs.Standing.{Rooted, Listed, tree_of}
use Rattle.record.specs.Standing.{Grouped, Ground}
use Rattle.record.specs.Linking.{Roomy}
use Rattle.record.specs.Recording.{Holds}

-- The doors: edges at r that are not in the tree and lead to a vertex whose number is at most `end`.

-- by e to w
pub record Door (mark number : ℕ → ℕ) (end e w : ℕ) : Type 0 where
  pub off : mark w ≡ e + 1 → ⊥
  pub low : number w ≤ end

pub record DoorFits (most : Limits) (e w first number : ℕ) : Type 0 where
  pub edge : e < most.edges
  pub marked : w < first
  pub numbered : w < number

-- at a place of the edges at r
abbrev pub DoorAt : List ℕ → List ℕ → List ℕ → List ℕ → ℕ → ℕ → ℕ → Type 0
DoorAt ends incident first number end r k = Door (read first) (read number) end (read incident k) (far_end ends (read incident k) r)

-- what `next_door` asks: the edges at each vertex, and that some place from `from` on is that of a door
pub record Doors (most : Limits) (ends incident first number : List ℕ) (end r from : ℕ) : Type 0 where
  pub n : ℕ
  pub excluded : List ℕ
  pub begins : List ℕ
  pub admitted : Admitted most (plan n ends excluded)
  pub grouped : Grouped (plan n ends excluded) incident begins
  pub vertex : r < n
  pub first_long : n ≤ length first
  pub number_long : n ≤ length number
  pub start : read begins r ≤ from
  pub some : ((k : ℕ) → from ≤ k → k < read begins (r + 1) → DoorAt ends incident first number end r k → ⊥) → ⊥

-- the first of them
pub record NextDoor (ends incident begins first number : List ℕ) (end r from k : ℕ) : Type 0 where
  pub least : from ≤ k
  pub most : k < read begins (r + 1)
  pub door : DoorAt ends incident first number end r k
  pub before : (j : ℕ) → from ≤ j → j < k → DoorAt ends incident first number end r j → ⊥

abbrev pub NextDoorBy : Limits → List ℕ → List ℕ → List ℕ → List ℕ → ℕ → ℕ → ℕ → ℕ → Type 0
NextDoorBy most ends incident first number end r from k =
    (c : Doors most ends incident first number end r from) → NextDoor ends incident c.begins first number end r from k

-- Where two ways up meet.

-- what `meeting` asks: no mark is set
pub record Meets (most : Limits) (ends first : List ℕ) (w u r : ℕ) (marks : List ℕ) : Type 0 where
  pub n : ℕ
  pub excluded : List ℕ
  pub rank : ℕ → ℕ
  pub rooted : Rooted most (plan n ends excluded) r first rank
  pub one : Vertex (graph (plan n ends excluded)) w
  pub other : Vertex (graph (plan n ends excluded)) u
  pub room : n ≤ length marks
  pub blank : (v : ℕ) → read marks v ≡ 0

-- the way up from u to the first vertex above w
pub record Meeting (g : Graph) (t : Pointers) (w u x : ℕ) : Type 0 where
  pub legs : List Leg
  pub climb : Climb g t (λ v. Above g t v w) u legs x

abbrev pub Met : Limits → List ℕ → List ℕ → ℕ → ℕ → ℕ → List ℕ → List ℕ → ℕ → Type 0
Met most ends first w u r marks marks' x =
    (length marks' ≡ length marks)
    × ((c : Meets most ends first w u r marks) → ((v : ℕ) → read marks' v ≡ 0) × Meeting (graph (plan c.n ends c.excluded)) (tree_of (plan c.n ends c.excluded) r first c.rank) w u x)

-- The three walks.

-- two edges f and d from the root past the first edge of c, and the ways up: from w to x, from the parent of x to the root, and from u to the first
-- vertex above w, which is x
pub record Climbs (most : Limits) (p : Plan) (root : ℕ) (first : List ℕ) (rank : ℕ → ℕ) (x f w d u : ℕ) : Type 0 where
  pub rooted : Rooted most p root first rank
  pub c : ℕ
  pub child : Child (graph p) (tree_of p root first rank) c
  pub one : Passing (graph p) (tree_of p root first rank) c f root w
  pub other : Passing (graph p) (tree_of p root first rank) c d root u
  pub differ : f ≡ d → ⊥
  pub low : List Leg
  pub to_x : Climb (graph p) (tree_of p root first rank) (λ v. v ≡ x) w low x
  pub high : List Leg
  pub up : Climb (graph p) (tree_of p root first rank) (λ v. v ≡ root) ((tree_of p root first rank).parent x) high root
  pub side : List Leg
  pub meets : Climb (graph p) (tree_of p root first rank) (λ v. Above (graph p) (tree_of p root first rank) v w) u side x

-- the walks, the latest first: over d, over f, from x over its first edge e
abbrev pub three_walks : ℕ → ℕ → ℕ → ℕ → ℕ → List Leg → List Leg → List Leg → List (List Leg)
three_walks root x f e d low high side = (leg d root ∷ side) ∷ (leg f root ∷ low) ∷ (leg e x ∷ high) ∷ []

-- what `find` asks: the tables of the tree, and no mark in `places`
pub record Finding (most : Limits) (ends incident begins first order number last : List ℕ) (root : ℕ) (places : List ℕ) : Type 0 where
  pub n : ℕ
  pub excluded : List ℕ
  pub over : ℕ → ℕ
  pub ground : Ground most (plan n ends excluded) root incident begins first number last over
  pub listing : Listed (plan n ends excluded) root order number
  pub places_blank : (v : ℕ) → read places v ≡ 0
  pub places_long : n ≤ length places

-- e leads from x to its parent y
pub record Forked (most : Limits) (p : Plan) (root : ℕ) (first : List ℕ) (rank : ℕ → ℕ) (places : List ℕ) (x e y f w d u : ℕ) : Type 0 where
  pub climbs : Climbs most p root first rank x f w d u
  pub edge : e ≡ (tree_of p root first rank).first x
  pub parent : y ≡ (tree_of p root first rank).parent x
  pub blank : (v : ℕ) → read places v ≡ 0

abbrev pub ForkedBy : Limits → List ℕ → List ℕ → List ℕ → List ℕ → List ℕ → List ℕ → List ℕ → ℕ → List ℕ → List ℕ → ℕ → ℕ → ℕ → ℕ → ℕ → ℕ → ℕ → Type 0
ForkedBy most ends incident begins first order number last root places places' x e y f w d u =
    (length places' ≡ length places)
    × ((c : Finding most ends incident begins first order number last root places) → Forked most (plan c.n ends c.excluded) root first (read number) places' x e y f w d u)

-- what writing them asks
pub record Rowed (most : Limits) (ends first : List ℕ) (root x e y f w d u room : ℕ) : Type 0 where
  pub n : ℕ
  pub excluded : List ℕ
  pub rank : ℕ → ℕ
  pub climbs : Climbs most (plan n ends excluded) root first rank x f w d u
  pub edge : e ≡ (tree_of (plan n ends excluded) root first rank).first x
  pub parent : y ≡ (tree_of (plan n ends excluded) root first rank).parent x
  pub fits : 3 * kept_edges (plan n ends excluded) ≤ room

abbrev pub RowedBy : Limits → List ℕ → List ℕ → ℕ → ℕ → ℕ → ℕ → ℕ → ℕ → ℕ → ℕ → List ℕ → List ℕ → ℕ → Type 0
RowedBy most ends first root x e y f w d u before after count =
    (c : Rowed most ends first root x e y f w d u (length before))
    → Written (rows (three_walks root x f e d c.climbs.low c.climbs.high c.climbs.side)) before after
    × (count ≡ length (all_edges (three_walks root x f e d c.climbs.low c.climbs.high c.climbs.side)))

-- what building them asks: nothing in the tables by vertex
pub record Raw (most : Limits) (ends first : List ℕ) (root x e y f w d u : ℕ) (places below tips over : List ℕ) : Type 0 where
  pub n : ℕ
  pub excluded : List ℕ
  pub rank : ℕ → ℕ
  pub climbs : Climbs most (plan n ends excluded) root first rank x f w d u
  pub edge : e ≡ (tree_of (plan n ends excluded) root first rank).first x
  pub parent : y ≡ (tree_of (plan n ends excluded) root first rank).parent x
  pub places_blank : (v : ℕ) → read places v ≡ 0
  pub below_blank : (v : ℕ) → read below v ≡ 0
  pub roomy : Roomy n below places tips
  pub over_long : length ends / 2 ≤ length over

abbrev pub RaisedBy : Limits → List ℕ → List ℕ → ℕ → ℕ → ℕ → ℕ → ℕ → ℕ → ℕ → ℕ → List ℕ → List ℕ → List ℕ → List ℕ → List ℕ → List ℕ → List ℕ → List ℕ → ℕ → Type 0
RaisedBy most ends first root x e y f w d u places below tips over places' below' tips' over' next =
    (c : Raw most ends first root x e y f w d u places below tips over)
    → Holds (plan c.n ends c.excluded) root first c.rank (read over) (three_walks root x f e d c.climbs.low c.climbs.high c.climbs.side) places' below' tips' over' next

-- the edge of the walk k, where it leads, and where the way up from there ends
pub record WayAt (k root x e y f w d u edge v stop : ℕ) : Type 0 where
  pub one : k ≡ 0 → (edge ≡ e) × (v ≡ y) × (stop ≡ root)
  pub two : k ≡ 1 → (edge ≡ f) × (v ≡ w) × (stop ≡ x)
  pub three : k ≡ 2 → (edge ≡ d) × (v ≡ u) × (stop ≡ x)
