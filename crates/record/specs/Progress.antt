-- What walk after walk asks and leaves behind, until every edge is built.
use Rattle.std.specs.Prelude.{◌≡◌, ℕ, ◌*◌, ◌/◌, ◌<◌, ◌≤◌, List, ◌∷◌, length, ◌≢◌}
use Rattle.connectivity.specs.Plan.{Plan, plan, graph, Limits}
use Rattle.connectivity.specs.Walk.{Leg, all_edges}
use Rattle.connectivity.specs.Admission.{kept_edges}
use Rattle.graph.specs.Marks.{read}
use Rattle.numbers.specs.Standing.{Rooted, Listed, tree_of}
use Rattle.record.specs.Standing.{Ground}
use Rattle.record.specs.Recording.{Recording, Chosen, Behind, Recorded}

-- what `add_path` asks: the rows so far, and an edge over which a Mader-path begins
pub record Adding (most : Limits) (ends first number : List ℕ) (f row step next : ℕ) (places below tips over now : List ℕ) : Type 0 where
  pub n : ℕ
  pub excluded : List ℕ
  pub root : ℕ
  pub whole : ℕ → ℕ
  pub rooted : Rooted most (plan n ends excluded) root first (read number)
  pub walks : List (List Leg)
  pub before : List ℕ
  pub recording : Recording (plan n ends excluded) root first (read number) whole walks before now places below tips over row step next
  pub chosen : Chosen (graph (plan n ends excluded)) (tree_of (plan n ends excluded) root first (read number)) (all_edges walks) f
  pub number_long : n ≤ length number

-- it is written behind them, and built
pub record Added (p : Plan) (root : ℕ) (first : List ℕ) (rank whole : ℕ → ℕ) (walks : List (List Leg)) (before now places places' below tips over : List ℕ) (row next row' step' next' : ℕ) : Type 0 where
  pub legs : List Leg
  pub recording : Recording p root first rank whole (legs ∷ walks) before now places' below tips over row' step' next'
  pub more_rows : row < row'
  pub more : next ≤ next'
  pub gone : (m : ℕ) → 2 ≤ m → m < next → ((y : ℕ) → read places y ≢ m) → (y : ℕ) → read places' y ≢ m

abbrev pub AddedBy : Limits → List ℕ → List ℕ → List ℕ → ℕ → ℕ → ℕ → ℕ → List ℕ → List ℕ → List ℕ → List ℕ → List ℕ → List ℕ → List ℕ → List ℕ → List ℕ → List ℕ → ℕ → ℕ → ℕ → Type 0
AddedBy most ends first number f row step next places below tips over now places' below' tips' over' then row' step' next' =
    (c : Adding most ends first number f row step next places below tips over now)
    → Added (plan c.n ends c.excluded) c.root first (read number) c.whole c.walks c.before then places places' below' tips' over' row next row' step' next'

-- the tables of the tree, and how far the record has come
pub record Going (most : Limits) (p : Plan) (incident begins first order number last : List ℕ) (whole : ℕ → ℕ) (before now places below tips over : List ℕ) (row step next empty at slot : ℕ) : Type 0 where
  pub ground : Ground most p (read order 0) incident begins first number last whole
  pub listing : Listed p (read order 0) order number
  pub walks : List (List Leg)
  pub recording : Recording p (read order 0) first (read number) whole walks before now places below tips over row step next
  pub behind : Behind p.vertices (read incident) (read begins) (read order) (read places) (read over) next empty at slot

-- what `finish` asks: how many edges there are, and the first three walks
pub record Finishing (most : Limits) (ends : List ℕ) (edges : ℕ) (incident begins first order number last places below tips over now : List ℕ) (row step next : ℕ) : Type 0 where
  pub n : ℕ
  pub excluded : List ℕ
  pub whole : ℕ → ℕ
  pub before : List ℕ
  pub all : edges ≡ kept_edges (plan n ends excluded)
  pub ground : Ground most (plan n ends excluded) (read order 0) incident begins first number last whole
  pub listing : Listed (plan n ends excluded) (read order 0) order number
  pub walks : List (List Leg)
  pub recording : Recording (plan n ends excluded) (read order 0) first (read number) whole walks before now places below tips over row step next

abbrev pub FinishedBy : Limits → List ℕ → ℕ → List ℕ → List ℕ → List ℕ → List ℕ → List ℕ → List ℕ → List ℕ → List ℕ → List ℕ → List ℕ → List ℕ → ℕ → ℕ → ℕ → List ℕ → Type 0
FinishedBy most ends edges incident begins first order number last places below tips over now row step next then =
    (c : Finishing most ends edges incident begins first order number last places below tips over now row step next)
    → (length then ≡ length now) × Recorded (plan c.n ends c.excluded) c.before then

-- what `build_all` asks: the tables of the tree, and room for the rows
pub record Ready (most : Limits) (ends : List ℕ) (edges : ℕ) (incident begins first order number last over : List ℕ) (room : ℕ) : Type 0 where
  pub n : ℕ
  pub excluded : List ℕ
  pub all : edges ≡ kept_edges (plan n ends excluded)
  pub ground : Ground most (plan n ends excluded) (read order 0) incident begins first number last (read over)
  pub listing : Listed (plan n ends excluded) (read order 0) order number
  pub over_long : length ends / 2 ≤ length over
  pub fits : 3 * kept_edges (plan n ends excluded) ≤ room

abbrev pub AllBuilt : Limits → List ℕ → ℕ → List ℕ → List ℕ → List ℕ → List ℕ → List ℕ → List ℕ → List ℕ → List ℕ → List ℕ → Type 0
AllBuilt most ends edges incident begins first order number last over before after =
    (c : Ready most ends edges incident begins first order number last over (length before)) → Recorded (plan c.n ends c.excluded) before after
