-- What the tables say while a record is written: the edges at each vertex, and what stays as it is.
use Rattle.std.specs.Prelude.{◌≡◌, ℕ, ◌+◌, ◌<◌, ◌≤◌, List, length, ◌≢◌}
use Rattle.connectivity.specs.Plan.{Plan, graph, listed, Limits}
use Rattle.connectivity.specs.Graph.{Joins}
use Rattle.connectivity.specs.Reach.{ThreeEdgeConnected}
use Rattle.connectivity.specs.Admission.{kept_edges, Admitted}
use Rattle.graph.specs.Marks.{read}
use Rattle.numbers.specs.Standing.{Rooted, Beneath}

-- an admitted plan, and how many edges it keeps
pub record Counted (most : Limits) (p : Plan) (count : ℕ) : Type 0 where
  pub admitted : Admitted most p
  pub all : count ≡ kept_edges p

-- the edges at each vertex: those of v stand from `begins v` up to `begins (v + 1)`, with all else that the plan lists there
pub record Grouped (p : Plan) (incident begins : List ℕ) : Type 0 where
  pub place : (e v u : ℕ) → Joins (graph p) e v u → (k : ℕ) × (read begins v ≤ k) × (k < read begins (v + 1)) × (read incident k ≡ e)
  pub joins : (v k : ℕ) → v < p.vertices → read begins v ≤ k → k < read begins (v + 1) → (u : ℕ) × Joins (listed p) (read incident k) v u
  pub ascends : (v : ℕ) → v < p.vertices → read begins v ≤ read begins (v + 1)
  pub inside : (v : ℕ) → v < p.vertices → read begins (v + 1) ≤ length p.ends
  pub once : (v j k : ℕ) → v < p.vertices → read begins v ≤ j → j < k → k < read begins (v + 1) → read incident j ≢ read incident k
  pub long : length p.ends ≤ length incident
  pub room : p.vertices < length begins

-- all that stays as it is while a record is written
pub record Ground (most : Limits) (p : Plan) (root : ℕ) (incident begins first number last : List ℕ) (over : ℕ → ℕ) : Type 0 where
  pub rooted : Rooted most p root first (read number)
  pub three : ThreeEdgeConnected (graph p)
  pub grouped : Grouped p incident begins
  pub beneath : Beneath p root first (read number) (read last) over
  pub number_long : p.vertices ≤ length number
  pub last_long : p.vertices ≤ length last
