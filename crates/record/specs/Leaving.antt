-- What the way out of a link asks, and what it is.
use Rattle.std.specs.Prelude.{◌≡◌, ℕ, suc, ◌-◌, ◌/◌, ◌≤◌, ◌⊎◌, List, length, ◌≢◌}
use mathlib.Core.List.{Memᴰ as In}
use Rattle.connectivity.specs.Plan.{plan, graph, Limits}
use Rattle.connectivity.specs.Graph.{Graph, Joins}
use Rattle.connectivity.specs.Walk.{Leg, all_edges}
use Rattle.tree.specs.Tree.{Pointers, Above, Back}
use Rattle.tree.specs.Filed.{Tips}
use Rattle.tree.specs.State.{State}
use Rattle.graph.specs.Marks.{read}
use Rattle.numbers.specs.Standing.{tree_of}
use Rattle.record.specs.Standing.{Ground}

-- the table `over` while edges are built: 0 for each that is, for any other what stood there at first
pub record Uses (built : List ℕ) (whole over : ℕ → ℕ) : Type 0 where
  pub on : (e : ℕ) → In e built → over e ≡ 0
  pub off : (e : ℕ) → (In e built → ⊥) → over e ≡ whole e

-- what `leave_link` asks
pub record Leaving (most : Limits) (ends incident begins first number last places below over : List ℕ) (top bottom : ℕ) : Type 0 where
  pub n : ℕ
  pub excluded : List ℕ
  pub root : ℕ
  pub whole : ℕ → ℕ
  pub ground : Ground most (plan n ends excluded) root incident begins first number last whole
  pub walks : List (List Leg)
  pub state : State (graph (plan n ends excluded)) (tree_of (plan n ends excluded) root first (read number)) walks (read places) (read below)
  pub uses : Uses (all_edges walks) whole (read over)
  pub link : ℕ
  pub large : 2 ≤ link
  pub tips : Tips (graph (plan n ends excluded)) (tree_of (plan n ends excluded) root first (read number)) (read places) link top bottom
  pub places_long : n ≤ length places
  pub below_long : n ≤ length below
  pub over_long : length ends / 2 ≤ length over

-- f, over an edge that is not built at a vertex of the link: its upper end lies at another place, or its lower end at or below the built child of the
-- bottom
pub record Exit (g : Graph) (t : Pointers) (built : List ℕ) (over place below : ℕ → ℕ) (link bottom f : ℕ) : Type 0 where
  pub at : ℕ
  pub edge : ℕ
  pub to : ℕ
  pub upper : ℕ
  pub lower : ℕ
  pub inside : place at ≡ link
  pub joins : Joins g edge at to
  pub new : In edge built → ⊥
  pub is_over : f ≡ over edge
  pub back : Back g t f upper lower
  pub out : (place upper ≢ link) ⊎ ((c : ℕ) × (below bottom ≡ suc c) × Above g t c lower)

abbrev pub LeftBy : Limits → List ℕ → List ℕ → List ℕ → List ℕ → List ℕ → List ℕ → List ℕ → List ℕ → List ℕ → ℕ → ℕ → ℕ → Type 0
LeftBy most ends incident begins first number last places below over top bottom r =
    (c : Leaving most ends incident begins first number last places below over top bottom)
    → Exit (graph (plan c.n ends c.excluded)) (tree_of (plan c.n ends c.excluded) c.root first (read number)) (all_edges c.walks) (λ e. c.whole e - 1) (read places) (read below) c.link bottom r
