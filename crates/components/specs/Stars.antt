-- What is kept while cuts are tried: the groups so far, which edges are claimed, and what a try of one cut answers.
use Rattle.std.specs.Prelude.{◌≡◌, Bool, true, false, cond, not, ◌⊎◌, List, [], ◌∷◌, ℕ, ◌/◌, ◌≤◌, ◌<◌, length, get_or, set}
use Rattle.connectivity.specs.Plan.{Plan, graph, Limits}
use Rattle.connectivity.specs.Graph.{Graph, Edge, Joins}
use Rattle.connectivity.specs.Reach.{Reach, Without}
use Rattle.connectivity.specs.Component.{Together}
use Rattle.graph.specs.Marks.{read}
use Rattle.graph.specs.Tells.{Tells}
use Rattle.incidence.specs.Tables.{Tabled}
use Rattle.incidence.specs.Parts.{Kept}
use Rattle.depth.specs.Depth.{Masking}
use Rattle.labels.specs.Label.{Balanced, Keeps}
use Rattle.components.specs.Pair.{CutPair, LowestPair}
use Rattle.components.specs.Splitting.{Classes, Parted}

-- who is in one group reaches each other without the edges of `cut`
abbrev pub Respects : Graph → ℕ → (ℕ → ℕ) → List ℕ → Type 0
Respects g n at cut = (u v : ℕ) → u < n → v < n → at u ≡ at v → Reach g (Without cut) u v

-- groups that take apart no two that hold together, and are not larger than a body
pub record Grouping (g : Graph) (n : ℕ) (at : ℕ → ℕ) : Type 0 where
  pub classes : Classes n at
  pub sound : (u v : ℕ) → u < n → v < n → Together g u v → at u ≡ at v
  pub whole : Respects g n at []

-- a try of `cut`, which has d in it, and whether it parts: where its ends are still joined, nothing changes; else the groups are taken apart by
-- what one of its ends still reaches
pub data Attempt (g : Graph) (n : ℕ) (cut : List ℕ) (d : ℕ) (table₀ table : List ℕ) : Bool → Type 0 where
  joined : table ≡ table₀ → (root far : ℕ) → Joins g d root far → Reach g (Without cut) root far → Attempt g n cut d table₀ table false
  parted : length table ≡ length table₀ → (root far : ℕ) → Joins g d root far → (Reach g (Without cut) root far → ⊥)
      → (side : ℕ → Bool) → ((v : ℕ) → v < n → Tells (not (side v)) (Reach g (Without cut) root v)) → Parted n side (read table₀) (read table) → Attempt g n cut d table₀ table true

-- the edges below k have been tried alone: those that part something are claimed; what is no edge of the graph is claimed from the start
pub record Singles (g : Graph) (n m k : ℕ) (claimed table : List ℕ) : Type 0 where
  pub groups : Grouping g n (read table)
  pub one : (x : ℕ) → x < k → Respects g n (read table) (x ∷ [])
  pub loose : (x : ℕ) → x < k → get_or claimed x 0 ≡ 0 → Keeps g (x ∷ [])
  pub bridge : (x : ℕ) → x < k → Edge g x → (get_or claimed x 0 ≡ 0 → ⊥) → Keeps g (x ∷ []) → ⊥
  pub fresh : (x : ℕ) → k ≤ x → x < m → Edge g x → get_or claimed x 0 ≡ 0

-- x is claimed by the lowest edge that it is a cut pair with, and the groups respect these two
pub record Claim (g : Graph) (n : ℕ) (at : ℕ → ℕ) (x : ℕ) : Type 0 where
  pub by : ℕ
  pub before : by < x
  pub pair : CutPair g by x
  pub lowest : LowestPair g x by
  pub respects : Respects g n at (by ∷ x ∷ [])

-- the pairs of an edge below k and a later one have been tried, and those of k and one below y
abbrev pub Done : ℕ → ℕ → ℕ → ℕ → Type 0
Done k y r x = (r < k) ⊎ ((r ≡ k) × (x < y))

pub record Stars (g : Graph) (n m k y : ℕ) (claimed table : List ℕ) : Type 0 where
  pub groups : Grouping g n (read table)
  pub one : (x : ℕ) → x < m → Respects g n (read table) (x ∷ [])
  pub loose : (x : ℕ) → x < m → get_or claimed x 0 ≡ 0 → Keeps g (x ∷ [])
  -- one that is not claimed is no cut pair with an earlier one, of those tried
  pub free : (r x : ℕ) → r < x → x < m → get_or claimed x 0 ≡ 0 → Done k y r x → CutPair g r x → ⊥
  pub tied : (x : ℕ) → x < m → Edge g x → (get_or claimed x 0 ≡ 0 → ⊥) → Keeps g (x ∷ []) → Claim g n (read table) x

-- a turn: nothing happens where d has another label or is claimed; else the cut is tried, and d is claimed where it parts
pub data Turn (g : Graph) (n label e d : ℕ) (labels claimed₀ table₀ claimed table : List ℕ) : Type 0 where
  other : (get_or labels d 0 ≡ label → ⊥) → claimed ≡ claimed₀ → table ≡ table₀ → Turn g n label e d labels claimed₀ table₀ claimed table
  taken : (get_or claimed₀ d 0 ≡ 0 → ⊥) → claimed ≡ claimed₀ → table ≡ table₀ → Turn g n label e d labels claimed₀ table₀ claimed table
  tried : {r : Bool} → get_or claimed₀ d 0 ≡ 0 → claimed ≡ set claimed₀ d (cond r 1 0) → Attempt g n (e ∷ d ∷ []) d table₀ table r → Turn g n label e d labels claimed₀ table₀ claimed table

-- what the turns ask for: the tables of the plan, labels that cancel, room, and that what is not claimed is an edge of the graph
pub record Working (most : Limits) (p : Plan) (incident begins first labels claimed table : List ℕ) : Type 0 where
  pub tabled : Tabled most p incident begins
  pub first_room : p.vertices ≤ length first
  pub labels_room : length p.ends / 2 ≤ length labels
  pub balanced : Balanced (graph p) (read labels)
  pub claimed_room : length p.ends / 2 ≤ length claimed
  pub masking : Masking p (read claimed)
  pub table_room : p.vertices ≤ length table

-- what they leave: claims, and what lies behind the vertices' places of the table
pub record Worked (n : ℕ) (claimed₀ table₀ claimed table : List ℕ) : Type 0 where
  pub claimed_long : length claimed ≡ length claimed₀
  pub claims : (x : ℕ) → get_or claimed x 0 ≡ 0 → get_or claimed₀ x 0 ≡ 0
  pub kept : Kept n table₀ table
