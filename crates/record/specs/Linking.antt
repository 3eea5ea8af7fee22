-- What splitting a link and building a walk ask and leave behind.
use Rattle.std.specs.Prelude.{◌≡◌, ℕ, ◌+◌, ◌*◌, ◌/◌, ◌<◌, ◌≤◌, List, length, ◌≢◌, slice_set}
use mathlib.Core.List.{Memᴰ as In}
use Rattle.connectivity.specs.Plan.{Plan, plan, graph, Limits}
use Rattle.connectivity.specs.Graph.{Graph, Vertex}
use Rattle.connectivity.specs.Walk.{Leg, edges_of}
use Rattle.tree.specs.Tree.{Pointers, Climb}
use Rattle.tree.specs.Filed.{Marked, Grown, Noted, Belows}
use Rattle.tree.specs.Links.{Shelved, Links}
use Rattle.graph.specs.Marks.{read}
use Rattle.numbers.specs.Standing.{Rooted, tree_of}

-- the tips of a link stand side by side, each one more than its number: the top, then the bottom
abbrev pub top_of : List ℕ → ℕ → ℕ
top_of tips m = read tips (2 * m)

abbrev pub bottom_of : List ℕ → ℕ → ℕ
bottom_of tips m = read tips (2 * m + 1)

-- with those of the link m
abbrev pub with_tips : List ℕ → ℕ → ℕ → ℕ → List ℕ
with_tips tips m top bottom = slice_set (slice_set tips (2 * m) top) (2 * m + 1) bottom

-- the tables by vertex and by place are long enough
pub record Roomy (n : ℕ) (below places tips : List ℕ) : Type 0 where
  pub below_long : n ≤ length below
  pub places_long : n ≤ length places
  pub tips_long : 2 * (n + 2) ≤ length tips

-- the places of some vertices of the tree, the children noted below, and the links
pub record Filing (most : Limits) (p : Plan) (root : ℕ) (first : List ℕ) (rank : ℕ → ℕ) (below places tips : List ℕ) (next : ℕ) : Type 0 where
  pub rooted : Rooted most p root first rank
  pub shelved : Shelved (graph p) (tree_of p root first rank) (read places)
  pub belows : Belows (graph p) (tree_of p root first rank) (λ v. 1 ≤ read places v) (read places) (read below)
  pub links : Links (graph p) (tree_of p root first rank) (read places) (top_of tips) (bottom_of tips) next
  pub roomy : Roomy p.vertices below places tips

-- what `split` asks: v is built
pub record Splitting (most : Limits) (ends first below : List ℕ) (v next : ℕ) (places tips : List ℕ) : Type 0 where
  pub n : ℕ
  pub excluded : List ℕ
  pub root : ℕ
  pub rank : ℕ → ℕ
  pub filing : Filing most (plan n ends excluded) root first rank below places tips next
  pub vertex : Vertex (graph (plan n ends excluded)) v
  pub built : 1 ≤ read places v

-- v is a branch now, and the links are known again
pub record Parted (g : Graph) (t : Pointers) (v next : ℕ) (place : ℕ → ℕ) (place' top' bottom' : ℕ → ℕ) (next' : ℕ) : Type 0 where
  pub marked : Marked g t (λ y. place y ≡ 1) place place' v
  pub links : Links g t place' top' bottom' next'
  -- a place that had no vertex stays without
  pub gone : (m : ℕ) → 2 ≤ m → m < next → ((y : ℕ) → place y ≢ m) → (y : ℕ) → place' y ≢ m

abbrev pub PartedBy : Limits → List ℕ → List ℕ → List ℕ → ℕ → ℕ → List ℕ → List ℕ → List ℕ → List ℕ → ℕ → Type 0
PartedBy most ends first below v next places tips places' tips' r =
    (length places' ≡ length places) × (length tips' ≡ length tips)
    × ((c : Splitting most ends first below v next places tips)
    → Parted (graph (plan c.n ends c.excluded)) (tree_of (plan c.n ends c.excluded) c.root first c.rank) v next (read places) (read places') (top_of tips') (bottom_of tips') r × (next ≤ r))

-- two vertices have become branches, one after the other
pub record BothParted (g : Graph) (t : Pointers) (v w next : ℕ) (place place' top' bottom' : ℕ → ℕ) (next' : ℕ) : Type 0 where
  pub middle : ℕ → ℕ
  pub marked_one : Marked g t (λ y. place y ≡ 1) place middle v
  pub marked_two : Marked g t (λ y. middle y ≡ 1) middle place' w
  pub links : Links g t place' top' bottom' next'
  pub more : next ≤ next'
  pub gone : (m : ℕ) → 2 ≤ m → m < next → ((y : ℕ) → place y ≢ m) → (y : ℕ) → place' y ≢ m

-- what `split_both` asks: both are built
pub record Ending (most : Limits) (ends first below : List ℕ) (v w next : ℕ) (places tips : List ℕ) : Type 0 where
  pub splitting : Splitting most ends first below v next places tips
  pub vertex : Vertex (graph (plan splitting.n ends splitting.excluded)) w
  pub built : 1 ≤ read places w

abbrev pub BothBy : Limits → List ℕ → List ℕ → List ℕ → ℕ → ℕ → ℕ → List ℕ → List ℕ → List ℕ → List ℕ → ℕ → Type 0
BothBy most ends first below v w next places tips places' tips' r =
    (length places' ≡ length places) × (length tips' ≡ length tips)
    × ((c : Ending most ends first below v w next places tips)
    → BothParted (graph (plan c.splitting.n ends c.splitting.excluded)) (tree_of (plan c.splitting.n ends c.splitting.excluded) c.splitting.root first c.splitting.rank) v w next (read places) (read places') (top_of tips') (bottom_of tips') r)

-- what `build_walk` asks: an edge, and a climb from v to the branch `stop`
pub record Building (most : Limits) (ends first : List ℕ) (e v stop next : ℕ) (places below tips over : List ℕ) : Type 0 where
  pub n : ℕ
  pub excluded : List ℕ
  pub root : ℕ
  pub rank : ℕ → ℕ
  pub filing : Filing most (plan n ends excluded) root first rank below places tips next
  pub legs : List Leg
  pub climb : Climb (graph (plan n ends excluded)) (tree_of (plan n ends excluded) root first rank) (λ y. 1 ≤ read places y) v legs stop
  pub branch : read places stop ≡ 1
  pub from : v < n
  pub to : stop < n
  pub edge : e < length ends / 2
  pub over_long : length ends / 2 ≤ length over

-- what the climb leaves has the place `next`, is noted below its parents, and its edges and e stand as built
pub record Walked (g : Graph) (t : Pointers) (e : ℕ) (legs : List Leg) (next : ℕ) (place below over place' below' top' bottom' over' : ℕ → ℕ) (next' : ℕ) : Type 0 where
  pub grown : Grown place place' legs next
  pub noted : Noted t below below' legs
  pub links : Links g t place' top' bottom' next'
  pub over_edge : over' e ≡ 0
  pub over_on : (d : ℕ) → In d (edges_of legs) → over' d ≡ 0
  pub over_off : (d : ℕ) → (d ≢ e) → (In d (edges_of legs) → ⊥) → over' d ≡ over d

abbrev pub WalkedBy : Limits → List ℕ → List ℕ → ℕ → ℕ → ℕ → ℕ → List ℕ → List ℕ → List ℕ → List ℕ → List ℕ → List ℕ → List ℕ → List ℕ → ℕ → Type 0
WalkedBy most ends first e v stop next places below tips over places' below' tips' over' r =
    (length places' ≡ length places) × (length below' ≡ length below) × (length tips' ≡ length tips) × (length over' ≡ length over)
    × ((c : Building most ends first e v stop next places below tips over)
    → Walked (graph (plan c.n ends c.excluded)) (tree_of (plan c.n ends c.excluded) c.root first c.rank) e c.legs next
    (read places) (read below) (read over) (read places') (read below') (top_of tips') (bottom_of tips') (read over') r × (next ≤ r))
