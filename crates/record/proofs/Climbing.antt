-- A climb of the tree is a way up in the tables.
use Rattle.std.proofs.Common.{◌≡◌, ℕ, ◌+◌, ◌<◌, ◌≤◌, List, length, arith}
use Rattle.connectivity.specs.Plan.{Plan, graph, Limits}
use Rattle.connectivity.specs.Walk.{Leg}
use Rattle.connectivity.proofs.Kept.{vertex_size}
use Rattle.tree.specs.Tree.{Child, Climb, there, on}
use Rattle.tree.proofs.Above.{climb_once, climb_new, climb_end}
use Rattle.graph.specs.Marks.{read}
use Rattle.graph.proofs.Joined.{joins_below, joins_edge}
use Rattle.numbers.specs.Standing.{Rooted, tree_of}
use Rattle.numbers.proofs.Marking.{far-same}
use Rattle.record.specs.Ways.{Way, Path, there as path-there, up, Rises, next_up}

module _ {most : Limits} {p : Plan} {root : ℕ} {first : List ℕ} {rank : ℕ → ℕ} (r : Rooted most p root first rank) where
  -- the parent, as the code has it
  pub parent_is : {v : ℕ} → Child (graph p) (tree_of p root first rank) v → (tree_of p root first rank).parent v ≡ next_up p.ends first v
  parent_is {v} c = far-same p _ v

  pub child_rises : {v : ℕ} → Child (graph p) (tree_of p root first rank) v → Rises p.ends first v
  child_rises {v} c = record {
    long = omega (arith, vertex_size p c.vertex, r.long);
    seen = r.marked v c;
    edge = joins_edge p (r.tree.joins v c);
  }

  pub climb_path : {S : ℕ → Type 0} {v w : ℕ} {legs : List Leg} → Climb (graph p) (tree_of p root first rank) S v legs w → Path (graph p) (read first) v legs w
  climb_path (there s) = path-there
  climb_path (on {v = v} c m k) = up (r.marked v c) (r.tree.joins v c) (climb_path k)

  -- ranks fall along a climb
  climb_ranks : {S : ℕ → Type 0} {v w : ℕ} {legs : List Leg} → Climb (graph p) (tree_of p root first rank) S v legs w → length legs + rank w ≤ rank v
  climb_ranks (there s) = omega arith
  climb_ranks (on {v = v} c m k) = omega (arith, r.tree.falls v c, climb_ranks k)

  climb_ranked : {S : ℕ → Type 0} {v w : ℕ} {legs : List Leg} → Climb (graph p) (tree_of p root first rank) S v legs w → length legs ≤ p.vertices
  climb_ranked (there s) = omega arith
  climb_ranked (on {v = v} c m k) = omega (arith, r.tree.falls v c, climb_ranks k, r.few v c.vertex)

  pub climb_short : {S : ℕ → Type 0} {v w : ℕ} {legs : List Leg} → Climb (graph p) (tree_of p root first rank) S v legs w → v < p.vertices → length legs ≤ most.vertices
  climb_short k h = omega (arith, climb_ranked k, r.admitted.vertices)

  pub climb_to_below : {S : ℕ → Type 0} {v w : ℕ} {legs : List Leg} → Climb (graph p) (tree_of p root first rank) S v legs w → v < p.vertices → w < p.vertices
  climb_to_below (there s) h = h
  climb_to_below (on {v = v} c m k) h = climb_to_below k (joins_below p (r.tree.joins v c))

  abbrev pub climb_way : {S : ℕ → Type 0} {v w : ℕ} {legs : List Leg} → Climb (graph p) (tree_of p root first rank) S v legs w → v < p.vertices → Way most p.ends first v w
  climb_way {legs = legs} k h = record {
    n = p.vertices;
    excluded = p.excluded;
    admitted = r.admitted;
    long = r.long;
    to = climb_to_below k h;
    legs = legs;
    path = climb_path k;
    once = climb_once r.tree k;
    apart = λ i. climb_new k i (climb_end k);
    short = climb_short k h;
  }
