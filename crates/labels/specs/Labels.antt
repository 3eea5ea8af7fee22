-- How labels are made: the sums of the labels on the way, and the steps that change both.
use Rattle.std.specs.Prelude.{◌≡◌, ◌↔◌, List, ℕ, ◌+◌, ◌*◌, ◌/◌, ◌≤◌, ◌<◌, length, get_or, set}
use Rattle.std.specs.Int.Bits.{bit_xor}
use Rattle.connectivity.specs.Plan.{Plan, graph}
use Rattle.connectivity.specs.Graph.{Edge, edges}
use Rattle.graph.specs.Marks.{read}
use Rattle.incidence.specs.Parts.{Kept}
use Rattle.labels.specs.Label.{around}
use Rattle.labels.specs.Answered.{ForestOf}

-- `is_tight`: tables of these lengths have a mark, a place in the order and a sum for each of n vertices, and a label for each of m edges
pub record Room (n m first order labels sums : ℕ) : Type 0 where
  pub marks : n ≤ first
  pub places : n ≤ order
  pub edges : m ≤ labels
  pub vertices : n ≤ sums

-- `is_short`: tables of these lengths have two places for each edge in `incident`, one in `dead`, and one for each vertex in `begins` and
-- `cursor`; and that room
pub record Ample (n m incident begins dead first order cursor labels sums : ℕ) : Type 0 where
  pub groups : 2 * m ≤ incident
  pub beginnings : n ≤ begins
  pub edge_marks : m ≤ dead
  pub cursors : n ≤ cursor
  pub room : Room n m first order labels sums

-- x xored into place i
abbrev pub xor_at : List ℕ → ℕ → ℕ → List ℕ
xor_at l i x = set l i (bit_xor (get_or l i 0) x)

-- there is a label for each edge, 0 for one that is not the graph's, and a sum for each vertex: that of the labels around it
pub record Summed (p : Plan) (labels sums : List ℕ) : Type 0 where
  pub labels_room : length p.ends / 2 ≤ length labels
  pub sums_room : p.vertices ≤ length sums
  pub outside : (e : ℕ) → e < length p.ends / 2 → (Edge (graph p) e → ⊥) → get_or labels e 0 ≡ 0
  pub sum : (v : ℕ) → v < p.vertices → get_or sums v 0 ≡ around (graph p) (read labels) v (edges (graph p))

-- e has a place among the labels, and its ends among the sums
pub record Ready (ends : List ℕ) (e : ℕ) (labels sums : List ℕ) : Type 0 where
  pub edge : e < length ends / 2
  pub label : e < length labels
  pub left : get_or ends (2 * e) 0 < length sums
  pub right : get_or ends (2 * e + 1) 0 < length sums

-- `toggle`: x has been xored into the label of e and into the sums of its ends
pub record Toggled (ends : List ℕ) (e x : ℕ) (labels₀ sums₀ labels sums : List ℕ) : Type 0 where
  pub labels_now : labels ≡ xor_at labels₀ e x
  pub sums_now : sums ≡ xor_at (xor_at sums₀ (get_or ends (2 * e) 0) x) (get_or ends (2 * e + 1) 0) x

-- a mark for each edge, 0 exactly where it is one of the graph
pub record Masks (p : Plan) (dead : List ℕ) : Type 0 where
  pub room : length p.ends / 2 ≤ length dead
  pub kept : (e : ℕ) → e < length p.ends / 2 → (get_or dead e 0 ≡ 0) ↔ Edge (graph p) e

-- `noise`: no number where there is a mark
abbrev pub Silent : ℕ → ℕ → Type 0
Silent mark x = (mark ≡ 0 → ⊥) → x ≡ 0

-- `is_open`: e is one of m edges, and has no mark
abbrev pub OpenAt : ℕ → List ℕ → ℕ → Type 0
OpenAt m dead e = (e < m) × (get_or dead e 0 ≡ 0)

-- v is below the count, and its mark names e, an edge of the graph
pub record FirstEdge (p : Plan) (first : List ℕ) (v e : ℕ) : Type 0 where
  pub below : v < p.vertices
  pub edge : Edge (graph p) e
  pub mark : get_or first v 0 ≡ e + 1

-- stands for no edge
abbrev pub no_edge : ℕ
no_edge = 65535

-- `first_edge`: one less than the mark of v, or `no_edge`
pub record Named (n : ℕ) (first : List ℕ) (v r : ℕ) : Type 0 where
  pub found : r < no_edge → (v < n) × (get_or first v 0 ≡ r + 1)
  pub only : (e : ℕ) → v < n → get_or first v 0 ≡ e + 1 → r ≡ e

-- `settle_one`: the sum of v has been xored into the label of its first edge, if it has one
module _ (p : Plan) (first : List ℕ) (v : ℕ) (labels₀ sums₀ labels sums : List ℕ) where
  pub data Settled : Type 0 where
    by : (e : ℕ) → FirstEdge p first v e → Toggled p.ends e (get_or sums₀ v 0) labels₀ sums₀ labels sums → Settled
    passed : ((e : ℕ) → FirstEdge p first v e → ⊥) → labels ≡ labels₀ → sums ≡ sums₀ → Settled

-- `scatter`: the sums are those of the labels, and what lies behind the edges' and the vertices' places has stayed
pub record Scattered (p : Plan) (labels₀ sums₀ labels sums : List ℕ) : Type 0 where
  pub summed : Summed p labels sums
  pub labels_kept : Kept (length p.ends / 2) labels₀ labels
  pub sums_kept : Kept p.vertices sums₀ sums

-- `settle`: so they stay, and along a spanning forest the vertices at the places from k on have the sum 0
pub record Settling (p : Plan) (first order labels₀ sums₀ labels sums : List ℕ) (k : ℕ) : Type 0 where
  pub low : k ≤ p.vertices
  pub scattered : Scattered p labels₀ sums₀ labels sums
  pub done : ForestOf p first order → (j : ℕ) → k ≤ j → j < p.vertices → get_or sums (get_or order j 0) 0 ≡ 0
