-- What is answered to a plan and the space lent for its labels, and what this space then holds.
use Rattle.std.specs.Prelude.{◌≡◌, Bool, cond, ◌&&◌, List, map, ℕ, ◌*◌, ◌/◌, ◌<◌, leb, length, get_or, replicate}
use Rattle.connectivity.specs.Lists.{range}
use Rattle.connectivity.specs.Plan.{Plan, graph, listed, Limits}
use Rattle.connectivity.specs.Graph.{Graph, Edge, is_edge, edges}
use Rattle.graph.specs.declared.Answer.{Answer}
use Rattle.graph.specs.Admission.{told_by, lent}
use Rattle.graph.specs.Marks.{read}
use Rattle.incidence.specs.Tables.{incident_table, begins_table, Front}
use Rattle.incidence.specs.Parts.{Kept}
use Rattle.depth.specs.Forest.{Forest, RootsLow}
use Rattle.labels.specs.Label.{around, Balanced}

-- marks and an order that are a spanning forest of the plan's graph; an excluded vertex is a tree of its own
abbrev pub ForestOf : Plan → List ℕ → List ℕ → Type 0
ForestOf p first order = Forest (graph p) p.vertices (read first) (read order)

-- Labels along a forest that is lent.

-- there is a mark, a place in the order and a sum for each vertex, and a label for each edge
abbrev pub fits : Plan → List ℕ → List ℕ → List ℕ → List ℕ → Bool
fits p first order labels sums =
    leb p.vertices (length first) && (leb p.vertices (length order) && (leb (length p.ends / 2) (length labels) && leb p.vertices (length sums)))

-- the whole answer of `balance`
pub record Labelled (most : Limits) (p : Plan) (first order labels₀ sums₀ labels sums : List ℕ) (r : Answer) : Type 0 where
  -- 01: the plan's own refusals, then 6 where a lent table is too short, else 0
  pub answer : r ≡ told_by (lent most p (fits p first order labels₀ sums₀))
  -- served: the sum of each vertex is that of the labels around it
  pub sum : r.number ≡ 0 → (v : ℕ) → v < p.vertices → get_or sums v 0 ≡ around (graph p) (read labels) v (edges (graph p))
  -- and it is 0 if the marks and the order are a spanning forest
  pub balanced : r.number ≡ 0 → ForestOf p first order → Balanced (graph p) (read labels)
  -- the label of an edge that ends at an excluded vertex is 0
  pub outside : r.number ≡ 0 → (e : ℕ) → e < length p.ends / 2 → (Edge (graph p) e → ⊥) → get_or labels e 0 ≡ 0
  -- what lies behind the edges' and the vertices' places stays
  pub labels_kept : Kept (length p.ends / 2) labels₀ labels
  pub sums_kept : Kept p.vertices sums₀ sums
  -- refused: all of it stays
  pub unchanged : (r.number ≡ 0 → ⊥) → (labels ≡ labels₀) × (sums ≡ sums₀)

-- Labels of a plan alone.

-- the tables that are lent for that
pub record Tables : Type 0 where
  pub incident : List ℕ
  pub begins : List ℕ
  pub dead : List ℕ
  pub first : List ℕ
  pub order : List ℕ
  pub cursor : List ℕ
  pub labels : List ℕ
  pub sums : List ℕ

-- these, one after the other
abbrev pub tables : List ℕ → List ℕ → List ℕ → List ℕ → List ℕ → List ℕ → List ℕ → List ℕ → Tables
tables incident begins dead first order cursor labels sums = record {
  incident = incident;
  begins = begins;
  dead = dead;
  first = first;
  order = order;
  cursor = cursor;
  labels = labels;
  sums = sums;
}

-- there are two places in `incident` and one in `dead` for each edge, and one in `begins` and `cursor` for each vertex; and room for labels
-- along a forest
abbrev pub enough : Plan → Tables → Bool
enough p t =
    leb (2 * (length p.ends / 2)) (length t.incident)
    && (leb p.vertices (length t.begins)
    && (leb (length p.ends / 2) (length t.dead) && (leb p.vertices (length t.cursor) && fits p t.first t.order t.labels t.sums)))

-- a mark for each entry of the table of ends: 0 for an edge of the graph, 1 for one that ends at an excluded vertex
unfoldable pub mask_table : Graph → List ℕ
mask_table g = map (λ e. cond (is_edge g e) 0 1) (range 0 g.size)

-- the tables by vertex, of all that is listed, stand at the fronts, and the marks of the edges
pub record Laid (p : Plan) (incident₀ begins₀ dead₀ incident begins dead : List ℕ) : Type 0 where
  pub incident_front : Front (incident_table (listed p)) incident₀ incident
  pub begins_front : Front (begins_table (listed p)) begins₀ begins
  pub dead_front : Front (mask_table (graph p)) dead₀ dead

-- marks and order are a spanning forest, each root lower than what stands behind it, and no cursor is left; what lies behind the vertices' places
-- stays
pub record Spanned (p : Plan) (first₀ order₀ cursor₀ first order cursor : List ℕ) : Type 0 where
  pub forest : ForestOf p first order
  pub low : RootsLow p.vertices (read first) (read order)
  pub first_kept : Kept p.vertices first₀ first
  pub order_kept : Kept p.vertices order₀ order
  pub cursor_front : Front (replicate p.vertices 0) cursor₀ cursor

-- around every vertex the labels of its edges xor to 0, and the label of an edge that ends at an excluded one is 0; what lies behind the edges'
-- and the vertices' places stays
pub record Cancelled (p : Plan) (labels₀ sums₀ labels sums : List ℕ) : Type 0 where
  pub outside : (e : ℕ) → e < length p.ends / 2 → (Edge (graph p) e → ⊥) → get_or labels e 0 ≡ 0
  pub balanced : Balanced (graph p) (read labels)
  pub labels_kept : Kept (length p.ends / 2) labels₀ labels
  pub sums_front : Front (replicate p.vertices 0) sums₀ sums

-- the whole answer of `label`
pub record Answered (most : Limits) (p : Plan) (before after : Tables) (r : Answer) : Type 0 where
  -- 01: the plan's own refusals, then 6 where a lent table is too short, else 0
  pub answer : r ≡ told_by (lent most p (enough p before))
  -- served
  pub laid : r.number ≡ 0 → Laid p before.incident before.begins before.dead after.incident after.begins after.dead
  pub spanned : r.number ≡ 0 → Spanned p before.first before.order before.cursor after.first after.order after.cursor
  pub cancelled : r.number ≡ 0 → Cancelled p before.labels before.sums after.labels after.sums
  -- refused: all of it stays
  pub unchanged : (r.number ≡ 0 → ⊥) → after ≡ before
