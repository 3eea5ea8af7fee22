-- What making the tables of the tree asks.
use Rattle.std.specs.Prelude.{◌≡◌, ℕ, ◌<◌, ◌≤◌, List, [], length}
use Rattle.connectivity.specs.Plan.{Plan, plan, graph, Limits}
use Rattle.connectivity.specs.Graph.{Vertex}
use Rattle.connectivity.specs.Reach.{ThreeEdgeConnected}
use Rattle.connectivity.specs.Admission.{kept_vertices, kept_edges}
use Rattle.graph.specs.Marks.{read}
use Rattle.incidence.specs.Tables.{Tabled}
use Rattle.depth.specs.Depth.{Crossing, Found, Cutting}
use Rattle.depth.specs.Forest.{Appended}
use Rattle.record.specs.Standing.{Grouped}
use Rattle.record.specs.Recording.{Sturdy, Recorded}

-- the tables by vertex, and a search over them that has seen all that is kept, with the excluded vertices behind it
pub record Searched (most : Limits) (p : Plan) (incident begins first order : List ℕ) : Type 0 where
  pub three : ThreeEdgeConnected (graph p)
  pub grouped : Grouped p incident begins
  -- the table before its end was set
  pub begins₀ : List ℕ
  pub tabled : Tabled most p incident begins₀
  pub dead : List ℕ
  pub cutting : Cutting p [] (read dead)
  pub first₀ : List ℕ
  pub clear : (v : ℕ) → v < p.vertices → read first₀ v ≡ 0
  pub order₀ : List ℕ
  pub cursor₀ : List ℕ
  pub cursor : List ℕ
  pub root : ℕ
  pub start : Vertex (graph p) root
  pub first₁ : List ℕ
  pub order₁ : List ℕ
  pub count : ℕ
  pub found : Found (Crossing p incident begins₀ dead) p.vertices root 0 first₀ order₀ cursor₀ first₁ order₁ cursor count
  pub whole : kept_vertices p ≤ count
  pub appended : Appended p.excluded count first₁ order₁ first order
  pub first_long : p.vertices ≤ length first
  pub order_long : p.vertices ≤ length order

-- what `build_record` asks: no cut, room for the rows, how many edges there are, and that search
pub record Prepared (most : Limits) (n : ℕ) (ends : List ℕ) (edges : ℕ) (incident begins first order : List ℕ) (room : ℕ) : Type 0 where
  pub excluded : List ℕ
  pub sturdy : Sturdy most (plan n ends excluded) room
  pub all : edges ≡ kept_edges (plan n ends excluded)
  pub searched : Searched most (plan n ends excluded) incident begins first order

abbrev pub RecordedBy : Limits → ℕ → List ℕ → ℕ → List ℕ → List ℕ → List ℕ → List ℕ → List ℕ → List ℕ → Type 0
RecordedBy most n ends edges incident begins first order before after =
    (c : Prepared most n ends edges incident begins first order (length before)) → Recorded (plan n ends c.excluded) before after
