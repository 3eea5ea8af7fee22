-- What a try of some edges asks of the tables, and what it leaves of them.
use Rattle.std.specs.Prelude.{◌≡◌, ◌⊎◌, cond, eqb, ℕ, ◌+◌, ◌*◌, ◌/◌, ◌≤◌, ◌<◌, length, get_or, replicate}
use mathlib.Core.List.{List, Memᴰ as In}
use Rattle.connectivity.specs.Plan.{Plan, graph, Limits}
use Rattle.connectivity.specs.Graph.{Edge}
use Rattle.connectivity.proofs.CutOff.{Lowest}
use Rattle.graph.specs.Marks.{read}
use Rattle.graph.specs.declared.Answer.{Answer}
use Rattle.incidence.specs.Tables.{Tabled}
use Rattle.depth.specs.Depth.{Crossing, Found, Masking}
use Rattle.depth.specs.Forest.{Appended}
use Rattle.labels.specs.Answered.{Labelled}

-- the tables of a plan, room for a search, no live edge at an excluded vertex, and no vertex marked
pub record Tables (most : Limits) (p : Plan) (incident begins dead marks order cursor : List ℕ) : Type 0 where
  pub tabled : Tabled most p incident begins
  pub dead_room : length p.ends / 2 ≤ length dead
  pub masking : Masking p (read dead)
  pub marks_room : p.vertices ≤ length marks
  pub order_room : p.vertices ≤ length order
  pub cursor_room : p.vertices ≤ length cursor
  pub fresh : (v : ℕ) → v < p.vertices → get_or marks v 0 ≡ 0

-- and no edge of the graph marked; and a place for the first edge of each vertex
pub record Ready (most : Limits) (p : Plan) (incident begins first dead marks order cursor : List ℕ) : Type 0 where
  pub tables : Tables most p incident begins dead marks order cursor
  pub live : (e : ℕ) → Edge (graph p) e → get_or dead e 0 ≡ 0
  pub first_room : p.vertices ≤ length first

-- no edge of the graph marked, and no vertex in a second table of marks; room for labels, and for a second order
pub record Spaces (p : Plan) (dead labels marks other : List ℕ) : Type 0 where
  pub live : (e : ℕ) → Edge (graph p) e → get_or dead e 0 ≡ 0
  pub labels_room : length p.ends / 2 ≤ length labels
  pub marks_room : p.vertices ≤ length marks
  pub fresh : (v : ℕ) → v < p.vertices → get_or marks v 0 ≡ 0
  pub other_room : p.vertices ≤ length other

-- what a search from the lowest vertex has left, which has seen `count`; the excluded vertices stand behind these, each as a root
pub record SearchedBy (p : Plan) (incident begins dead first₀ order₀ cursor₀ first order cursor : List ℕ) (count : ℕ) : Type 0 where
  pub root : ℕ
  pub lowest : Lowest (graph p) root
  pub first₁ : List ℕ
  pub order₁ : List ℕ
  pub found : Found (Crossing p incident begins dead) p.vertices root 0 first₀ order₀ cursor₀ first₁ order₁ cursor count
  pub appended : Appended p.excluded count first₁ order₁ first order

-- but for its cursors
pub record Searched (p : Plan) (incident begins dead first₀ order₀ cursor₀ first order : List ℕ) : Type 0 where
  pub count : ℕ
  pub cursor : List ℕ
  pub by : SearchedBy p incident begins dead first₀ order₀ cursor₀ first order cursor count

-- `append`: the excluded vertices have marks, and there are places for them behind the first `count`
pub record Appending (excluded : List ℕ) (count : ℕ) (first order : List ℕ) : Type 0 where
  pub inside : (v : ℕ) → In v excluded → v < length first
  pub room : count + length excluded ≤ length order

-- the labels, made with sums that were 0
pub record LabelledBy (most : Limits) (p : Plan) (first order labels₀ labels : List ℕ) : Type 0 where
  pub sums : List ℕ
  pub answer : Answer
  pub labelled : Labelled most p first order labels₀ (replicate most.vertices 0) labels sums answer

-- a try leaves the marks as they were
pub record Restored (dead₀ marks₀ order₀ cursor₀ dead marks order cursor : List ℕ) : Type 0 where
  pub dead_same : dead ≡ dead₀
  pub marks_same : marks ≡ marks₀
  pub order_long : length order ≡ length order₀
  pub cursor_long : length cursor ≡ length cursor₀

-- r is an end of e
abbrev pub EndOf : List ℕ → ℕ → ℕ → Type 0
EndOf ends e r = (r ≡ get_or ends (2 * e) 0) ⊎ (r ≡ get_or ends (2 * e + 1) 0)

-- the end of e of which it is the first edge, if there is one; else the second
abbrev pub lower_end : List ℕ → List ℕ → ℕ → ℕ
lower_end ends first e = cond (eqb (get_or first (get_or ends (2 * e) 0) 0) (e + 1)) (get_or ends (2 * e) 0) (get_or ends (2 * e + 1) 0)
