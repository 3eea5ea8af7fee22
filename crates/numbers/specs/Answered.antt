-- What is answered to a plan, to marks and an order and to the tables lent beside them, and what these then hold.
use Rattle.std.specs.Prelude.{◌≡◌, Bool, ◌&&◌, List, ℕ, ◌-◌, ◌/◌, leb, length}
use Rattle.connectivity.specs.Plan.{Plan, Limits}
use Rattle.graph.specs.declared.Answer.{Answer}
use Rattle.graph.specs.Admission.{told_by, lent}
use Rattle.incidence.specs.Parts.{Cleared}
use Rattle.numbers.specs.Tables.{numbers_to, owns_to, lasts_down, overs_down}

-- there is a mark, a place in the order, a number and a last number for each vertex, and a place in `over` for each edge
abbrev pub fits : Plan → List ℕ → List ℕ → List ℕ → List ℕ → List ℕ → Bool
fits p first order number last over =
    leb p.vertices (length first)
    && (leb p.vertices (length order) && (leb p.vertices (length number) && (leb p.vertices (length last) && leb (length p.ends / 2) (length over))))

-- the tables: first the numbers, in `last` too; then the edges, in `over` where nothing stands; then the vertices, from the last of the order to the second
pub record Filled (p : Plan) (first order number₀ last₀ over₀ number last over : List ℕ) : Type 0 where
  pub numbers : number ≡ numbers_to p.vertices order number₀ p.vertices
  pub lasts : last ≡ lasts_down p.vertices p.ends first order (numbers_to p.vertices order last₀ p.vertices) (p.vertices - 1)
  pub blank : List ℕ
  pub cleared : Cleared (length p.ends / 2) over₀ blank
  pub overs : over ≡ overs_down p.vertices p.ends first order number (owns_to p.vertices p.ends first number blank (length p.ends / 2)) (p.vertices - 1)

-- the whole answer
pub record Looked (most : Limits) (p : Plan) (first order number₀ last₀ over₀ number last over : List ℕ) (r : Answer) : Type 0 where
  -- 01: the plan's own refusals, then 6 where a lent table is too short, else 0
  pub answer : r ≡ told_by (lent most p (fits p first order number₀ last₀ over₀))
  pub filled : r.number ≡ 0 → Filled p first order number₀ last₀ over₀ number last over
  -- refused: all of it stays
  pub unchanged : (r.number ≡ 0 → ⊥) → (number ≡ number₀) × (last ≡ last₀) × (over ≡ over₀)
