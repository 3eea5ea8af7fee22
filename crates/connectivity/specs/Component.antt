-- Which vertices hold together, and the groups that they make: the graph's 3-edge-connected components.
use Rattle.std.specs.Prelude.{◌≡◌, Bool, not, cond, ◌&&◌, List, [], ◌∷◌, map, ℕ, ◌≤◌, length, get_or}
use Rattle.connectivity.specs.Lists.{range, all, keep, mem}
use Rattle.connectivity.specs.Graph.{Graph, Vertex, is_vertex, vertices, edges}
use Rattle.connectivity.specs.Reach.{Reach, Without}
use Rattle.connectivity.specs.Cut.{unreached}

-- What is declared.

-- 02: two pieces hold together: no loss of two or fewer tabs parts them
abbrev pub Together : Graph → ℕ → ℕ → Type 0
Together g u v = (cut : List ℕ) → length cut ≤ 2 → Reach g (Without cut) u v

-- 02: the lowest numbered piece of a piece's group: u is the lowest vertex that holds together with v
pub record Component (g : Graph) (v u : ℕ) : Type 0 where
  pub vertex : Vertex g u
  pub together : Together g u v
  pub lowest : (w : ℕ) → Vertex g w → Together g w v → u ≤ w

-- How it is found.

-- the loss of the edges of `cut` leaves u joined to v
unfoldable pub joined : Graph → List ℕ → ℕ → ℕ → Bool
joined g cut u v = not (mem v (unreached g (λ e. not (mem e cut)) u))

-- after no loss, and after that of any two edges; where these are the same, of one
unfoldable pub together : Graph → ℕ → ℕ → Bool
together g u v = joined g [] u v && all (λ e. all (λ d. joined g (e ∷ d ∷ []) u v) (edges g)) (edges g)

-- the lowest vertex that holds together with v; a number that is no vertex is its own
unfoldable pub component_of : Graph → ℕ → ℕ
component_of g v = cond (is_vertex g v) (get_or (keep (λ u. together g u v) (vertices g)) 0 v) v

-- 02: the table: for every piece the lowest numbered piece of its group
unfoldable pub components : Graph → List ℕ
components g = map (component_of g) (range 0 g.bound)

-- 02: there is one group
abbrev pub OneComponent : Graph → Type 0
OneComponent g = (u v : ℕ) → Vertex g u → Vertex g v → component_of g u ≡ component_of g v
