-- Cut pairs, and the lowest edge that an edge is a cut pair with.
use Rattle.std.specs.Prelude.{◌≡◌, ◌⊎◌, [], ◌∷◌, ℕ, ◌≤◌}
use Rattle.connectivity.specs.Graph.{Graph, Edge}
use Rattle.labels.specs.Label.{Keeps}

-- 01: document 001's cut-pair, but in a graph that may be in several bodies: neither edge parts anything alone, both together do
pub record CutPair (g : Graph) (e d : ℕ) : Type 0 where
  pub one : Edge g e
  pub other : Edge g d
  pub without_one : Keeps g (e ∷ [])
  pub without_other : Keeps g (d ∷ [])
  pub parts : Keeps g (e ∷ d ∷ []) → ⊥

-- r is the lowest edge that e is a cut pair with, or e where none is lower
pub record LowestPair (g : Graph) (e r : ℕ) : Type 0 where
  pub pair : (r ≡ e) ⊎ CutPair g r e
  pub own : r ≤ e
  pub lowest : (d : ℕ) → CutPair g d e → r ≤ d
