-- The state between two steps along the tree, without a table: the steps so far, the places of what is built, and the children noted below.
use Rattle.std.specs.Prelude.{List, ℕ}
use Rattle.connectivity.specs.Lists.{Distinct}
use Rattle.connectivity.specs.Graph.{Graph}
use Rattle.connectivity.specs.Walk.{Leg, all_edges, Built, Branch}
use Rattle.connectivity.specs.Mader.{Steps}
use Rattle.tree.specs.Tree.{Pointers, Held}
use Rattle.tree.specs.Filed.{Filed, Belows}

-- the steps so far, over different edges, and held along the tree
pub record Along (g : Graph) (t : Pointers) (walks : List (List Leg)) : Type 0 where
  pub steps : Steps g walks
  pub once : Distinct (all_edges walks)
  pub held : Held g t (all_edges walks)

-- the places of what is built
abbrev pub Places : Graph → Pointers → List ℕ → (ℕ → ℕ) → Type 0
Places g t built place = Filed g t (λ v. Built g built v) (λ v. Branch g built v) place

pub record State (g : Graph) (t : Pointers) (walks : List (List Leg)) (place below : ℕ → ℕ) : Type 0 where
  pub along : Along g t walks
  pub filed : Places g t (all_edges walks) place
  pub belows : Belows g t (λ v. Built g (all_edges walks) v) place below
