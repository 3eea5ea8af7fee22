-- Pieces and groups as one list of numbers, before they are text.
use Rattle.std.specs.Prelude.{◌≡◌, not, cond, List, [], ◌∷◌, ℕ, ◌*◌, eqb, length, get_or}
use Rattle.std.proofs.lemmas.List.Edits.{sets}
use Rattle.connectivity.specs.Lists.{range, keep, mem}
use Rattle.connectivity.specs.Graph.{Graph, vertices}
use Rattle.connectivity.specs.Component.{component_of}

-- each number, and behind it what it is given
unfoldable pub pairs : (ℕ → ℕ) → List ℕ → List ℕ
pairs f [] = []
pairs f (v ∷ rest) = v ∷ (f v ∷ pairs f rest)

-- each vertex and its group
unfoldable pub group_pairs : Graph → List ℕ
group_pairs g = pairs (component_of g) (vertices g)

-- As the code goes over them.

-- one pair, unless the number has a mark
unfoldable pub pair_unless : ℕ → ℕ → ℕ → List ℕ
pair_unless mark v x = cond (eqb mark 0) (v ∷ (x ∷ [])) []

-- the numbers below n that a list does not have
unfoldable pub others : ℕ → List ℕ → List ℕ
others n list = keep (λ v. not (mem v list)) (range 0 n)

-- the list after it was filled with some numbers and what a table has for each, and how many places that took
pub record Paired (table vs before after : List ℕ) (size : ℕ) : Type 0 where
  pub count : size ≡ 2 * length vs
  pub list : after ≡ sets before 0 (pairs (λ v. get_or table v 0) vs)
