-- What the parts of the check of a weak verdict answer.
use Rattle.std.specs.Prelude.{◌≡◌, Bool, not, ◌||◌, List, ℕ, ◌+◌, ◌*◌, ◌/◌, leb, length, get_or}
use Rattle.connectivity.specs.Lists.{mem}
use Rattle.connectivity.specs.Graph.{Graph, is_edge}
use Rattle.connectivity.specs.Judge.{ascending}
use Rattle.graph.specs.declared.Answer.{Answer}
use Rattle.graph.specs.Admission.{told_by}

-- `is_missing`: e is behind the table of ends, or one of its ends is excluded
unfoldable pub is_missing : List ℕ → List ℕ → ℕ → Bool
is_missing ends excluded e = leb (length ends / 2) e || (mem (get_or ends (2 * e) 0) excluded || mem (get_or ends (2 * e + 1) 0) excluded)

-- `rises`: 11 in turn, for every graph whose edges are the other ones
abbrev pub InTurn : List ℕ → List ℕ → List ℕ → Answer → Type 0
InTurn ends excluded list r = (g : Graph) → ((e : ℕ) → is_edge g e ≡ not (is_missing ends excluded e)) → r ≡ told_by (ascending g 0 0 list)
