-- A plan, its limits, and the graph that it lists.
use Rattle.std.specs.Prelude.{not, List, [], ℕ, ◌+◌, ◌*◌, ◌/◌, length, get_or}
use Rattle.connectivity.specs.Lists.{mem}
use Rattle.connectivity.specs.Graph.{Graph}

-- 01: plan: how many pieces, and the table of tabs, two ends for each; 02: its slugs, the pieces that are meant to fall
pub record Plan : Type 0 where
  pub vertices : ℕ
  pub ends : List ℕ
  pub excluded : List ℕ

-- the plan with n pieces, these ends and these slugs
abbrev pub plan : ℕ → List ℕ → List ℕ → Plan
plan n ends excluded = record { vertices = n; ends = ends; excluded = excluded }

-- the plan with n pieces and these ends, and no slug
abbrev pub entire : ℕ → List ℕ → Plan
entire n ends = plan n ends []

-- the graph of a plan: its vertices are the numbers below the count that are not excluded, its edges the entries of the table between
-- them (02: the kept pieces, and the tabs between them, under their drawn numbers)
unfoldable pub graph : Plan → Graph
graph p = record {
  bound = p.vertices;
  kept = λ v. not (mem v p.excluded);
  size = length p.ends / 2;
  left = λ e. get_or p.ends (2 * e) 0;
  right = λ e. get_or p.ends (2 * e + 1) 0;
}

-- the same with nothing excluded: all pieces and tabs that the plan lists
abbrev pub listed : Plan → Graph
listed p = graph (entire p.vertices p.ends)

-- 01: limits: how many pieces and tabs a plan may have
pub record Limits : Type 0 where
  pub vertices : ℕ
  pub edges : ℕ

-- 01: the limits that it names, 1,000 pieces and 4,000 tabs
abbrev pub limits : Limits
limits = record { vertices = 1000; edges = 4000 }
