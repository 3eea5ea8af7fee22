-- Links: the stretches between branches.
use Rattle.std.specs.Prelude.{◌≡◌, Bool, not, ◌&&◌, ℕ}
use mathlib.Core.List.{List, Memᴰ as In}
use Rattle.connectivity.specs.Lists.{Distinct, mem}
use Rattle.connectivity.specs.Graph.{Graph}
use Rattle.connectivity.specs.Cut.{unreached}
use Rattle.connectivity.specs.Walk.{Leg, Walk, inner, edges_of, degree, Branch, is_branch}

-- 01: a link: a built path from one branch to another, or a closed walk at a branch (a ≡ b), that uses no edge twice and whose inner
-- vertices all have two built edges. Its inner vertices are the same read backwards.
pub record Link (g : Graph) (built : List ℕ) (a : ℕ) (legs : List Leg) (b : ℕ) : Type 0 where
  pub walk : Walk g a legs b
  pub over : (e : ℕ) → In e (edges_of legs) → In e built
  pub once : Distinct (edges_of legs)
  pub from : Branch g built a
  pub to : Branch g built b
  pub two : (v : ℕ) → In v (inner legs) → degree g built v ≡ 2

-- 01: u and w lie inside one link
pub record SameLink (g : Graph) (built : List ℕ) (u w : ℕ) : Type 0 where
  pub a : ℕ
  pub legs : List Leg
  pub b : ℕ
  pub link : Link g built a legs b
  pub here : In u (inner legs)
  pub there : In w (inner legs)

-- a built edge neither of whose ends is a branch: it lies inside a link, away from the link's ends
unfoldable pub is_bare : Graph → List ℕ → ℕ → Bool
is_bare g built e = mem e built && (not (is_branch g built (g.left e)) && not (is_branch g built (g.right e)))

-- whether u and w, built and no branches, lie inside one link: w is reached from u without passing a branch
unfoldable pub same_link : Graph → List ℕ → ℕ → ℕ → Bool
same_link g built u w = not (mem w (unreached g (is_bare g built) u))
