-- The links by their places: the tips of each, and that there are at most as many as vertices.
use Rattle.std.specs.Prelude.{◌≡◌, ℕ, suc, ◌+◌, ◌≤◌, ◌<◌, length}
use mathlib.Core.List.{List, Memᴰ as In}
use Rattle.connectivity.specs.Lists.{Distinct}
use Rattle.connectivity.specs.Graph.{Graph, Vertex}
use Rattle.tree.specs.Tree.{Pointers, Above}
use Rattle.tree.specs.Filed.{Filed, Tips}

-- the places alone: what is built and what is a branch is what they say
abbrev pub Shelved : Graph → Pointers → (ℕ → ℕ) → Type 0
Shelved g t place = Filed g t (λ v. 1 ≤ place v) (λ v. place v ≡ 1) place

-- the link at place m: nothing lies inside it, and its top is 0; or top and bottom have one more than its tips
pub data Tipped (g : Graph) (t : Pointers) (place top bottom : ℕ → ℕ) (m : ℕ) : Type 0 where
  gone : top m ≡ 0 → ((y : ℕ) → place y ≡ m → ⊥) → Tipped g t place top bottom m
  tipped : (a b : ℕ) → top m ≡ suc a → bottom m ≡ suc b → Tips g t place m a b → Tipped g t place top bottom m

-- a vertex that a link was named after: a branch, or the bottom of the link that it lies inside
pub data Namer (g : Graph) (t : Pointers) (place : ℕ → ℕ) (o : ℕ) : Type 0 where
  branch : place o ≡ 1 → Namer g t place o
  bottom : 2 ≤ place o → ((y : ℕ) → place y ≡ place o → Above g t y o) → Namer g t place o

-- the places from 2 up to `next` are those of links, each named after a vertex of its own
pub record Links (g : Graph) (t : Pointers) (place top bottom : ℕ → ℕ) (next : ℕ) : Type 0 where
  pub each : (m : ℕ) → 2 ≤ m → m < next → Tipped g t place top bottom m
  pub below : (y : ℕ) → place y < next
  pub names : List ℕ
  pub count : length names + 2 ≡ next
  pub once : Distinct names
  pub vertex : (o : ℕ) → In o names → Vertex g o
  pub namer : (o : ℕ) → In o names → Namer g t place o
