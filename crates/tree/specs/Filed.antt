-- The places of built vertices: which are branches, and which lie inside which link.
use Rattle.std.specs.Prelude.{◌≡◌, ◌⊎◌, ℕ, suc, ◌≤◌}
use mathlib.Core.List.{List, Memᴰ as In}
use Rattle.connectivity.specs.Graph.{Graph}
use Rattle.connectivity.specs.Walk.{Leg, froms}
use Rattle.tree.specs.Tree.{Pointers, Child, Above}

-- place 0: not in B, which is what is built; place 1: in K, the branches; of any other place, vertices inside one link, which is a way up whose
-- ends hang on branches
pub record Filed (g : Graph) (t : Pointers) (B K : ℕ → Type 0) (place : ℕ → ℕ) : Type 0 where
  pub off : (v : ℕ) → place v ≡ 0 → B v → ⊥
  pub built : (v : ℕ) → 1 ≤ place v → B v
  pub branch : (v : ℕ) → place v ≡ 1 → K v
  pub plain : (v : ℕ) → 2 ≤ place v → K v → ⊥
  pub held : (v : ℕ) → Child g t v → 2 ≤ place v → 1 ≤ place (t.parent v)
  pub kept : (v : ℕ) → Child g t v → 2 ≤ place v → 2 ≤ place (t.parent v) → place v ≡ place (t.parent v)
  pub between : (u y v : ℕ) → Above g t u y → Above g t y v → 2 ≤ place u → place u ≡ place v → place y ≡ place u
  pub line : (u v : ℕ) → 2 ≤ place u → place u ≡ place v → Above g t u v ⊎ Above g t v u

-- v, which lies inside a link, becomes a branch: what is above it there gets the place a, what is below it the place b. Either may be the old
-- one, but no other link's
pub record Split (g : Graph) (t : Pointers) (place after : ℕ → ℕ) (v a b : ℕ) : Type 0 where
  pub inside : 2 ≤ place v
  pub large : (2 ≤ a) × (2 ≤ b)
  pub differ : a ≡ b → ⊥
  pub at : after v ≡ 1
  pub upper : (y : ℕ) → place y ≡ place v → (y ≡ v → ⊥) → Above g t y v → after y ≡ a
  pub lower : (y : ℕ) → place y ≡ place v → (y ≡ v → ⊥) → Above g t v y → after y ≡ b
  pub away : (y : ℕ) → (place y ≡ place v → ⊥) → after y ≡ place y
  pub free_a : (y : ℕ) → place y ≡ a → place y ≡ place v
  pub free_b : (y : ℕ) → place y ≡ b → place y ≡ place v

-- v is a branch already, and nothing changes, or becomes one
pub data Marked (g : Graph) (t : Pointers) (K : ℕ → Type 0) (place after : ℕ → ℕ) (v : ℕ) : Type 0 where
  already : K v → ((y : ℕ) → after y ≡ place y) → Marked g t K place after v
  parted : (a b : ℕ) → Split g t place after v a b → Marked g t K place after v

-- the vertices that some legs leave get the place m, which no other has
pub record Grown (place after : ℕ → ℕ) (legs : List Leg) (m : ℕ) : Type 0 where
  pub large : 2 ≤ m
  pub free : (y : ℕ) → place y ≡ m → ⊥
  pub new : (y : ℕ) → In y (froms legs) → after y ≡ m
  pub away : (y : ℕ) → (In y (froms legs) → ⊥) → after y ≡ place y

-- the link at some place: the way up from its bottom to its top
pub record Tips (g : Graph) (t : Pointers) (place : ℕ → ℕ) (m top bottom : ℕ) : Type 0 where
  pub has_top : place top ≡ m
  pub has_bottom : place bottom ≡ m
  pub highest : (y : ℕ) → place y ≡ m → Above g t top y
  pub lowest : (y : ℕ) → place y ≡ m → Above g t y bottom

-- each vertex that some legs leave is noted below its parent, and nothing else
pub record Noted (t : Pointers) (below after : ℕ → ℕ) (legs : List Leg) : Type 0 where
  pub new : (y : ℕ) → In y (froms legs) → after (t.parent y) ≡ suc y
  pub away : (z : ℕ) → ((y : ℕ) → In y (froms legs) → t.parent y ≡ z → ⊥) → after z ≡ below z

-- `below`: 0, or one more than a child that is in B; for a vertex inside a link its only one
pub record Belows (g : Graph) (t : Pointers) (B : ℕ → Type 0) (place below : ℕ → ℕ) : Type 0 where
  pub child : (v u : ℕ) → below v ≡ suc u → Child g t u × (t.parent u ≡ v) × B u
  pub only : (u : ℕ) → Child g t u → B u → 2 ≤ place (t.parent u) → below (t.parent u) ≡ suc u
