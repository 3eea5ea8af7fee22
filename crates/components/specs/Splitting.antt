-- Tables of groups, in which each vertex has the lowest of its group, and how a side takes the groups apart.
use Rattle.std.specs.Prelude.{◌≡◌, Bool, ◌⊎◌, List, ℕ, ◌≤◌, ◌<◌, eqb, length, get_or}
use Rattle.graph.specs.Marks.{read}

-- of n vertices `at v` is the lowest of the group of v
pub record Classes (n : ℕ) (at : ℕ → ℕ) : Type 0 where
  pub own : (v : ℕ) → v < n → at v ≤ v
  pub fixed : (v : ℕ) → v < n → at (at v) ≡ at v

-- u is the first vertex in the group of v that is not on the side of its lowest
pub record FirstOther (side : ℕ → Bool) (at : ℕ → ℕ) (v u : ℕ) : Type 0 where
  pub group : at u ≡ at v
  pub other : side u ≡ side (at u) → ⊥
  pub first : (w : ℕ) → w < u → at w ≡ at v → side w ≡ side (at w)

-- the groups of the vertices below k have been taken apart: who is on the side of the lowest stays with it, the others join the first of them
pub record Parted (k : ℕ) (side : ℕ → Bool) (at₀ at : ℕ → ℕ) : Type 0 where
  pub stays : (v : ℕ) → v < k → side v ≡ side (at₀ v) → at v ≡ at₀ v
  pub joins : (v : ℕ) → v < k → (side v ≡ side (at₀ v) → ⊥) → FirstOther side at₀ v (at v)
  pub rest : (v : ℕ) → k ≤ v → at v ≡ at₀ v

-- a vertex has no mark
abbrev pub unseen : List ℕ → ℕ → Bool
unseen marks v = eqb (get_or marks v 0) 0

-- x is the first vertex, of those below k, in the group of l that is not on the side of l, or 0 for none
abbrev pub OtherOf : (ℕ → Bool) → (ℕ → ℕ) → ℕ → ℕ → ℕ → Type 0
OtherOf side at k l x = ((x ≡ 0) × ((w : ℕ) → w < k → at w ≡ l → side w ≡ side l)) ⊎ ((x < k) × FirstOther side at l x)

-- the pass over the vertices: those below k are done, and `other` has for each lowest of a group the first on the other side
pub record Placing (n k : ℕ) (marks other table₀ table : List ℕ) : Type 0 where
  pub marks_room : n ≤ length marks
  pub other_room : n ≤ length other
  pub table_room : n ≤ length table
  pub long : length table ≡ length table₀
  pub classes : Classes n (read table₀)
  pub parted : Parted k (unseen marks) (read table₀) (read table)
  pub others : (l : ℕ) → l < k → get_or table₀ l 0 ≡ l → OtherOf (unseen marks) (read table₀) k l (get_or other l 0)
