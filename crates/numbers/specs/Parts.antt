-- What the parts of filling the tables ask.
use Rattle.std.specs.Prelude.{List, ℕ, ◌+◌, ◌*◌, ◌/◌, ◌≤◌, ◌<◌, length, get_or}
use Rattle.connectivity.specs.Plan.{Plan, Limits}
use Rattle.connectivity.specs.Admission.{Admitted}

-- the tables, by their lengths, have room for n vertices and m edges
pub record Room (n m first order number last over : ℕ) : Type 0 where
  pub marks : n ≤ first
  pub places : n ≤ order
  pub numbers : n ≤ number
  pub lasts : n ≤ last
  pub edges : m ≤ over

-- an admitted plan, and that room
pub record Fit (most : Limits) (p : Plan) (first order number last over : ℕ) : Type 0 where
  pub admitted : Admitted most p
  pub room : Room p.vertices (length p.ends / 2) first order number last over

-- the ends of every edge are below n
abbrev pub EndsBelow : List ℕ → ℕ → Type 0
EndsBelow ends n = (e : ℕ) → e < length ends / 2 → (get_or ends (2 * e) 0 < n) × (get_or ends (2 * e + 1) 0 < n)

-- what the edges ask
pub record Owning (most : Limits) (p : Plan) (first number over : ℕ) : Type 0 where
  pub admitted : Admitted most p
  pub marks : p.vertices ≤ first
  pub numbers : p.vertices ≤ number
  pub edges : length p.ends / 2 ≤ over

-- and what the vertices ask
pub record Lowering (most : Limits) (p : Plan) (first number last over : ℕ) : Type 0 where
  pub owning : Owning most p first number over
  pub lasts : p.vertices ≤ last
