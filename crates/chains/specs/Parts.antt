-- What the parts of chaining promise one another.
use Rattle.std.specs.Prelude.{◌≡◌, List, ℕ, ◌-◌, ◌≤◌, ◌<◌, length, get_or, replicate}
use Rattle.incidence.specs.Parts.{Kept}
use Rattle.chains.specs.Chains.{keys, lowest_from, next_of}

-- `link` begins with empty chains
pub record Linking (m : ℕ) (labels next heads : List ℕ) : Type 0 where
  pub labels_room : m ≤ length labels
  pub next_room : m ≤ length next
  pub some : 0 < length heads
  pub empty : heads ≡ replicate (length heads) 0

-- `link`: the edges from e on stand on their chains, of which there are `size`
pub record Linked (m e size : ℕ) (labels next₀ next heads : List ℕ) : Type 0 where
  pub next_kept : Kept m next₀ next
  pub heads_long : length heads ≡ size
  pub first : (i : ℕ) → i < size → get_or heads i 0 ≡ lowest_from (keys size labels) i e (m - e)
  pub later : (d : ℕ) → e ≤ d → d < m → get_or next d 0 ≡ next_of (keys size labels) m d
