-- What cutting a link at a vertex and making a new one ask and leave behind.
use Rattle.std.specs.Prelude.{◌≡◌, ℕ, ◌+◌, ◌-◌, ◌<◌, ◌≤◌, List, length, ◌≢◌}
use Rattle.connectivity.specs.Plan.{Limits}
use Rattle.record.specs.Ways.{next_up, Rises, Way}

-- what `is_upper_shorter` asks: v lies between the tips
pub record Between (most : Limits) (ends first : List ℕ) (v top bottom : ℕ) : Type 0 where
  pub upper : Way most ends first v top
  pub lower : Way most ends first bottom v

-- what `cut` asks; top and bottom are one more than the tips of a link that v lies inside of
pub record Cutting (most : Limits) (ends first below : List ℕ) (v top bottom : ℕ) : Type 0 where
  pub small : v < most.vertices
  pub below_long : v < length below
  pub some_top : 1 ≤ top
  pub some_bottom : 1 ≤ bottom
  pub between : (v + 1 ≢ top) → (v + 1 ≢ bottom) → Between most ends first v (top - 1) (bottom - 1)
  pub rises : (v + 1 ≢ top) → Rises ends first v
  pub up_small : (v + 1 ≢ top) → next_up ends first v < most.vertices

-- the tips of a link that is cut at v, and those of the part that becomes a link, 0 if none does; `up` and `down` are one more than what lies above v
-- and below
pub data CutAt (v top bottom up down : ℕ) : ℕ → ℕ → ℕ → ℕ → Type 0 where
  whole : v + 1 ≡ top → v + 1 ≡ bottom → CutAt v top bottom up down 0 bottom 0 0
  off_top : v + 1 ≡ top → (v + 1 ≢ bottom) → CutAt v top bottom up down down bottom 0 0
  off_bottom : (v + 1 ≢ top) → v + 1 ≡ bottom → CutAt v top bottom up down top up 0 0
  off_upper : (v + 1 ≢ top) → (v + 1 ≢ bottom) → CutAt v top bottom up down down bottom top up
  off_lower : (v + 1 ≢ top) → (v + 1 ≢ bottom) → CutAt v top bottom up down top up down bottom

abbrev pub TopCut : ℕ → ℕ → ℕ → ℕ → ℕ → ℕ → ℕ → ℕ → Type 0
TopCut v top bottom down top' bottom' high low = (up : ℕ) → CutAt v top bottom up down top' bottom' high low

abbrev pub InsideCut : ℕ → ℕ → ℕ → ℕ → ℕ → ℕ → ℕ → ℕ → Type 0
InsideCut top bottom up down top' bottom' high low = (v : ℕ) → (v + 1 ≢ top) → (v + 1 ≢ bottom) → CutAt v top bottom up down top' bottom' high low
