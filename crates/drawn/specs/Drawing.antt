-- A drawn list, which of its tabs are taken, and the plan that they make.
use Rattle.std.specs.Prelude.{cond, List, [], ◌∷◌, ℕ, suc, ◌+◌, ◌*◌, ◌≤◌, leb}
use Rattle.connectivity.specs.Plan.{Plan, entire}

-- 02: a drawn tab: two pieces and a gap
pub record Drawn : Type 0 where
  pub left : ℕ
  pub right : ℕ
  pub gap : ℕ

-- 02: the letter of a kerf: F, full, or H, half
pub data Letter : Type 0 where
  full : Letter
  half : Letter

-- 02: a drawn list: its pieces, least width, kerf with its letter, and drawn tabs. Lengths are whole thousandths
pub record Drawing : Type 0 where
  pub vertices : ℕ
  pub least : ℕ
  pub kerf : ℕ
  pub letter : Letter
  pub edges : List Drawn

-- 02: a half kerf is doubled
unfoldable pub full_kerf : Letter → ℕ → ℕ
full_kerf full kerf = kerf
full_kerf half kerf = 2 * kerf

-- 02: the smallest gap that is taken: less the full kerf it is not below the least width
unfoldable pub least_gap : Drawing → ℕ
least_gap d = d.least + full_kerf d.letter d.kerf

-- the drawn tab with a number
pub data At : List Drawn → ℕ → Drawn → Type 0 where
  here : {x : Drawn} {l : List Drawn} → At (x ∷ l) 0 x
  behind : {x y : Drawn} {l : List Drawn} {e : ℕ} → At l e x → At (y ∷ l) (suc e) x

-- 02: it is taken exactly when its gap less the full kerf is not below the least width
pub record Taken (d : Drawing) (e : ℕ) : Type 0 where
  pub edge : Drawn
  pub there : At d.edges e edge
  pub wide : d.least + full_kerf d.letter d.kerf ≤ edge.gap

-- the ends of all drawn tabs
unfoldable pub all_ends : List Drawn → List ℕ
all_ends [] = []
all_ends (x ∷ l) = x.left ∷ (x.right ∷ all_ends l)

-- 02: those with a gap of `least` or more, in drawn order
unfoldable pub wide_ones : ℕ → List Drawn → List Drawn
wide_ones least [] = []
wide_ones least (x ∷ l) = cond (leb least x.gap) (x ∷ wide_ones least l) (wide_ones least l)

-- their drawn numbers, counted from e on
unfoldable pub wide_numbers : ℕ → ℕ → List Drawn → List ℕ
wide_numbers least e [] = []
wide_numbers least e (x ∷ l) = cond (leb least x.gap) (e ∷ wide_numbers least (suc e) l) (wide_numbers least (suc e) l)

-- 02: a plan of the taken tabs in drawn order, without slugs
unfoldable pub taken_plan : Drawing → Plan
taken_plan d = entire d.vertices (all_ends (wide_ones (least_gap d) d.edges))

-- 02: the table from its numbers to the drawn ones
unfoldable pub taken_numbers : Drawing → List ℕ
taken_numbers d = wide_numbers (least_gap d) 0 d.edges
