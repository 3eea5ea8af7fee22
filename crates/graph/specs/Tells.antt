-- How a function's contract says what its test tells. No notion of 01.
use Rattle.std.specs.Prelude.{Bool, true, false}

-- a test tells whether a fact holds
abbrev pub Tells : Bool → Type 0 → Type 0
Tells true P = P
Tells false P = P → ⊥
