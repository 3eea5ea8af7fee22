-- The ends of an edge in a table of ends.
use Rattle.std.specs.Prelude.{cond, List, ℕ, ◌+◌, ◌*◌, eqb, get_or}

-- the end of e that is not v
abbrev pub far_end : List ℕ → ℕ → ℕ → ℕ
far_end ends e v = cond (eqb (get_or ends (2 * e) 0) v) (get_or ends (2 * e + 1) 0) (get_or ends (2 * e) 0)
