-- An answer in one number, as C takes it.
use Rattle.std.specs.Prelude.{ℕ, ◌+◌, ◌*◌}
use Rattle.connectivity.specs.Admission.{Answer}

-- the number in the upper sixteen bits, the place in the lower
abbrev pub packed : Answer → ℕ
packed a = a.number * 65536 + a.place
