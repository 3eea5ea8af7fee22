-- `part` meets its contract: what lies from `at` up to `at + size` is the first `size` bytes from `at` on.
use mathlib.Core.Path.{◌≡◌}
use Prim.Native.Nat.{◌+◌, ◌-◌}
use native.Mathlib.Omega.{arith}
use Rattle.text_read.proofs.reader.part.Goals as goal

pub returns : goal.returns
returns c = let a = c.args in let p : a.at + a.size - a.at ≡ a.size = omega arith in rw p
