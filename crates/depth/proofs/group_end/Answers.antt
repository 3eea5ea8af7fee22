-- `group_end` meets its contract, by its tests.
use native.Mathlib.Omega.{arith}
use Prim.Native.Nat.{◌+◌}
use Rattle.depth.proofs.Edges.{ends_last, ends_cut, ends_next}
use Rattle.depth.proofs.group_end.Goals as goal

pub returns-then-next-vertices : goal.returns-then-next-vertices
returns-then-next-vertices c = let a = c.args in ends_last a.vertices a.size a.begins.now a.v (omega arith)

pub overflow_cast-to-2 : goal.overflow_cast-to-2
overflow_cast-to-2 c = omega (arith, c.shared_slice_known-1.given (c.args.v + 1))

pub returns-then-size-to : goal.returns-then-size-to
returns-then-size-to c = let a = c.args in ends_cut a.vertices a.size a.begins.now a.v (omega arith) (omega arith)

pub returns : goal.returns
returns c = let a = c.args in ends_next a.vertices a.size a.begins.now a.v (omega arith) (omega arith)
