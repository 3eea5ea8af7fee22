-- `level` meets its contract.
use borrow.Author.Tests.{lt-ltb, le-ltb}
use Prim.Native.Nat.{◌+◌, ◌*◌, ◌<◌}
use native.Mathlib.Omega.{arith}
use lib.ListN.{length, get_or}
use Rattle.numbers.proofs.ends.level.Goals as goal

pub overflow_cast-a : goal.overflow_cast-a
overflow_cast-a c = omega (arith, c.shared_slice_known-1.given (2 * c.args.e))

pub offset_bounds-number-ends : goal.offset_bounds-number-ends
offset_bounds-number-ends c = omega (arith, c.shared_slice_known-1.given (2 * c.args.e))

pub bounds-number-ends : goal.bounds-number-ends
bounds-number-ends c =
    let below : (get_or c.args.ends.now (2 * c.args.e) 0 < length c.args.number.now) × (get_or c.args.ends.now (2 * c.args.e + 1) 0 < length c.args.number.now) = c.requires.1 c.args.e c.requires.0 in
    (below).0

pub overflow_cast-b : goal.overflow_cast-b
overflow_cast-b c = omega (arith, c.shared_slice_known-3-1.given (2 * c.args.e + 1))

pub offset_bounds-number-ends-2 : goal.offset_bounds-number-ends-2
offset_bounds-number-ends-2 c = omega (arith, c.shared_slice_known-3-1.given (2 * c.args.e + 1))

pub bounds-number-ends-2 : goal.bounds-number-ends-2
bounds-number-ends-2 c =
    let below : (get_or c.args.ends.now (2 * c.args.e) 0 < length c.args.number.now) × (get_or c.args.ends.now (2 * c.args.e + 1) 0 < length c.args.number.now) = c.requires.1 c.args.e c.requires.0 in
    (below).1

pub returns-then-a-b : goal.returns-then-a-b
returns-then-a-b c = rw (lt-ltb _ _ c.if-a-b.true)

pub returns : goal.returns
returns c = rw (le-ltb _ _ c.if-a-b.false)
