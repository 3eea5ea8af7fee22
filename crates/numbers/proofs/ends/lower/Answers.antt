-- `lower` meets its contract.
use borrow.Author.Tests.{lt-ltb, le-ltb}
use Prim.Native.Nat.{◌+◌, ◌*◌, ◌<◌}
use native.Mathlib.Omega.{arith}
use lib.ListN.{length, get_or}
use Rattle.numbers.proofs.ends.lower.Goals as goal

pub overflow_cast-l : goal.overflow_cast-l
overflow_cast-l c = omega (arith, c.shared_slice_known-1.given (2 * c.args.e))

pub offset_bounds-number-l : goal.offset_bounds-number-l
offset_bounds-number-l c = omega (arith, c.shared_slice_known-1.given (2 * c.args.e))

pub bounds-number-l : goal.bounds-number-l
bounds-number-l c =
    let below : (get_or c.args.ends.now (2 * c.args.e) 0 < length c.args.number.now) × (get_or c.args.ends.now (2 * c.args.e + 1) 0 < length c.args.number.now) = c.requires.1 c.args.e c.requires.0 in
    (below).0

pub overflow_cast-r : goal.overflow_cast-r
overflow_cast-r c = omega (arith, c.shared_slice_known-2-1.given (2 * c.args.e + 1))

pub offset_bounds-number-r : goal.offset_bounds-number-r
offset_bounds-number-r c = omega (arith, c.shared_slice_known-2-1.given (2 * c.args.e + 1))

pub bounds-number-r : goal.bounds-number-r
bounds-number-r c =
    let below : (get_or c.args.ends.now (2 * c.args.e) 0 < length c.args.number.now) × (get_or c.args.ends.now (2 * c.args.e + 1) 0 < length c.args.number.now) = c.requires.1 c.args.e c.requires.0 in
    (below).1

pub returns-then-number-l : goal.returns-then-number-l
returns-then-number-l c = rw (lt-ltb _ _ c.if-number-l.true)

pub returns : goal.returns
returns c = rw (le-ltb _ _ c.if-number-l.false)
