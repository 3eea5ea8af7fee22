-- `put` meets its contract, by its test.
use Prim.Native.Nat.{◌*◌}
use native.Mathlib.Omega.{arith}
use native.Mathlib.Numerals.{add-one}
use borrow.Author.Tests.{le-leb, lt-leb}
use Rattle.drawn.specs.Drawing.{all_ends, wide_ones, wide_numbers}
use Rattle.drawn.proofs.take.put.Goals as goal

pub returns-then-gap-least : goal.returns-then-gap-least
unfolding all_ends wide_ones wide_numbers
returns-then-gap-least c =
    let a = c.args in
    let p = lt-leb a.least a.gap (omega arith) in
    record { many = rw p (omega arith); ends_set = rw p; numbers-set = rw p }

pub returns : goal.returns
unfolding all_ends wide_ones wide_numbers
returns c =
    let a = c.args in
    let p = le-leb a.least a.gap (omega arith) in
    record { many = rw p (omega arith); ends_set = rw (p, add-one (2 * a.count)); numbers-set = rw p }
