-- `number` meets its contract: one byte more is one more column's worth, and the whole is below ten to the width.
use mathlib.Core.Path.{◌≡◌, ap}
use mathlib.Core.List.{List}
use Prim.Native.Nat.{ℕ, ◌+◌, ◌*◌, ◌^◌, ◌≤◌, ◌<◌}
use native.Mathlib.Omega.{arith}
use lib.ListN.{length, take, drop, get_or, drop_of_length-le}
use Rattle.text.specs.Column.{worths, five, digit, value}
use Rattle.text.proofs.Laws.{number_next, value_most}
use Rattle.text_read.proofs.column.number.Goals as goal

turn : (line : List ℕ) (at i sum d : ℕ) → i < length five → at + length five ≤ length line → d ≡ digit (get_or line (at + i) 0)
    → let col = take (length five) (drop at line) in value five col ≡ sum + value (drop i five) (drop i col)
    → (value five col ≡ sum + get_or five i 0 * d + value (drop (i + 1) five) (drop (i + 1) col)) × (sum + get_or five i 0 * d < 10 ^ length five)
unfolding worths
turn line at i sum d h k p q =
    let n = number_next five line at i h k d p in
    (omega (arith, n, q), omega (arith, n, q, value_most (length five) (take (length five) (drop at line))))

pub overflow_mul-sum : goal.overflow_mul-sum
overflow_mul-sum c = let l = c.loop-i in omega (arith, (turn c.args.line.now c.args.at l.i l.sum c.digit_of.result (omega arith) c.requires c.digit_of.ensures l.invariant).1)

pub overflow_add-sum : goal.overflow_add-sum
overflow_add-sum c = let l = c.loop-i in omega (arith, (turn c.args.line.now c.args.at l.i l.sum c.digit_of.result (omega arith) c.requires c.digit_of.ensures l.invariant).1)

pub loop-i-preserved : goal.loop-i-preserved
loop-i-preserved c = let l = c.loop-i in (turn c.args.line.now c.args.at l.i l.sum c.digit_of.result (omega arith) c.requires c.digit_of.ensures l.invariant).0

pub returns : goal.returns
unfolding value
returns c = let l = c.loop-i in omega (arith, l.invariant, ap (λ (ws : List ℕ). value ws (drop l.i (take (length five) (drop c.args.at c.args.line.now)))) (drop_of_length-le five {i = l.i} (omega arith)))
