-- `thousandths` meets its contract: one byte more is one more column's worth, and the whole is below ten to the number of its digits.
use mathlib.Core.Path.{◌≡◌, ap}
use mathlib.Core.List.{List}
use Prim.Native.Nat.{ℕ, ◌+◌, ◌*◌, ◌^◌, ◌≤◌, ◌<◌}
use native.Mathlib.Omega.{arith}
use lib.ListN.{length, take, drop, get_or, drop_of_length-le}
use Rattle.text.specs.Column.{worths, digit, value}
use Rattle.drawn.specs.Length.{eight, length_worths}
use Rattle.text.proofs.Laws.{number_next}
use Rattle.drawn.proofs.Lengths.{value_below}
use Rattle.drawn.proofs.length.thousandths.Goals as goal

turn : (line : List ℕ) (at i sum d : ℕ) → i < length eight → at + length eight ≤ length line → d ≡ digit (get_or line (at + i) 0)
    → let col = take (length eight) (drop at line) in value eight col ≡ sum + value (drop i eight) (drop i col)
    → (value eight col ≡ sum + get_or eight i 0 * d + value (drop (i + 1) eight) (drop (i + 1) col)) × (sum + get_or eight i 0 * d < 10 ^ 7)
unfolding worths length_worths
turn line at i sum d h k p q =
    let n = number_next eight line at i h k d p in
    (omega (arith, n, q), omega (arith, n, q, value_below 4 3 (take (length eight) (drop at line))))

pub overflow_mul-sum : goal.overflow_mul-sum
overflow_mul-sum c = let l = c.loop-i in omega (arith, (turn c.args.line.now c.args.at l.i l.sum c.digit_of.result (omega arith) c.requires c.digit_of.ensures l.invariant).1)

pub overflow_add-sum : goal.overflow_add-sum
overflow_add-sum c = let l = c.loop-i in omega (arith, (turn c.args.line.now c.args.at l.i l.sum c.digit_of.result (omega arith) c.requires c.digit_of.ensures l.invariant).1)

pub loop-i-preserved : goal.loop-i-preserved
loop-i-preserved c = let l = c.loop-i in (turn c.args.line.now c.args.at l.i l.sum c.digit_of.result (omega arith) c.requires c.digit_of.ensures l.invariant).0

pub returns : goal.returns
unfolding value
returns c = let l = c.loop-i in omega (arith, l.invariant, ap (λ (ws : List ℕ). value ws (drop l.i (take (length eight) (drop c.args.at c.args.line.now)))) (drop_of_length-le eight {i = l.i} (omega arith)))
