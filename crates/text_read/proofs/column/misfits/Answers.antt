-- `misfits` meets its contract: one byte more is one misfit more or none, and there are at most as many as bytes.
use mathlib.Core.Path.{◌≡◌, ap}
use mathlib.Core.List.{List}
use Prim.Native.Nat.{ℕ, ◌+◌, ◌≤◌, ◌<◌}
use native.Mathlib.Omega.{arith}
use lib.ListN.{length, take, drop, get_or, drop_of_length-le}
use Rattle.text.specs.Column.{five}
use Rattle.text_read.specs.Line.{misfit, misfits}
use Rattle.text_read.proofs.Columns.{misfits_at, misfits_most}
use Rattle.text_read.proofs.column.misfits.Goals as goal

turn : (line : List ℕ) (at x i sum n : ℕ) → i < length five → at + length five ≤ length line → n ≡ misfit (get_or five i 0) x (get_or line (at + i) 0)
    → let col = take (length five) (drop at line) in misfits five x col ≡ sum + misfits (drop i five) x (drop i col)
    → (misfits five x col ≡ sum + n + misfits (drop (i + 1) five) x (drop (i + 1) col)) × (sum + n ≤ length five)
turn line at x i sum n h k p q =
    let m = misfits_at five line at x i h k n p in
    (omega (arith, m, q), omega (arith, m, q, misfits_most five x (take (length five) (drop at line))))

pub overflow_add-sum : goal.overflow_add-sum
overflow_add-sum c = let a = c.args in let l = c.loop-i in omega (arith, (turn a.line.now a.at a.x l.i l.sum c.misfit-sum.result (omega arith) c.requires c.misfit-sum.ensures l.invariant).1)

pub loop-i-preserved : goal.loop-i-preserved
loop-i-preserved c = let a = c.args in let l = c.loop-i in (turn a.line.now a.at a.x l.i l.sum c.misfit-sum.result (omega arith) c.requires c.misfit-sum.ensures l.invariant).0

pub returns : goal.returns
unfolding misfits
returns c = let l = c.loop-i in let a = c.args in omega (arith, l.invariant, ap (λ (ws : List ℕ). misfits ws a.x (drop l.i (take (length five) (drop a.at a.line.now)))) (drop_of_length-le five {i = l.i} (omega arith)))
