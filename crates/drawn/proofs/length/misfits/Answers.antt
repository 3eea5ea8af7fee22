-- `misfits` meets its contract: one byte more is one misfit more or none, and there are at most as many as bytes.
use mathlib.Core.Path.{◌≡◌, ap}
use mathlib.Core.List.{List}
use Prim.Native.Nat.{ℕ, ◌+◌, ◌≤◌, ◌<◌}
use native.Mathlib.Omega.{arith}
use lib.ListN.{length, take, drop, get_or, drop_of_length-le}
use Rattle.drawn.specs.Length.{eight, thousand}
use Rattle.drawn.specs.Line.{misfit, misfits}
use Rattle.drawn.proofs.Lengths.{misfits_at, misfits_most}
use Rattle.drawn.proofs.length.misfits.Goals as goal

turn : (line : List ℕ) (at x i sum n : ℕ) → i < length eight → at + length eight ≤ length line → n ≡ misfit thousand (get_or eight i 0) x (get_or line (at + i) 0)
    → let col = take (length eight) (drop at line) in misfits thousand eight x col ≡ sum + misfits thousand (drop i eight) x (drop i col)
    → (misfits thousand eight x col ≡ sum + n + misfits thousand (drop (i + 1) eight) x (drop (i + 1) col)) × (sum + n ≤ length eight)
turn line at x i sum n h k p q =
    let m = misfits_at thousand eight line at x i h k n p in
    (omega (arith, m, q), omega (arith, m, q, misfits_most thousand eight x (take (length eight) (drop at line))))

pub overflow_add-sum : goal.overflow_add-sum
overflow_add-sum c = let a = c.args in let l = c.loop-i in omega (arith, (turn a.line.now a.at a.x l.i l.sum c.misfit-sum.result (omega arith) c.requires c.misfit-sum.ensures l.invariant).1)

pub loop-i-preserved : goal.loop-i-preserved
loop-i-preserved c = let a = c.args in let l = c.loop-i in (turn a.line.now a.at a.x l.i l.sum c.misfit-sum.result (omega arith) c.requires c.misfit-sum.ensures l.invariant).0

pub returns : goal.returns
unfolding misfits
returns c = let l = c.loop-i in let a = c.args in omega (arith, l.invariant, ap (λ (ws : List ℕ). misfits thousand ws a.x (drop l.i (take (length eight) (drop a.at a.line.now)))) (drop_of_length-le eight {i = l.i} (omega arith)))
