-- `next_like` meets its contract: the walk along the chain.
use Prim.Native.Nat.{◌<◌}
use Rattle.cuts.proofs.Likes.{walk_start, walk_found, walk_next, walk_less, walk_over}
use native.Mathlib.Omega.{arith}
use Rattle.cuts.proofs.alike.next_like.Goals as goal

pub loop-x-init : goal.loop-x-init
loop-x-init c = let s = c.requires in let d = c.args.dead.now in ((walk_start d s.2 s.3).inside, λ k. walk_start d k s.3)

pub is_like-requires : goal.is_like-requires
is_like-requires c = let s = c.requires in let l = c.loop-x in (omega (arith, c.loop-x-test.true, l.invariant.0, s.0), omega (arith, c.loop-x-test.true, l.invariant.0, s.1))

pub returns-then-is_like : goal.returns-then-is_like
returns-then-is_like c = let l = c.loop-x in let s = c.requires in let some : 0 < l.x = omega (arith, c.loop-x-test.true) in walk_found c.args.dead.now s.2 s.3 (l.invariant.1 s.2) some (rw c.if-is_like.true at c.is_like.ensures)

pub loop-x-smaller : goal.loop-x-smaller
loop-x-smaller c = let l = c.loop-x in let s = c.requires in let some : 0 < l.x = omega (arith, c.loop-x-test.true) in walk_less c.args.dead.now s.2 s.3 (l.invariant.1 s.2) some

pub loop-x-preserved : goal.loop-x-preserved
loop-x-preserved c = let l = c.loop-x in let s = c.requires in let d = c.args.dead.now in let some : 0 < l.x = omega (arith, c.loop-x-test.true) in let n = rw c.if-is_like.false at c.is_like.ensures in ((walk_next d s.2 s.3 (l.invariant.1 s.2) some n).inside, λ k. walk_next d k s.3 (l.invariant.1 k) some n)

pub returns : goal.returns
returns c = let l = c.loop-x in let s = c.requires in walk_over c.args.dead.now s.2 s.3 (l.invariant.1 s.2) (omega (arith, c.loop-x-test.false))
