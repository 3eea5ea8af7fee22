-- `apart` meets its contract. The loop's invariant: no branch stands at the rows passed.
use mathlib.Core.Logic.{inl}
use Prim.Native.Nat.{ℕ, ◌≤◌, ◌<◌}
use native.Mathlib.Omega.{arith}
use lib.ListN.{length, get_or}
use borrow.Author.Count.{below_more}
use Rattle.verify_firm.specs.Marks.{from_at}
use Rattle.verify_firm.proofs.state.apart.Goals as goal

pub returns-then-list-i : goal.returns-then-list-i
returns-then-list-i c = λ a. c.if-list-i.true a.same

pub loop-k-init : goal.loop-k-init
loop-k-init c = λ m a b. absurd (omega (arith, a, b))

pub overflow_cast-v : goal.overflow_cast-v
overflow_cast-v c =
    let marked : let a = c.args in from_at a.list.now c.loop-k.k < length a.degree.now = c.requires.1.from c.loop-k.k (omega arith) in
    omega (arith, marked)

pub offset_bounds-degree-v : goal.offset_bounds-degree-v
offset_bounds-degree-v c =
    let marked : let a = c.args in from_at a.list.now c.loop-k.k < length a.degree.now = c.requires.1.from c.loop-k.k (omega arith) in
    omega (arith, marked)

pub bounds-degree-v : goal.bounds-degree-v
bounds-degree-v c =
    let marked : let a = c.args in from_at a.list.now c.loop-k.k < length a.degree.now = c.requires.1.from c.loop-k.k (omega arith) in
    marked

pub returns-then-degree-v-ge3 : goal.returns-then-degree-v-ge3
returns-then-degree-v-ge3 c =
    λ a. omega (arith, c.if-degree-v-ge3.true, a.plain c.loop-k.k (inl (c.loop-k.auto.k, omega arith)))

pub loop-k-preserved : goal.loop-k-preserved
loop-k-preserved c =
    let a = c.args in
    let more = below_more (λ (m : ℕ). a.i ≤ m → get_or a.degree.now (from_at a.list.now m) 0 < 3) c.loop-k.k (λ m h b. c.loop-k.invariant m b h) (λ b. c.if-degree-v-ge3.false) in
    λ m b h. more m h b
