-- `split` meets its contract: the pass over all vertices.
use Prim.Native.Nat.{ℕ}
use native.Mathlib.Omega.{arith}
use mathlib.Core.Path.{◌≡◌, subst}
use Rattle.components.specs.Splitting.{Parted, unseen}
use Rattle.graph.specs.Marks.{read}
use Rattle.components.proofs.Splitting.{low}
use Rattle.components.proofs.split.split.Goals as goal

pub place-requires : goal.place-requires
place-requires c = let i = c.loop-v.invariant in let p = i.1 in let l = c.loop-v-test.true in (omega (arith, p.marks_room), omega (arith, p.other_room), omega (arith, p.table_room), low p l)

pub returns : goal.returns
returns c =
    let i = c.loop-v.invariant in
    let s = c.args in
    let q : c.loop-v.v ≡ s.vertices = omega (arith, c.loop-v.auto.v-end, c.loop-v-test.false) in
    subst (λ (k : ℕ). Parted k (unseen s.marks.now) (read s.table.now) (read c.loop-v.table)) q i.1.parted
