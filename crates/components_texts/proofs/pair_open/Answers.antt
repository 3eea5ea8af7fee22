-- `pair_open` meets its contract. The loop's invariant: the list is filled with the pairs of the numbers below v that have no mark.
use mathlib.Core.Path.{◌≡◌, subst}
use Prim.Native.Nat.{ℕ}
use native.Mathlib.Omega.{arith}
use Rattle.connectivity.specs.Lists.{range, keep}
use Rattle.graph.specs.Excluded.{is_open}
use Rattle.components_texts.specs.Pairs.{Paired}
use Rattle.components_texts.proofs.Listing.{paired_start, paired_room, paired_long, paired_step}
use Rattle.components_texts.proofs.pair_open.Goals as goal

pub loop-v-init : goal.loop-v-init
loop-v-init c = let a = c.args in paired_start a.marks.now a.table.now a.list.now

pub put-at-requires : goal.put-at-requires
put-at-requires c =
    let a = c.args in
    omega (arith, paired_room a.marks.now a.table.now c.loop-v.v c.loop-v.invariant, paired_long a.marks.now a.table.now c.loop-v.v c.loop-v.invariant)

pub loop-v-preserved : goal.loop-v-preserved
loop-v-preserved c =
    let a = c.args in
    let w = c.put-at.ensures in
    paired_step a.marks.now a.table.now c.loop-v.v c.loop-v.invariant w.0 w.1

pub returns : goal.returns
returns c =
    let a = c.args in
    let e : c.loop-v.v ≡ a.vertices = omega arith in
    subst (λ (n : ℕ). Paired a.table.now (keep (is_open a.marks.now) (range 0 n)) a.list.now c.loop-v.list c.loop-v.at) e c.loop-v.invariant
