-- `put_marked` meets its contract. The loop's invariant: the list begins with the number and the marked vertices below v.
use mathlib.Core.Path.{◌≡◌, subst}
use mathlib.Core.List.{List}
use Prim.Native.Nat.{ℕ}
use native.Mathlib.Omega.{arith}
use lib.ListN.{length-set}
use Rattle.fallen_texts.specs.Listing.{marked_below, Begins}
use Rattle.fallen_texts.proofs.Listing.{marked_start, marked_next}
use Rattle.fallen_texts.proofs.put_marked.Goals as goal

pub bounds-list-0 : goal.bounds-list-0
bounds-list-0 c = omega (arith, c.requires.2)

pub loop-v-init : goal.loop-v-init
loop-v-init c =
    let a = c.args in
    record { few = omega arith; begins = marked_start a.count a.words.now a.list.now (omega (arith, c.requires.2)) }

pub put-at-requires : goal.put-at-requires
put-at-requires c =
    let long = length-set c.args.list.now 0 c.args.count in
    (omega (arith, c.requires.0, c.requires.1, c.loop-v-test.true), omega (arith, c.requires.0, c.requires.2, c.loop-v.auto.list, c.loop-v.invariant.few, long, c.loop-v-test.true))

pub loop-v-preserved : goal.loop-v-preserved
loop-v-preserved c =
    let a = c.args in
    let i = c.loop-v.invariant in
    let step = c.put-at.ensures in record {
      few = omega (arith, i.few, step.1);
      begins = subst (λ (front : List ℕ). Begins front c.put-at.new.list c.put-at.result) (marked_next a.count a.words.now c.loop-v.v) (step.0 _ i.begins);
    }

pub returns : goal.returns
returns c =
    let a = c.args in
    let all : c.loop-v.v ≡ a.vertices = omega arith in
    subst (λ (n : ℕ). Begins (marked_below a.count a.words.now n) c.loop-v.list c.loop-v.at) all c.loop-v.invariant.begins
