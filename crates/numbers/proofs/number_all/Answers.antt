-- `number_all` meets its contract. The loop's invariant: both tables have the first k places.
use mathlib.Core.Path.{◌≡◌, sym, ap, ◌∙◌}
use native.Mathlib.Omega.{arith}
use Rattle.numbers.specs.Tables.{numbers_to}
use Rattle.numbers.proofs.Numbering.{numbers-none, numbers_next, numbers-same}
use Rattle.numbers.proofs.number_all.Goals as goal
use Rattle.numbers.proofs.number_all.Goals.{then-v-vertices, else-v-vertices}

pub loop-k-init : goal.loop-k-init
loop-k-init c = (sym (numbers-none _ _ _), sym (numbers-none _ _ _))

pub loop-k-preserved : goal.loop-k-preserved
loop-k-preserved c =
    let l = c.loop-k in
    elim c.if-v-vertices.branch [
      | then-v-vertices w ↦ (
        numbers_next _ _ _ l.k w.if-v-vertices.true l.invariant.0 w.number-is,
        numbers_next _ _ _ l.k w.if-v-vertices.true l.invariant.1 w.last-is,
      )
      | else-v-vertices w ↦ (
        numbers-same _ _ _ l.k w.if-v-vertices.false l.invariant.0 w.number-is,
        numbers-same _ _ _ l.k w.if-v-vertices.false l.invariant.1 w.last-is,
      )
    ]

pub returns : goal.returns
returns c =
    let l = c.loop-k in
    let all : l.k ≡ c.args.vertices = omega arith in
    (l.invariant.0 ∙ ap (numbers_to _ _ _) all, l.invariant.1 ∙ ap (numbers_to _ _ _) all)
