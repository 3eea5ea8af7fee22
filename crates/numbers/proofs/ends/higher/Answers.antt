-- `higher` meets its contract: the other where one is none, else by the numbers of the upper ends.
use mathlib.Core.Path.{sym, ◌∙◌}
use Prim.Native.Nat.{◌/◌, ◌≤◌}
use native.Mathlib.Omega.{arith}
use borrow.Author.Tests.{lt-ltb, le-ltb}
use lib.ListN.{length}
use Rattle.numbers.specs.Tables.{higher_of}
use Rattle.numbers.proofs.Steps.{some_edge}
use Rattle.numbers.proofs.ends.higher.Goals as goal

pub returns-then-is_none : goal.returns-then-is_none
unfolding higher_of
returns-then-is_none c = rw (sym c.is_none.ensures ∙ c.if-is_none.true)

pub returns-then-is_none-2 : goal.returns-then-is_none-2
unfolding higher_of
returns-then-is_none-2 c = rw (sym c.is_none.ensures ∙ c.if-is_none.false, sym c.is_none-2.ensures ∙ c.if-is_none-2.true)

pub overflow_sub-y : goal.overflow_sub-y
overflow_sub-y c =
    let edges : let a = c.args in ((1 ≤ a.x) × (a.x ≤ length a.ends.now / 2)) × ((1 ≤ a.y) × (a.y ≤ length a.ends.now / 2)) = (some_edge _ _ (sym c.is_none.ensures ∙ c.if-is_none.false), some_edge _ _ (sym c.is_none-2.ensures ∙ c.if-is_none-2.false)) in
    omega (arith, edges)

pub level-requires : goal.level-requires
level-requires c =
    let edges : let a = c.args in ((1 ≤ a.x) × (a.x ≤ length a.ends.now / 2)) × ((1 ≤ a.y) × (a.y ≤ length a.ends.now / 2)) = (some_edge _ _ (sym c.is_none.ensures ∙ c.if-is_none.false), some_edge _ _ (sym c.is_none-2.ensures ∙ c.if-is_none-2.false)) in
    (omega (arith, edges), c.requires)

pub overflow_sub-x : goal.overflow_sub-x
overflow_sub-x c =
    let edges : let a = c.args in ((1 ≤ a.x) × (a.x ≤ length a.ends.now / 2)) × ((1 ≤ a.y) × (a.y ≤ length a.ends.now / 2)) = (some_edge _ _ (sym c.is_none.ensures ∙ c.if-is_none.false), some_edge _ _ (sym c.is_none-2.ensures ∙ c.if-is_none-2.false)) in
    omega (arith, edges)

pub level-requires-2 : goal.level-requires-2
level-requires-2 c =
    let edges : let a = c.args in ((1 ≤ a.x) × (a.x ≤ length a.ends.now / 2)) × ((1 ≤ a.y) × (a.y ≤ length a.ends.now / 2)) = (some_edge _ _ (sym c.is_none.ensures ∙ c.if-is_none.false), some_edge _ _ (sym c.is_none-2.ensures ∙ c.if-is_none-2.false)) in
    (omega (arith, edges), c.requires)

pub returns-then-level : goal.returns-then-level
unfolding higher_of
returns-then-level c =
    rw (
      sym c.is_none.ensures ∙ c.if-is_none.false,
      sym c.is_none-2.ensures ∙ c.if-is_none-2.false,
      sym c.level.ensures,
      sym c.level-2.ensures,
      lt-ltb _ _ c.if-level.true,
    )

pub returns : goal.returns
unfolding higher_of
returns c =
    rw (
      sym c.is_none.ensures ∙ c.if-is_none.false,
      sym c.is_none-2.ensures ∙ c.if-is_none-2.false,
      sym c.level.ensures,
      sym c.level-2.ensures,
      le-ltb _ _ c.if-level.false,
    )
