-- `write_walk` meets its contract: one row, and a climb through the part of the list behind it.
use Rattle.std.proofs.Common.{arith}
use Rattle.record.proofs.Rising.{over_climb, over_up}
use Rattle.record.proofs.walk.write_walk.Goals as goal

pub climb-requires : goal.climb-requires
climb-requires c =
    let a = c.args in
    rw c.write_row.ensures (over_climb a.rows.now a.e a.from a.step c.requires)

pub overflow_add-result : goal.overflow_add-result
overflow_add-result c =
    let a = c.args in
    omega (
      arith,
      (over_up a.rows.now a.e a.from a.step c.requires c.climb.new.rows c.climb.result
          (rw c.write_row.ensures at c.climb.ensures)).1,
      c.requires.way.short,
    )

pub returns : goal.returns
returns c =
    let a = c.args in
    λ d. rw c.write_row.ensures (over_up a.rows.now a.e a.from a.step d c.climb.new.rows c.climb.result
    (rw c.write_row.ensures at c.climb.ensures))
