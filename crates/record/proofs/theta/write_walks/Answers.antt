-- `write_walks` meets its contract: three steps, each through the part of the list behind the rows before it.
use Rattle.std.proofs.Common.{ℕ, ◌+◌, ◌-◌, ◌*◌, ◌≤◌, List, ◌++◌, length, take, drop, arith}
use Rattle.connectivity.specs.Plan.{limits}
use Rattle.record.proofs.ThreeRows.{high_room, one_fits, low_room, two_fits, side_room, three_fits, three_written}
use Rattle.record.proofs.theta.write_walks.Goals as goal

pub write_walk-a-requires : goal.write_walk-a-requires
write_walk-a-requires c = high_room c.args.rows.now c.requires

pub slice_bounds-write_walk-count : goal.slice_bounds-write_walk-count
slice_bounds-write_walk-count c =
    let one_long : (3 * c.write_walk-a.result ≤ length c.write_walk-a.new.rows) × (c.write_walk-a.result ≤ limits.edges) = one_fits c.args.rows.now c.requires c.write_walk-a.new.rows c.write_walk-a.result c.write_walk-a.ensures in
    omega (arith, one_long)

pub slice_bounds-write_walk-start : goal.slice_bounds-write_walk-start
slice_bounds-write_walk-start c =
    let one_long : (3 * c.write_walk-a.result ≤ length c.write_walk-a.new.rows) × (c.write_walk-a.result ≤ limits.edges) = one_fits c.args.rows.now c.requires c.write_walk-a.new.rows c.write_walk-a.result c.write_walk-a.ensures in
    omega (arith, one_long)

pub write_walk-b-requires : goal.write_walk-b-requires
write_walk-b-requires c =
    low_room c.args.rows.now c.requires c.write_walk-a.new.rows c.write_walk-a.result c.write_walk-a.ensures

pub overflow_add-from : goal.overflow_add-from
overflow_add-from c =
    let then : List ℕ = let one = c.write_walk-a.new.rows in
    let i = c.write_walk-a.result in
    take (3 * i) one ++ (c.write_walk-b.new.rows ++ drop (length one - 3 * i) (drop (3 * i) one)) in
    let two_long : (3 * (c.write_walk-a.result + c.write_walk-b.result) ≤ length then) × (c.write_walk-a.result + c.write_walk-b.result ≤ limits.edges) = two_fits c.args.rows.now c.requires c.write_walk-a.new.rows c.write_walk-a.result c.write_walk-a.ensures
    c.write_walk-b.new.rows c.write_walk-b.result c.write_walk-b.ensures in
    omega (arith, two_long)

pub slice_bounds-write_walk-count-2 : goal.slice_bounds-write_walk-count-2
slice_bounds-write_walk-count-2 c =
    let then : List ℕ = let one = c.write_walk-a.new.rows in
    let i = c.write_walk-a.result in
    take (3 * i) one ++ (c.write_walk-b.new.rows ++ drop (length one - 3 * i) (drop (3 * i) one)) in
    let two_long : (3 * (c.write_walk-a.result + c.write_walk-b.result) ≤ length then) × (c.write_walk-a.result + c.write_walk-b.result ≤ limits.edges) = two_fits c.args.rows.now c.requires c.write_walk-a.new.rows c.write_walk-a.result c.write_walk-a.ensures
    c.write_walk-b.new.rows c.write_walk-b.result c.write_walk-b.ensures in
    omega (arith, two_long)

pub slice_bounds-write_walk-start-2 : goal.slice_bounds-write_walk-start-2
slice_bounds-write_walk-start-2 c =
    let then : List ℕ = let one = c.write_walk-a.new.rows in
    let i = c.write_walk-a.result in
    take (3 * i) one ++ (c.write_walk-b.new.rows ++ drop (length one - 3 * i) (drop (3 * i) one)) in
    let two_long : (3 * (c.write_walk-a.result + c.write_walk-b.result) ≤ length then) × (c.write_walk-a.result + c.write_walk-b.result ≤ limits.edges) = two_fits c.args.rows.now c.requires c.write_walk-a.new.rows c.write_walk-a.result c.write_walk-a.ensures
    c.write_walk-b.new.rows c.write_walk-b.result c.write_walk-b.ensures in
    omega (arith, two_long)

pub write_walk-c-requires : goal.write_walk-c-requires
write_walk-c-requires c =
    side_room c.args.rows.now c.requires c.write_walk-a.new.rows c.write_walk-a.result c.write_walk-a.ensures
    c.write_walk-b.new.rows c.write_walk-b.result c.write_walk-b.ensures

pub overflow_add-result : goal.overflow_add-result
overflow_add-result c =
    let then : List ℕ = let one = c.write_walk-a.new.rows in
    let i = c.write_walk-a.result in
    take (3 * i) one ++ (c.write_walk-b.new.rows ++ drop (length one - 3 * i) (drop (3 * i) one)) in
    let two_long : (3 * (c.write_walk-a.result + c.write_walk-b.result) ≤ length then) × (c.write_walk-a.result + c.write_walk-b.result ≤ limits.edges) = two_fits c.args.rows.now c.requires c.write_walk-a.new.rows c.write_walk-a.result c.write_walk-a.ensures
    c.write_walk-b.new.rows c.write_walk-b.result c.write_walk-b.ensures in
    omega (arith, two_long)

pub overflow_add-result-2 : goal.overflow_add-result-2
overflow_add-result-2 c =
    omega (arith, three_fits c.args.rows.now c.requires c.write_walk-a.new.rows c.write_walk-a.result c.write_walk-a.ensures c.write_walk-b.new.rows c.write_walk-b.result c.write_walk-b.ensures c.write_walk-c.new.rows c.write_walk-c.result c.write_walk-c.ensures)

pub returns : goal.returns
returns c =
    λ q. three_written c.args.rows.now q c.write_walk-a.new.rows c.write_walk-a.result c.write_walk-a.ensures
    c.write_walk-b.new.rows c.write_walk-b.result c.write_walk-b.ensures
    c.write_walk-c.new.rows c.write_walk-c.result c.write_walk-c.ensures
