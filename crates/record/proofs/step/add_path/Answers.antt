-- `add_path` meets its contract: both ends become branches, the inside a link, and the rows of the walk are written behind those so far.
use Rattle.std.proofs.Common.{◌+◌, ◌≤◌, arith}
use Rattle.connectivity.specs.Plan.{limits}
use Rattle.record.proofs.Stepping.{f_ended, toward_at, one_more_at, ending_at, building_at}
use Rattle.record.proofs.Progress.{row_room, stepping, path_fits, path_added}
use Rattle.record.proofs.step.add_path.Goals as goal

pub upper-s-requires : goal.upper-s-requires
upper-s-requires c = f_ended (stepping c.requires)

pub first_marked-x-requires : goal.first_marked-x-requires
first_marked-x-requires c =
    toward_at (stepping c.requires) c.upper-s.ensures c.far_end-w.ensures

pub slice_bounds-write_walk-count : goal.slice_bounds-write_walk-count
slice_bounds-write_walk-count c = row_room c.requires

pub slice_bounds-write_walk-start : goal.slice_bounds-write_walk-start
slice_bounds-write_walk-start c = omega (arith, row_room c.requires)

pub write_walk-count-requires : goal.write_walk-count-requires
write_walk-count-requires c =
    one_more_at (stepping c.requires) c.upper-s.ensures c.far_end-w.ensures c.first_marked-x.ensures

pub split_both-two-requires : goal.split_both-two-requires
split_both-two-requires c =
    ending_at (stepping c.requires) c.upper-s.ensures c.far_end-w.ensures c.first_marked-x.ensures

pub build_walk-three-requires : goal.build_walk-three-requires
build_walk-three-requires c =
    building_at (stepping c.requires) c.upper-s.ensures c.far_end-w.ensures c.first_marked-x.ensures
    c.split_both-two.new.places c.split_both-two.new.tips c.split_both-two.ensures

pub overflow_add-result : goal.overflow_add-result
overflow_add-result c =
    let fits : (c.args.done.row + c.write_walk-count.result ≤ limits.edges) × (c.args.done.step + 1 ≤ limits.edges) = path_fits c.write_walk-count.result c.split_both-two.new.places c.split_both-two.new.tips c.build_walk-three.new.places c.build_walk-three.new.below c.build_walk-three.new.tips
    c.build_walk-three.new.over c.write_walk-count.new.rows c.upper-s.ensures c.far_end-w.ensures c.first_marked-x.ensures c.write_walk-count.ensures c.split_both-two.ensures c.build_walk-three.ensures c.requires in
    omega (arith, fits)

pub overflow_add-result-2 : goal.overflow_add-result-2
overflow_add-result-2 c =
    let fits : (c.args.done.row + c.write_walk-count.result ≤ limits.edges) × (c.args.done.step + 1 ≤ limits.edges) = path_fits c.write_walk-count.result c.split_both-two.new.places c.split_both-two.new.tips c.build_walk-three.new.places c.build_walk-three.new.below c.build_walk-three.new.tips
    c.build_walk-three.new.over c.write_walk-count.new.rows c.upper-s.ensures c.far_end-w.ensures c.first_marked-x.ensures c.write_walk-count.ensures c.split_both-two.ensures c.build_walk-three.ensures c.requires in
    omega (arith, fits)

pub returns : goal.returns
returns c =
    path_added c.write_walk-count.result c.split_both-two.new.places c.split_both-two.new.tips c.build_walk-three.new.places c.build_walk-three.new.below c.build_walk-three.new.tips
    c.build_walk-three.new.over c.write_walk-count.new.rows c.upper-s.ensures c.far_end-w.ensures c.first_marked-x.ensures c.write_walk-count.ensures c.split_both-two.ensures c.build_walk-three.ensures
