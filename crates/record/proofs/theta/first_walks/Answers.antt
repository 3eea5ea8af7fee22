-- `first_walks` meets its contract: what is found is what writing and building the three walks ask.
use Rattle.std.proofs.Common.{◌∙◌}
use Rattle.record.proofs.Beginning.{finding, rowed, raw, begun}
use Rattle.record.proofs.theta.first_walks.Goals as goal

pub find-t-requires : goal.find-t-requires
find-t-requires c = finding c.requires

pub write_walks-count-requires : goal.write_walks-count-requires
write_walks-count-requires c =
    rowed c.requires c.find-t.new.places c.find-t.ensures

pub build_walks-next-requires : goal.build_walks-next-requires
build_walks-next-requires c =
    raw c.requires c.find-t.new.places c.find-t.ensures

pub shape_of-places : goal.shape_of-places
shape_of-places c =
    c.build_walks-next.auto.places ∙ c.find-t.auto.places

pub shape_of-below : goal.shape_of-below
shape_of-below c = c.build_walks-next.auto.below

pub shape_of-tips : goal.shape_of-tips
shape_of-tips c = c.build_walks-next.auto.tips

pub shape_of-over : goal.shape_of-over
shape_of-over c = c.build_walks-next.auto.over

pub shape_of-rows : goal.shape_of-rows
shape_of-rows c = c.write_walks-count.auto.rows

pub returns : goal.returns
returns c =
    λ q. begun c.args.rows.now q c.find-t.new.places c.find-t.ensures c.write_walks-count.new.rows
    c.build_walks-next.new.places c.build_walks-next.new.below c.build_walks-next.new.tips c.build_walks-next.new.over c.write_walks-count.ensures c.build_walks-next.ensures
