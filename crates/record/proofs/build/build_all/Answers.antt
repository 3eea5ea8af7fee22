-- `build_all` meets its contract: three walks, then Mader-paths until every edge is built.
use Rattle.record.proofs.Tabling.{beginning, finishing}
use Rattle.record.proofs.build.build_all.Goals as goal

pub first_walks-begun-requires : goal.first_walks-begun-requires
first_walks-begun-requires c = beginning c.requires

pub finish-requires : goal.finish-requires
finish-requires c =
    finishing c.requires c.args.rows.now c.first_walks-begun.new.rows c.first_walks-begun.new.places c.first_walks-begun.new.below c.first_walks-begun.new.tips
    c.first_walks-begun.new.over (c.first_walks-begun.ensures (beginning c.requires))

pub returns : goal.returns
returns c =
    λ d. (c.finish.ensures (finishing d c.args.rows.now c.first_walks-begun.new.rows c.first_walks-begun.new.places c.first_walks-begun.new.below c.first_walks-begun.new.tips
    c.first_walks-begun.new.over (c.first_walks-begun.ensures (beginning d)))).1
