-- `build_record` meets its contract: over tables of which nothing is set.
use Rattle.record.proofs.Tabling.{ready}
use Rattle.record.proofs.build.build_record.Goals as goal

pub build_all-requires : goal.build_all-requires
build_all-requires c =
    ready c.requires c.look_below.ensures

pub returns : goal.returns
returns c =
    λ d. c.build_all.ensures (ready d c.look_below.ensures)
