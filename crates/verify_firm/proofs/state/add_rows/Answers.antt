-- `add_rows` meets its contract. The loop's invariant: the edges of the rows passed count as built.
use Rattle.verify_firm.proofs.Adding.{adding_start, adding_ready, adding_step, adding_end}
use Rattle.verify_firm.proofs.state.add_rows.Goals as goal

pub loop-k-init : goal.loop-k-init
loop-k-init c = adding_start c.requires

pub add_edge-requires : goal.add_edge-requires
add_edge-requires c =
    adding_ready c.loop-k.invariant c.requires c.loop-k-test.true

pub loop-k-preserved : goal.loop-k-preserved
loop-k-preserved c =
    adding_step c.loop-k.invariant c.loop-k-test.true c.add_edge.ensures

pub returns : goal.returns
returns c = adding_end c.loop-k.invariant c.loop-k-test.false
