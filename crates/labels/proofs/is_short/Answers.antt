-- `is_short` meets its contract: the last test tells the rest.
use mathlib.Core.Bool.{not}
use native.Mathlib.Omega.{arith}
use Rattle.graph.proofs.Telling.{tells_to}
use Rattle.labels.proofs.is_short.Goals as goal

pub returns : goal.returns
returns c =
    tells_to (not c.is_tight.result)
    (λ r. record {
      groups = omega (arith, c.if-incident-m.false);
      beginnings = omega (arith, c.if-begins-n.false);
      edge_marks = omega (arith, c.if-dead-m.false);
      cursors = omega (arith, c.if-cursor-n.false);
      room = r;
    })
    (λ a. a.room) c.is_tight.ensures
