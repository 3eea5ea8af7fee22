-- `seen` meets its contract: fewer are seen than there are exactly where the marked edges disconnect.
use mathlib.Core.Path.{◌∙◌}
use native.Mathlib.Omega.{arith}
use Rattle.depth.proofs.Left.{fewer}
use Rattle.depth.proofs.Undoing.{undone_all}
use Rattle.cuts.proofs.tries.seen.Goals as goal

pub search-count-requires : goal.search-count-requires
search-count-requires c = c.requires

pub shape_of-marks : goal.shape_of-marks
shape_of-marks c = c.undo.auto.first ∙ c.search-count.auto.marks

pub shape_of-order : goal.shape_of-order
shape_of-order c = c.search-count.auto.order

pub shape_of-cursor : goal.shape_of-cursor
shape_of-cursor c = c.search-count.auto.cursor

pub returns : goal.returns
returns c =
    let f = c.search-count.ensures in
    let s = c.requires in
    (λ cut k. fewer s.0.tabled f k s.0.fresh s.1, undone_all f (omega (arith, s.0.order_room, f.order_long)) c.undo.ensures)
