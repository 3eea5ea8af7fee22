-- `plant` meets its contract: over prepared tables the searches leave a spanning forest.
use native.Mathlib.Omega.{arith}
use Rattle.labels.proofs.Growing.{planted}
use Rattle.labels.proofs.forest.plant.Goals as goal

pub search_all-requires : goal.search_all-requires
search_all-requires c =
    let rooms = c.requires.2 in
    let begin = c.prepare.ensures in (
      begin.ready,
      record { first_room = omega (arith, rooms.first_room, begin.marks.kept.long); order_room = rooms.order_room; cursor_room = rooms.cursor_room },
      begin.marks.zero,
    )

pub returns : goal.returns
returns c =
    planted c.prepare.ensures c.search_all.ensures
