-- `fill` meets its contract: the parts, one after the other.
use mathlib.Core.Path.{ap, ◌∙◌}
use native.Mathlib.Omega.{arith}
use lib.ListN.{length}
use Rattle.numbers.proofs.Lengths.{numbers_long, owns_long}
use Rattle.numbers.proofs.Serving.{filled_by}
use Rattle.numbers.proofs.fill.Goals as goal

pub lower_all-requires : goal.lower_all-requires
lower_all-requires c =
    let room = c.requires.room in (
      record {
        owning = record {
          admitted = c.requires.admitted;
          marks = room.marks;
          numbers = omega (arith, ap length c.number_all.ensures.0 ∙ numbers_long _ _ _ _, room.numbers);
          edges = omega (arith, ap length c.own_all.ensures ∙ owns_long _ _ _ _ _ _, c.clear.ensures.kept.long, room.edges);
        };
        lasts = omega (arith, ap length c.number_all.ensures.1 ∙ numbers_long _ _ _ _, room.lasts);
      },
      room.places,
    )

pub returns : goal.returns
returns c =
    filled_by c.number_all.ensures.0 c.number_all.ensures.1 c.clear.ensures c.own_all.ensures c.lower_all.ensures.0 c.lower_all.ensures.1
