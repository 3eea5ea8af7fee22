-- `split_both` meets its contract: one after the other.
use Rattle.std.proofs.Common.{◌∙◌}
use Rattle.record.proofs.Ending.{splitting_two, both_parted}
use Rattle.record.proofs.link.split_both.Goals as goal

pub split-requires : goal.split-requires
split-requires c =
    let e = c.split-one.ensures in
    let s = c.requires in
    splitting_two s c.split-one.new.places c.split-one.new.tips (e.2 s.splitting).0 (e.0, e.1)

pub returns : goal.returns
returns c =
    let e = c.split-one.ensures in
    let d = c.split.ensures in (
      d.0 ∙ e.0,
      d.1 ∙ e.1,
      λ s. let one = e.2 s.splitting in
          let two = d.2 (splitting_two s c.split-one.new.places c.split-one.new.tips one.0 (e.0, e.1)) in
          both_parted s c.split-one.new.places c.split-one.new.tips one.0 (e.0, e.1) two.0 one.1 two.1,
    )
