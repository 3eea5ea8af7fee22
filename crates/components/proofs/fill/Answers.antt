-- `fill` meets its contract: labels, bodies, then the cuts.
use Rattle.components.proofs.Serving.{labelled_forest, labelled_low, labelled_ordered, labelled_stage, found_front}
use Rattle.components.proofs.fill.Goals as goal

pub bodies-requires : goal.bodies-requires
bodies-requires c =
    let s = c.requires in
    labelled_ordered s.0 c.label.ensures s.1

pub part-requires : goal.part-requires
part-requires c =
    let s = c.requires in
    let l = c.label.ensures in
    labelled_stage s.0 l s.1 (c.bodies.ensures _ _ (labelled_forest s.0 l) (labelled_low s.0 l))

pub returns : goal.returns
returns c =
    let s = c.requires in
    let l = c.label.ensures in
    found_front s.0 s.1 (c.bodies.ensures _ _ (labelled_forest s.0 l) (labelled_low s.0 l)) c.part.ensures
