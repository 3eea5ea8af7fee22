-- `lowest_over` meets its contract: the empty set where the plan is not connected, else what the labels lead to.
use Rattle.connectivity.proofs.Kept.{admitted_count}
use Rattle.cuts.proofs.Answers.{uncut_yet, found_parted, found_whole}
use native.Mathlib.Omega.{arith}
use Rattle.cuts.proofs.lowest_over.Goals as goal

pub survey-count-requires : goal.survey-count-requires
survey-count-requires c = let s = c.requires in (s.0, uncut_yet s.0 s.1)

pub overflow_cast-excluded : goal.overflow_cast-excluded
overflow_cast-excluded c = omega (arith, admitted_count c.requires.0.tabled.admitted, c.ranges.vertices)

pub overflow_sub-vertices : goal.overflow_sub-vertices
overflow_sub-vertices c = omega (arith, admitted_count c.requires.0.tabled.admitted)

pub returns-then-count-vertices : goal.returns-then-count-vertices
returns-then-count-vertices c = let s = c.requires in let b = c.survey-count.ensures in (found_parted s.0 s.1 b (omega (arith, admitted_count s.0.tabled.admitted)) (cc) c.if-count-vertices.true, record { count = _; cursor = _; by = b })

pub small_cut-requires : goal.small_cut-requires
small_cut-requires c = let s = c.requires in found_whole s.0 s.1 c.survey-count.ensures (omega (arith, admitted_count s.0.tabled.admitted)) c.if-count-vertices.false c.label.ensures

pub returns : goal.returns
returns c = (c.small_cut.ensures, record { count = _; cursor = _; by = c.survey-count.ensures })
