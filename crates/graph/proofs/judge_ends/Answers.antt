-- `judge_ends` meets its contract: numbers that add up to 0 are all 0.
use mathlib.Core.Path.{sym, ap}
use Rattle.graph.specs.Admission.{told_by}
use Rattle.graph.proofs.judge_ends.Goals as goal

pub returns-then-misfits-eq0 : goal.returns-then-misfits-eq0
returns-then-misfits-eq0 c = sym (ap told_by (c.misfits.ensures c.if-misfits-eq0.true))
