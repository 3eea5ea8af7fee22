-- `judge_rows` meets its contract: each turn takes up a row, and what is left to judge is the rest.
use Rattle.connectivity.specs.Plan.{plan, limits}
use Rattle.verify_firm.proofs.Judged.{Judged}
use Rattle.verify_firm.proofs.firm.judge_rows.Given as goal

abbrev pub invariant-loop-row : goal.invariant-loop-row
invariant-loop-row l = Judged limits (plan l.counts.vertices l.ends l.excluded) l.list l.used l.state l.row
