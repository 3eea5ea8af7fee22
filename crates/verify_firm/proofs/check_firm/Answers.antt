-- `check_firm` meets its contract: a plan that the constructor refuses is refused by its answer, any other is judged.
use mathlib.Core.Path.{sym, ap, ◌∙◌}
use Rattle.connectivity.specs.Plan.{plan, limits}
use Rattle.connectivity.proofs.Judge.{judge-refused}
use Rattle.graph.specs.Admission.{told_by}
use Rattle.graph.proofs.Lent.{constructed-refused, constructed_admitted}
use Rattle.verify_firm.proofs.Judged.{own_counts, judge_firm_lem}
use Rattle.verify_firm.proofs.check_firm.Goals as goal

pub firm_admitted-requires : goal.firm_admitted-requires
firm_admitted-requires c =
    let p = constructed_admitted _ _ c.new-made.ensures c.in-Ok.is in
    own_counts p

pub returns-in-Err : goal.returns-in-Err
returns-in-Err c =
    let p = constructed-refused _ _ c.new-made.ensures c.in-Err.is in
    p.1 ∙ sym (ap told_by (judge-refused limits (plan _ _ _) _ _ p.0))

pub returns-in-Ok : goal.returns-in-Ok
returns-in-Ok c =
    let p = constructed_admitted _ _ c.new-made.ensures c.in-Ok.is in
    c.firm_admitted.ensures ∙ rw p.vertices (sym (ap told_by (judge_firm_lem p.admitted _)))
