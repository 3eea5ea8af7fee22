-- `check_weak` meets its contract: a plan that the constructor refuses is refused by its answer, any other is judged.
use mathlib.Core.Path.{sym, ap, ◌∙◌}
use Rattle.connectivity.specs.Plan.{plan, limits}
use Rattle.connectivity.proofs.Judge.{judge-refused}
use Rattle.graph.specs.Admission.{told_by}
use Rattle.graph.proofs.Lent.{constructed-refused, constructed_admitted}
use Rattle.verify_weak.proofs.Weak.{judge_weak_lem}
use Rattle.verify_weak.proofs.check_weak.Goals as goal

pub weak_admitted-requires : goal.weak_admitted-requires
weak_admitted-requires c = (constructed_admitted _ _ c.new-made.ensures c.in-Ok.is).admitted

pub returns-in-Err : goal.returns-in-Err
returns-in-Err c =
    let p = constructed-refused _ _ c.new-made.ensures c.in-Err.is in
    p.1 ∙ sym (ap told_by (judge-refused limits (plan _ _ _) _ _ p.0))

pub returns-in-Ok : goal.returns-in-Ok
returns-in-Ok c =
    let p = constructed_admitted _ _ c.new-made.ensures c.in-Ok.is in
    c.weak_admitted.ensures ∙ sym (ap told_by (judge_weak_lem limits _ _ p.admitted))
