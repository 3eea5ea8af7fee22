-- `unknown` meets its contract: a plan that the constructor refuses is refused by its answer, for any other it is 9.
use mathlib.Core.Path.{sym, ap, ◌∙◌}
use Rattle.connectivity.specs.Plan.{plan}
use Rattle.connectivity.proofs.Admission.{passed_then, failed_then, admission_number}
use Rattle.graph.specs.Admission.{told_by}
use Rattle.graph.proofs.Lent.{constructed-refused, constructed_admitted}
use Rattle.verify.proofs.unknown.Goals as goal

pub returns-in-Err : goal.returns-in-Err
returns-in-Err c =
    let p = constructed-refused _ _ c.new-made.ensures c.in-Err.is in
    p.1 ∙ sym (ap told_by (failed_then _ _ (λ z. p.0 ((admission_number _ (plan _ _ _)).0 z))))

pub returns-in-Ok : goal.returns-in-Ok
returns-in-Ok c =
    let p = constructed_admitted _ _ c.new-made.ensures c.in-Ok.is in
    sym (ap told_by (passed_then _ _ ((admission_number _ (plan _ _ _)).1 p.admitted)))
