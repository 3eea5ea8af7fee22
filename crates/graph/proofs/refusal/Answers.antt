-- `refusal` meets its contract: a plan that the constructor refuses is refused by its answer, any other only where space is short.
use mathlib.Core.Path.{sym, ap, ◌∙◌}
use mathlib.Core.Bool.{not}
use Rattle.graph.specs.Admission.{told_by}
use Rattle.graph.proofs.Lent.{constructed-refused, constructed_admitted, lent-refused}
use Rattle.graph.proofs.Telling.{lent_space}
use Rattle.graph.proofs.refusal.Goals as goal

pub returns-in-Err : goal.returns-in-Err
returns-in-Err c =
    let p = constructed-refused _ _ c.new-made.ensures c.in-Err.is in
    (lent-refused (not c.args.short) p.0 p.1).1

pub returns-in-Ok : goal.returns-in-Ok
returns-in-Ok c =
    c.space.ensures ∙ ap told_by (sym (lent_space c.args.short (constructed_admitted _ _ c.new-made.ensures c.in-Ok.is).admitted))
