-- `write_plan` meets its contract: what the constructor refuses, and what it admits.
use Rattle.std.specs.Prelude.{Err}
use mathlib.Core.Path.{◌≡◌, refl, ap}
use borrow.Author.Rules.{rules}
use lib.ListN.{length}
use Rattle.connectivity.specs.Plan.{plan, limits}
use Rattle.connectivity.specs.Admission.{admission}
use Rattle.graph.specs.declared.Answer.{Answer}
use Rattle.graph.proofs.Lent.{constructed-refused, constructed_admitted}
use Rattle.text_write.specs.Entry.{handed}
use Rattle.text.specs.Column.{five}
use Rattle.text.specs.Plan.{Writing}
use Rattle.text.proofs.Writing.{plan-refused}
use Rattle.text_write.proofs.Result.{writes_plan}
use Rattle.text_write.proofs.write_plan.Goals as goal

pub write_admitted-requires : goal.write_admitted-requires
write_admitted-requires c =
    let a = c.args in
    (constructed_admitted limits (plan a.vertices a.ends.now a.excluded.now) c.new.ensures c.in_ok-new.was).admitted

pub returns-in_err-new : goal.returns-in_err-new
returns-in_err-new c =
    let a = c.args in
    let q = plan a.vertices a.ends.now a.excluded.now in
    let p = constructed-refused limits q c.new.ensures c.in_err-new.was in
    let same : c.from_residual.result ≡ Err c.in_err-new.field-0.0 = search rules in
    rw same (writes_plan (Writing.refused (admission limits q)) (plan-refused five limits q (length a.text.now) p.0) (ap (λ (x : Answer). handed (Err x)) p.1) refl)
