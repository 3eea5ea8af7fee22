-- `verdict` meets its contract: each answer about the record is told, a weak one with what falls with its cut.
use Rattle.std.specs.Prelude.{◌≡◌, Err, Ok, Some, None}
use mathlib.Core.Path.{refl, ap, ◌∙◌}
use borrow.Author.Rules.{rules}
use Rattle.connectivity.specs.Plan.{plan, limits}
use Rattle.certify.proofs.Outcomes.{weak_told}
use Rattle.certify.proofs.Answering.{answers, weak_answers}
use Rattle.certify.proofs.verdict.Goals as goal

pub weak-requires : goal.weak-requires
weak-requires c =
    let was : c.write_record.result ≡ Ok (Some c.in-Some.cut) = c.in_ok-write_record.was ∙ ap Ok c.in-Some.is in
    (weak_told limits (plan _ _ _) _ c.in-Some.cut (rw was at c.write_record.ensures.answer)).0

pub returns-in_err-write_record : goal.returns-in_err-write_record
returns-in_err-write_record c =
    let same : c.from_residual.result ≡ Err c.in_err-write_record.field-0.0 = search rules in
    answers (Err c.in_err-write_record.field-0.0) (rw c.in_err-write_record.was at c.write_record.ensures) same

pub returns-in-None : goal.returns-in-None
returns-in-None c =
    let was : c.write_record.result ≡ Ok None = c.in_ok-write_record.was ∙ ap Ok c.in-None.is in
    answers (Ok None) (rw was at c.write_record.ensures) refl

pub returns-in-Some : goal.returns-in-Some
returns-in-Some c =
    let was : c.write_record.result ≡ Ok (Some c.in-Some.cut) = c.in_ok-write_record.was ∙ ap Ok c.in-Some.is in
    weak_answers c.in-Some.cut (rw was at c.write_record.ensures) c.weak.ensures
