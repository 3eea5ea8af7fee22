-- `weak` meets its contract: the list that is removed is that of the named edges.
use Rattle.std.specs.Prelude.{◌≡◌, Err}
use mathlib.Core.Path.{sym, ap, ◌∙◌}
use borrow.Author.Rules.{rules}
use native.Mathlib.Omega.{arith}
use lib.ListN.{length-take}
use Rattle.certify.specs.Answered.{weak_after}
use Rattle.certify.proofs.weak.Goals as goal

pub slice_bounds-remove-end : goal.slice_bounds-remove-end
slice_bounds-remove-end c = simp length-take (omega (arith, c.requires))

pub returns-in_err-fallen : goal.returns-in_err-fallen
returns-in_err-fallen c =
    let same : c.from_residual.result ≡ Err c.in_err-fallen.field-0.0 = search rules in
    same ∙ ap (weak_after c.args.cut) (sym c.in_err-fallen.was ∙ c.remove.ensures)

pub returns : goal.returns
returns c = ap (weak_after c.args.cut) (sym c.in_ok-fallen.was ∙ c.remove.ensures)
