-- `is_last` meets its contract: no row follows, or the next one's step is compared.
use mathlib.Core.Path.{sym}
use native.Mathlib.Omega.{arith}
use Rattle.verify_firm.proofs.Tests.{last_over, last_next}
use Rattle.verify_firm.proofs.firm.is_last.Goals as goal

pub returns-then-row-edges : goal.returns-then-row-edges
returns-then-row-edges c = sym (last_over c.args.list.now c.args.row (omega (arith, c.requires.1, c.if-row-edges.true)))

pub returns : goal.returns
returns c =
    sym (last_next c.args.list.now c.args.row (omega (arith, c.requires.0, c.requires.1, c.if-row-edges.false)))
