-- `closed` meets its contract: the steps are counted, then the branches.
use mathlib.Core.Path.{sym, ◌∙◌}
use Rattle.verify_firm.proofs.Tests.{tells_same}
use Rattle.verify_firm.proofs.firm.closed.Goals as goal

pub returns : goal.returns
returns c = let q = c.branches.ensures in tells_same _ _ (λ e. (c.if-steps-lt3.false, sym q ∙ e)) (λ p. q ∙ p.1)
