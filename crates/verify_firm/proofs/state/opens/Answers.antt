-- `opens` meets its contract: it is refused by the first part that fails.
use mathlib.Core.Path.{sym, ◌∙◌}
use mathlib.Core.Bool.{true≢false}
use Rattle.verify_firm.proofs.state.opens.Goals as goal

pub returns-then-not-fresh : goal.returns-then-not-fresh
returns-then-not-fresh c p = true≢false (sym p.0 ∙ c.if-not-fresh.true)
