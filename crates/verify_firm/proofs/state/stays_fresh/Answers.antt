-- `stays_fresh` meets its contract: it is refused by the first part that fails.
use mathlib.Core.Path.{sym, ◌∙◌}
use mathlib.Core.Bool.{true≢false}
use Rattle.verify_firm.proofs.state.stays_fresh.Goals as goal

pub returns-then-not-fresh : goal.returns-then-not-fresh
returns-then-not-fresh c p = true≢false (sym p.0 ∙ c.if-not-fresh.true)

pub returns : goal.returns
returns c = (c.if-not-fresh.false, c.if-built-ne0.false, c.if-mark-ne0.false, c.if-v-start.false)
