-- `place` meets its contract: each way out is one of the cases of the pass.
use Rattle.components.proofs.Splitting.{placing_lowest, placing_stays, placing_first, placing_later}
use Rattle.components.proofs.split.place.Goals as goal

pub returns-then-lowest-at : goal.returns-then-lowest-at
returns-then-lowest-at c = λ n before l p. placing_lowest p l c.if-lowest-at.true

pub returns-then-is_alike : goal.returns-then-is_alike
returns-then-is_alike c = λ n before l p. placing_stays p l c.if-lowest-at.false (rw c.if-is_alike.true at c.is_alike.ensures)

pub returns-then-first-eq0 : goal.returns-then-first-eq0
returns-then-first-eq0 c = λ n before l p. placing_first p l c.if-lowest-at.false (rw c.if-is_alike.false at c.is_alike.ensures) c.if-first-eq0.true

pub returns : goal.returns
returns c = λ n before l p. placing_later p l c.if-lowest-at.false (rw c.if-is_alike.false at c.is_alike.ensures) c.if-first-eq0.false
