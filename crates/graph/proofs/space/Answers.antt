-- `space` meets its contract.
use mathlib.Core.Path.{refl}
use Rattle.graph.proofs.space.Goals as goal

pub returns-then-short : goal.returns-then-short
returns-then-short c = rw c.if-short.true refl

pub returns : goal.returns
returns c = rw c.if-short.false refl
