-- `chain` meets its contract: the chains that are made serve.
use native.Mathlib.Omega.{arith}
use Rattle.cuts.proofs.Likes.{chained}
use Rattle.components.proofs.pairs.chain.Goals as goal

pub returns : goal.returns
returns c = let p = c.requires in chained c.chain.ensures p.0 p.1 (omega arith)
