-- `part` meets its contract: the groups are taken apart where the vertex has no mark.
use mathlib.Core.Path.{refl}
use Prim.Native.Nat.{ℕ}
use native.Mathlib.Omega.{arith}
use lib.ListN.{replicate, length-replicate}
use Rattle.connectivity.specs.Plan.{limits}
use Rattle.components.specs.Tries.{seen, cut_off}
use Rattle.components.proofs.Splitting.{placing_start}
use borrow.Author.Rules.{rules}
use Rattle.components.proofs.tries.part.Goals as goal

pub returns-then-marks-v-ne0 : goal.returns-then-marks-v-ne0
returns-then-marks-v-ne0 c = seen c.if-marks-v-ne0.true refl

pub split-requires : goal.split-requires
split-requires c = let p = c.requires in placing_start c.args.marks.now (replicate 1000 0) c.args.table.now p.2 (omega (arith, p.1, length-replicate {A = ℕ} limits.vertices 0)) p.3 p.4

pub returns : goal.returns
returns c = cut_off c.if-marks-v-ne0.false (search rules) c.split.ensures
