-- `without` meets its contract: what the search has seen is what the lowest vertex reaches once the cut is removed.
use mathlib.Core.Bool.{true}
use native.Mathlib.Omega.{arith}
use Rattle.connectivity.specs.Plan.{plan, limits}
use Rattle.connectivity.specs.Admission.{Admitted}
use Rattle.connectivity.proofs.Kept.{vertex_size}
use Rattle.graph.proofs.Telling.{told_admitted}
use Rattle.graph.proofs.Barring.{lowest_is}
use Rattle.removal.proofs.Parted.{whole_told, own_refusal, searched}
use Rattle.removal.proofs.without.Goals as goal

pub own-answer-requires : goal.own-answer-requires
own-answer-requires c =
    whole_told c.requires c.fill-filled.ensures

pub returns-then-number-ne0 : goal.returns-then-number-ne0
returns-then-number-ne0 c = own_refusal c.own-answer.ensures c.if-number-ne0.true

pub overflow_cast-root : goal.overflow_cast-root
overflow_cast-root c =
    let passed : let a = c.args in Admitted limits (plan a.vertices a.ends.now a.excluded.now) = told_admitted limits (plan _ _ _) true c.own-answer.ensures c.if-number-ne0.false in
    let admitted = passed in
    omega (arith, c.lowest_kept-root.ensures, vertex_size (plan _ _ _) (lowest_is admitted).vertex, admitted.vertices)

pub returns : goal.returns
returns c =
    let passed : let a = c.args in Admitted limits (plan a.vertices a.ends.now a.excluded.now) = told_admitted limits (plan _ _ _) true c.own-answer.ensures c.if-number-ne0.false in
    searched (passed) c.requires c.fill-filled.ensures c.mark.ensures c.mask.ensures _ _ _ c.explore.result (rw c.lowest_kept-root.ensures at c.explore.ensures)
