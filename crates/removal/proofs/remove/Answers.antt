-- `remove` meets its contract: the tables have room for every plan, so the search is refused only where the plan is.
use Rattle.std.specs.Prelude.{◌≡◌, Err}
use borrow.Author.Rules.{rules}
use native.Mathlib.Omega.{arith}
use Rattle.connectivity.specs.Plan.{plan, limits}
use Rattle.removal.proofs.Parted.{ready}
use Rattle.removal.proofs.Falling.{packed-falls, removed_refused, removed_served}
use Rattle.removal.proofs.remove.Goals as goal

pub without-requires : goal.without-requires
without-requires c = ready limits

pub pack-requires : goal.pack-requires
pack-requires c =
    let e = rw c.in_ok-without.was at c.without.ensures in
    (e.admitted.vertices, omega (arith, e.admitted.vertices))

pub returns-in_err-without : goal.returns-in_err-without
returns-in_err-without c =
    let same : c.from_residual.result ≡ Err c.in_err-without.field-0.0 = search rules in
    let e = rw c.in_err-without.was at c.without.ensures in
    rw same (removed_refused limits (plan _ _ _) _ e.0 e.1)

pub returns : goal.returns
returns c =
    let e = rw c.in_ok-without.was at c.without.ensures in
    removed_served limits (plan _ _ _) _ e.admitted (packed-falls e c.pack.result c.pack.ensures)
