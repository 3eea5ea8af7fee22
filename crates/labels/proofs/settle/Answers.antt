-- `settle` meets its contract. The loop's invariant: the places from k on are settled.
use mathlib.Core.Path.{◌≡◌, sym, subst}
use Prim.Native.Nat.{ℕ, ◌+◌, ◌-◌}
use native.Mathlib.Omega.{arith}
use Rattle.connectivity.specs.Plan.{plan}
use Rattle.labels.specs.Labels.{Settling}
use Rattle.labels.proofs.Settling.{settling_start, settling_step}
use Rattle.labels.proofs.settle.Goals as goal

pub loop-k-init : goal.loop-k-init
loop-k-init c = settling_start _ _ c.requires.4

pub loop-k-preserved : goal.loop-k-preserved
loop-k-preserved c =
    let a = c.args in
    let p = plan a.vertices a.ends.now a.excluded.now in
    let next : c.loop-k.k - 1 + 1 ≡ c.loop-k.k = omega arith in
    settling_step c.requires.0 (omega (arith, c.requires.0.edges)) (omega arith)
    (subst (λ (k : ℕ). Settling p a.first.now a.order.now a.labels.now a.sums.now c.loop-k.labels c.loop-k.sums k) (sym next) c.loop-k.invariant)
    c.settle_one.ensures

pub returns : goal.returns
returns c =
    let a = c.args in
    let end : c.loop-k.k ≡ 0 = omega arith in
    subst (λ (k : ℕ). Settling (plan a.vertices a.ends.now a.excluded.now) a.first.now a.order.now a.labels.now a.sums.now c.loop-k.labels c.loop-k.sums k) end c.loop-k.invariant
