-- `counted` meets its contract: the constructor is asked of the two parts of the table.
use mathlib.Core.Path.{◌≡◌, ap, ◌∙◌}
use Prim.Native.Nat.{ℕ, ◌+◌, ◌*◌, ◌-◌}
use native.Mathlib.Omega.{arith}
use lib.ListN.{take, drop, length-take}
use Rattle.connectivity.specs.Plan.{plan, limits}
use Rattle.graph.specs.Admission.{constructed}
use Rattle.text_read.proofs.plan.counted.Goals as goal

pub slice_bounds-new-end : goal.slice_bounds-new-end
slice_bounds-new-end c = simp length-take (omega (arith, c.requires))

pub returns : goal.returns
returns c =
    let h = c.args.header in
    let t = c.args.table.now in
    let k : 2 * h.edges + h.excluded - 2 * h.edges ≡ h.excluded = omega arith in
    c.new.ensures ∙ ap (λ (n : ℕ). constructed limits (plan h.vertices (take (2 * h.edges) t) (take n (drop (2 * h.edges) t)))) k
