-- `count_kept` meets its contract: of an admitted plan an edge is kept exactly where it has no mark; without excluded vertices each is.
use mathlib.Core.Path.{◌≡◌, sym, ap, ◌∙◌}
use mathlib.Core.List.{List, [], ◌∷◌}
use Prim.Native.Nat.{ℕ, ◌/◌}
use native.Mathlib.Omega.{arith}
use lib.ListN.{length, length-replicate}
use Rattle.connectivity.specs.Plan.{plan, Limits, limits}
use Rattle.connectivity.specs.Admission.{kept_edges, Admitted}
use Rattle.connectivity.proofs.Lists.{length-range}
use Rattle.connectivity.proofs.Kept.{entire-edges}
use lib.Dec.{eqb}
use Rattle.graph.proofs.Rank.{rank-count}
use Rattle.graph.proofs.Tally.{zeros}
use Rattle.graph.proofs.Barring.{kept_edges_lem}
use Rattle.graph.proofs.excluded.count_kept.Goals as goal

all_kept : {most : Limits} (n : ℕ) (ends excluded : List ℕ) → length excluded ≡ 0 → Admitted most (plan n ends excluded) → length ends / 2 ≡ kept_edges (plan n ends excluded)
all_kept n ends [] z a = sym (ap length (entire-edges a) ∙ length-range 0 (length ends / 2))
all_kept n ends (v ∷ rest) z a = absurd (omega (arith, z))

pub overflow_cast-result : goal.overflow_cast-result
overflow_cast-result c = omega (arith, c.requires.edges)

pub returns-then-excluded-eq0 : goal.returns-then-excluded-eq0
returns-then-excluded-eq0 c = all_kept c.args.vertices c.args.ends.now c.args.excluded.now c.if-excluded-eq0.true c.requires

pub count_open-requires : goal.count_open-requires
count_open-requires c =
    let most = c.requires.edges in
    (most, omega (arith, c.mask.ensures.long, most, length-replicate {A = ℕ} limits.edges 0))

pub returns : goal.returns
returns c =
    let a = c.requires in
    c.count_open.ensures ∙ sym (rank-count (λ mark. eqb mark 0) c.mask.new.dead (length c.args.ends.now / 2) (omega (arith, a.edges, c.mask.ensures.long, length-replicate {A = ℕ} limits.edges 0))) ∙ kept_edges_lem a c.mask.ensures (omega (arith, a.edges, length-replicate {A = ℕ} limits.edges 0)) (λ e. zeros limits.edges e)
