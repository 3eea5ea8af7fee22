-- `firm_admitted` meets its contract: 9 by the length, else the rows.
use mathlib.Core.Path.{sym, ap, ◌∙◌}
use Prim.Native.Nat.{ℕ, ◌*◌}
use native.Mathlib.Omega.{arith}
use Rattle.connectivity.specs.Plan.{plan}
use Rattle.graph.specs.Admission.{told_by}
use Rattle.graph.proofs.Barring.{edges_few}
use Rattle.verify_firm.proofs.Judged.{firm_long, firm_rows}
use Rattle.verify_firm.proofs.firm.firm_admitted.Goals as goal

pub overflow_cast-edges : goal.overflow_cast-edges
overflow_cast-edges c =
    omega (arith, c.requires.kept_edges_lem, edges_few (plan c.args.counts.vertices c.args.ends.now c.args.excluded.now), c.requires.admitted.edges)

pub overflow_mul-edges : goal.overflow_mul-edges
overflow_mul-edges c = omega (arith, c.requires.kept_edges_lem, edges_few (plan c.args.counts.vertices c.args.ends.now c.args.excluded.now), c.requires.admitted.edges)

pub returns-then-list-edges : goal.returns-then-list-edges
returns-then-list-edges c =
    let p = c.requires in
    c.answer.ensures ∙ sym (ap told_by (firm_long _ _ (λ e. c.if-list-edges.true (e ∙ sym (ap (λ (m : ℕ). 3 * m) p.kept_edges_lem)))))

pub returns : goal.returns
returns c =
    let p = c.requires in
    c.judge_rows.ensures ∙ sym (ap told_by (firm_rows _ _ (c.if-list-edges.false ∙ ap (λ (m : ℕ). 3 * m) p.kept_edges_lem)))
