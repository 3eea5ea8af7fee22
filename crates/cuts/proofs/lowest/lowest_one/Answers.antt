-- `lowest_one` meets its contract: every edge before the one that is tried has been tried or passed over.
use mathlib.Core.Path.{sym, ◌∙◌}
use native.Mathlib.Omega.{arith}
use Rattle.connectivity.specs.Plan.{plan, graph, limits}
use Rattle.connectivity.specs.Graph.{Edge}
use Rattle.cuts.specs.Tries.{Ready}
use Rattle.cuts.proofs.First.{one_found, one_next, one_over}
use Rattle.cuts.proofs.Likes.{by_one, pass_one}
use Rattle.cuts.proofs.Trying.{one_twice, ready_again, restored_more}
use Rattle.cuts.proofs.lowest.lowest_one.Goals.{else-is_like-via-then-is_like+else-is_cut, else-is_like-via-else-is_like}
use Rattle.cuts.proofs.lowest.lowest_one.Goals as goal

pub is_cut-requires : goal.is_cut-requires
is_cut-requires c =
    let ready : let a = c.args in let l = c.loop-e in Ready limits (plan a.vertices a.ends.now a.excluded.now) a.incident.now a.begins.now a.first.now l.dead l.marks l.order l.cursor = ready_again c.requires.1 c.loop-e.invariant.1 in
    let edge : let a = c.args in Edge (graph (plan a.vertices a.ends.now a.excluded.now)) c.loop-e.e = ready.tables.masking _ (omega (arith, c.loop-e-test.true, c.requires.0.edges)) (rw c.if-is_like.true at c.is_like.ensures).0 in
    (ready, edge, edge)

pub returns-then-is_cut : goal.returns-then-is_cut
returns-then-is_cut c =
    let ready : let a = c.args in let l = c.loop-e in Ready limits (plan a.vertices a.ends.now a.excluded.now) a.incident.now a.begins.now a.first.now l.dead l.marks l.order l.cursor = ready_again c.requires.1 c.loop-e.invariant.1 in
    let edge : let a = c.args in Edge (graph (plan a.vertices a.ends.now a.excluded.now)) c.loop-e.e = ready.tables.masking _ (omega (arith, c.loop-e-test.true, c.requires.0.edges)) (rw c.if-is_like.true at c.is_like.ensures).0 in
    let t = c.is_cut.ensures in
    let l = c.loop-e in
    let h = c.loop-e-test.true in
    (l.invariant.0 ∙ one_found _ _ _ h (by_one _ _ edge ∙ sym (one_twice _ _) ∙ sym t.0 ∙ c.if-is_cut.true), restored_more l.invariant.1 t.1)

pub loop-e-preserved : goal.loop-e-preserved
loop-e-preserved c =
    let ready : let a = c.args in let l = c.loop-e in Ready limits (plan a.vertices a.ends.now a.excluded.now) a.incident.now a.begins.now a.first.now l.dead l.marks l.order l.cursor = ready_again c.requires.1 c.loop-e.invariant.1 in
    let l = c.loop-e in
    let h = c.loop-e-test.true in
    elim c.else-is_like.branch [
      | else-is_like-via-then-is_like+else-is_cut w ↦
          let edge : let a = c.args in Edge (graph (plan a.vertices a.ends.now a.excluded.now)) c.loop-e.e = ready.tables.masking _ (omega (arith, h, c.requires.0.edges)) (rw w.if-is_like.true at c.is_like.ensures).0 in
          let t = w.is_cut.ensures in
          rw (w.dead-is, w.marks-is, w.order-is, w.cursor-is) (l.invariant.0 ∙ one_next _ _ _ h (by_one _ _ edge ∙ sym (one_twice _ _) ∙ sym t.0 ∙ w.if-is_cut.false), restored_more l.invariant.1 t.1)
      | else-is_like-via-else-is_like w ↦ rw (w.dead-is, w.marks-is, w.order-is, w.cursor-is) (l.invariant.0 ∙ pass_one _ _ ready.live c.requires.0 h (rw w.if-is_like.false at c.is_like.ensures), l.invariant.1)
    ]

pub returns : goal.returns
returns c = let l = c.loop-e in (l.invariant.0 ∙ one_over _ l.e _ (omega (arith, c.loop-e-test.false, l.auto.e-end)), l.invariant.1)
