-- `weak_admitted` meets its contract: 9, the first 11, then whether some vertex falls.
use mathlib.Core.Path.{◌≡◌, sym, ap, ◌∙◌}
use mathlib.Core.Bool.{Bool, true, false, cond, not}
use native.Mathlib.Omega.{arith}
use borrow.Author.Tests.{eq-eqb, ne_eqb}
use lib.Dec.{eqb}
use Rattle.connectivity.specs.Plan.{plan, graph}
use Rattle.connectivity.specs.Cut.{disconnects}
use Rattle.connectivity.specs.Admission.{passed}
use Rattle.connectivity.specs.Admission as meaning
use Rattle.connectivity.specs.Judge.{ascending, judge_weak}
use Rattle.graph.specs.declared.Answer.{Answer}
use Rattle.graph.specs.Admission.{told_by}
use Rattle.removal.proofs.Falling.{never_refused, removed_parts}
use Rattle.verify_weak.proofs.Weak.{edge_told, weak_long, weak_turn, weak_cut}
use Rattle.verify_weak.proofs.weak_admitted.Goals as goal

pub returns-then-list-gt2 : goal.returns-then-list-gt2
returns-then-list-gt2 c = c.answer.ensures ∙ sym (ap told_by (weak_long _ _ c.if-list-gt2.true))

pub rises-turn-requires : goal.rises-turn-requires
rises-turn-requires c = (omega arith, c.requires.edges)

pub returns-then-number-ne0 : goal.returns-then-number-ne0
returns-then-number-ne0 c =
    let turn : let a = c.args in c.rises-turn.result ≡ told_by (ascending (graph (plan a.vertices a.ends.now a.excluded.now)) 0 0 a.list.now) = c.rises-turn.ensures (graph (plan _ _ _)) (edge_told c.requires) in
    turn ∙ sym (ap told_by (weak_turn _ _ c.if-list-gt2.false (λ z. c.if-number-ne0.true (ap (λ (x : Answer). x.number) turn ∙ z))))

pub returns-in-Err : goal.returns-in-Err
returns-in-Err c = never_refused c.requires _ c.remove.ensures c.in-Err.is

pub returns-then-fallen-eq0 : goal.returns-then-fallen-eq0
returns-then-fallen-eq0 c =
    let parts : let a = c.args in disconnects (graph (plan a.vertices a.ends.now a.excluded.now)) a.list.now ≡ not (eqb c.in-Ok.fallen.count 0) = removed_parts c.requires _ c.remove.ensures c.in-Ok.is in
    let turn : let a = c.args in c.rises-turn.result ≡ told_by (ascending (graph (plan a.vertices a.ends.now a.excluded.now)) 0 0 a.list.now) = c.rises-turn.ensures (graph (plan _ _ _)) (edge_told c.requires) in
    let cut : (t : Bool) → let a = c.args in disconnects (graph (plan a.vertices a.ends.now a.excluded.now)) a.list.now ≡ t → judge_weak (graph (plan a.vertices a.ends.now a.excluded.now)) a.list.now ≡ cond t passed (meaning.answer 17 0) = λ t p. weak_cut _ _ c.if-list-gt2.false t (sym (ap (λ (x : Answer). x.number) turn) ∙ c.if-number-ne0.false) (sym p) in
    c.answer-then-fallen-eq0.ensures ∙ sym (ap told_by (cut false (parts ∙ rw (eq-eqb c.in-Ok.fallen.count 0 (omega (arith, c.if-fallen-eq0.true))))))

pub returns : goal.returns
returns c =
    let parts : let a = c.args in disconnects (graph (plan a.vertices a.ends.now a.excluded.now)) a.list.now ≡ not (eqb c.in-Ok.fallen.count 0) = removed_parts c.requires _ c.remove.ensures c.in-Ok.is in
    let turn : let a = c.args in c.rises-turn.result ≡ told_by (ascending (graph (plan a.vertices a.ends.now a.excluded.now)) 0 0 a.list.now) = c.rises-turn.ensures (graph (plan _ _ _)) (edge_told c.requires) in
    let cut : (t : Bool) → let a = c.args in disconnects (graph (plan a.vertices a.ends.now a.excluded.now)) a.list.now ≡ t → judge_weak (graph (plan a.vertices a.ends.now a.excluded.now)) a.list.now ≡ cond t passed (meaning.answer 17 0) = λ t p. weak_cut _ _ c.if-list-gt2.false t (sym (ap (λ (x : Answer). x.number) turn) ∙ c.if-number-ne0.false) (sym p) in
    c.answer-2.ensures ∙ sym (ap told_by (cut true (parts ∙ rw (ne_eqb c.in-Ok.fallen.count 0 (λ z. omega (arith, z, c.if-fallen-eq0.false))))))
