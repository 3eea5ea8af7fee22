-- `lowest_with` meets its contract: every edge between the two has been tried or passed over.
use mathlib.Core.Path.{sym, ap, ◌∙◌}
use native.Mathlib.Omega.{arith}
use lib.ListN.{length}
use Rattle.connectivity.specs.Plan.{plan, graph, limits}
use Rattle.connectivity.specs.Graph.{Edge}
use Rattle.cuts.specs.Tries.{Ready}
use Rattle.cuts.proofs.First.{with_found}
use Rattle.cuts.proofs.Likes.{With, rest_less, by_two, with_same, with_start, with_on}
use Rattle.cuts.proofs.Trying.{ready_again, restored_same, restored_more}
use Rattle.cuts.proofs.lowest.lowest_with.Goals as goal

pub next_like-other-requires : goal.next_like-other-requires
next_like-other-requires c = let s = c.requires in (s.0.shown.room, omega (arith, s.0.shown.edges, s.2.tables.dead_room), s.1, s.3)

pub loop-other-init : goal.loop-other-init
loop-other-init c = let s = c.requires in (with_start _ _ s.2.live s.0 _ _ s.3 c.next_like-other.ensures, restored_same)

pub is_cut-requires : goal.is_cut-requires
is_cut-requires c =
    let ready : let a = c.args in let l = c.loop-other in Ready limits (plan a.vertices a.ends.now a.excluded.now) a.incident.now a.begins.now a.first.now l.dead l.marks l.order l.cursor = ready_again c.requires.2 c.loop-other.invariant.1 in
    let tried : let a = c.args in With (graph (plan a.vertices a.ends.now a.excluded.now)) a.labels.now c.loop-other.dead a.edges a.e c.in-Some.d = rw c.in-Some.is at c.loop-other.invariant.0 in
    let edge : let a = c.args in Edge (graph (plan a.vertices a.ends.now a.excluded.now)) a.e = let s = c.requires in s.2.tables.masking _ (omega (arith, s.3, s.0.shown.edges)) s.4 in
    let other : let a = c.args in Edge (graph (plan a.vertices a.ends.now a.excluded.now)) c.in-Some.d = ready.tables.masking _ (omega (arith, tried.high, c.requires.0.shown.edges)) tried.like.0 in
    (ready, edge, other)

pub returns-then-is_cut : goal.returns-then-is_cut
returns-then-is_cut c =
    let ready : let a = c.args in let l = c.loop-other in Ready limits (plan a.vertices a.ends.now a.excluded.now) a.incident.now a.begins.now a.first.now l.dead l.marks l.order l.cursor = ready_again c.requires.2 c.loop-other.invariant.1 in
    let tried : let a = c.args in With (graph (plan a.vertices a.ends.now a.excluded.now)) a.labels.now c.loop-other.dead a.edges a.e c.in-Some.d = rw c.in-Some.is at c.loop-other.invariant.0 in
    let edge : let a = c.args in Edge (graph (plan a.vertices a.ends.now a.excluded.now)) a.e = let s = c.requires in s.2.tables.masking _ (omega (arith, s.3, s.0.shown.edges)) s.4 in
    let other : let a = c.args in Edge (graph (plan a.vertices a.ends.now a.excluded.now)) c.in-Some.d = ready.tables.masking _ (omega (arith, tried.high, c.requires.0.shown.edges)) tried.like.0 in
    let t = c.is_cut.ensures in
    (tried.so_far ∙ with_found _ _ _ _ tried.high (by_two _ _ _ edge other ∙ sym t.0 ∙ c.if-is_cut.true), restored_more c.loop-other.invariant.1 t.1)

pub next_like-other-requires-in-Some : goal.next_like-other-requires-in-Some
next_like-other-requires-in-Some c =
    let ready : let a = c.args in let l = c.loop-other in Ready limits (plan a.vertices a.ends.now a.excluded.now) a.incident.now a.begins.now a.first.now l.dead l.marks l.order l.cursor = ready_again c.requires.2 c.loop-other.invariant.1 in
    let tried : let a = c.args in With (graph (plan a.vertices a.ends.now a.excluded.now)) a.labels.now c.loop-other.dead a.edges a.e c.in-Some.d = rw c.in-Some.is at c.loop-other.invariant.0 in
    let s = c.requires in
    (s.0.shown.room, omega (arith, s.0.shown.edges, ready.tables.dead_room, ap length c.is_cut.ensures.1.dead_same), s.1, tried.high)

pub loop-other-smaller : goal.loop-other-smaller
loop-other-smaller c =
    let tried : let a = c.args in With (graph (plan a.vertices a.ends.now a.excluded.now)) a.labels.now c.loop-other.dead a.edges a.e c.in-Some.d = rw c.in-Some.is at c.loop-other.invariant.0 in
    rw c.in-Some.is (rest_less _ _ _ c.next_like-other-in-Some.result tried.high c.next_like-other-in-Some.ensures)

pub loop-other-preserved : goal.loop-other-preserved
loop-other-preserved c =
    let ready : let a = c.args in let l = c.loop-other in Ready limits (plan a.vertices a.ends.now a.excluded.now) a.incident.now a.begins.now a.first.now l.dead l.marks l.order l.cursor = ready_again c.requires.2 c.loop-other.invariant.1 in
    let tried : let a = c.args in With (graph (plan a.vertices a.ends.now a.excluded.now)) a.labels.now c.loop-other.dead a.edges a.e c.in-Some.d = rw c.in-Some.is at c.loop-other.invariant.0 in
    let edge : let a = c.args in Edge (graph (plan a.vertices a.ends.now a.excluded.now)) a.e = let s = c.requires in s.2.tables.masking _ (omega (arith, s.3, s.0.shown.edges)) s.4 in
    let other : let a = c.args in Edge (graph (plan a.vertices a.ends.now a.excluded.now)) c.in-Some.d = ready.tables.masking _ (omega (arith, tried.high, c.requires.0.shown.edges)) tried.like.0 in
    let t = c.is_cut.ensures in
    let r = ready_again ready t.1 in
    let w = with_same t.1.dead_same tried in
    (with_on _ _ r.live c.requires.0 _ _ c.next_like-other-in-Some.result w (by_two _ _ _ edge other ∙ sym t.0 ∙ c.if-is_cut.false) c.next_like-other-in-Some.ensures, restored_more c.loop-other.invariant.1 t.1)
