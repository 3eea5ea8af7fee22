-- `judge_edges` meets its contract: a line that is not in the form or an edge that does not fit ends it, and after the last line nothing is left.
use mathlib.Core.Path.{◌≡◌, sym, ap, ◌∙◌}
use Prim.Native.Nat.{◌+◌, ◌*◌, ◌-◌}
use native.Mathlib.Omega.{arith}
use lib.ListN.{drop}
use Rattle.graph.specs.Admission.{told_by}
use Rattle.text.specs.Column.{five, largest, line_size}
use Rattle.text_read.proofs.Edges.{edge_at, edge_none, edge_next, edge_stop, edges_over}
use Rattle.text_read.proofs.plan.judge_edges.Goals as goal

pub returns-in_default : goal.returns-in_default
returns-in_default c =
    let a = c.args in
    let e = c.loop-e.e in
    let f = c.in_default.ensures in
    c.number_alone.ensures ∙ sym (ap told_by (c.loop-e.invariant ∙ edge_none five largest a.vertices e (a.at + e * line_size five 2) (a.edges - e) a.text.now (omega arith) f))

pub returns-then-number-ne0 : goal.returns-then-number-ne0
returns-then-number-ne0 c =
    let a = c.args in
    let e = c.loop-e.e in
    let next = a.at + e * line_size five 2 in
    let r = c.in-Some.ensures in
    let judged : c.judge_edge-number.result ≡ edge_at five a.vertices (drop next a.text.now) = c.judge_edge-number.ensures ∙ rw (r.first, r.second) in
    let q = edge_stop five largest a.vertices e next (a.edges - e) a.text.now (omega arith) r.fits (λ z. c.if-number-ne0.true (judged ∙ z)) in
    c.if_fits.ensures ∙ rw (c.lines_begin.ensures, judged) (sym (ap told_by (c.loop-e.invariant ∙ q)))

pub loop-e-preserved : goal.loop-e-preserved
loop-e-preserved c =
    let a = c.args in
    let e = c.loop-e.e in
    let next = a.at + e * line_size five 2 in
    let r = c.in-Some.ensures in
    let judged : c.judge_edge-number.result ≡ edge_at five a.vertices (drop next a.text.now) = c.judge_edge-number.ensures ∙ rw (r.first, r.second) in
    let left : a.edges - (e + 1) ≡ a.edges - e - 1 = omega arith in
    let behind : a.at + (e + 1) * line_size five 2 ≡ next + line_size five 2 = omega arith in
    rw (left, behind) (c.loop-e.invariant ∙ edge_next five largest a.vertices e next (a.edges - e) a.text.now (omega arith) r.fits (sym judged ∙ c.if-number-ne0.false))

pub returns : goal.returns
returns c =
    let a = c.args in
    let e = c.loop-e.e in
    c.number_alone-2.ensures ∙ sym (ap told_by (c.loop-e.invariant ∙ edges_over five largest a.vertices e (a.edges - e) (drop (a.at + e * line_size five 2) a.text.now) (omega arith)))
