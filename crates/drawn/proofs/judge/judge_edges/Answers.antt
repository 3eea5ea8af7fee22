-- `judge_edges` meets its contract: a line that is not in the form or a tab that does not fit ends it, and after the last line nothing is left.
use mathlib.Core.Path.{◌≡◌, sym, ap, ◌∙◌}
use Prim.Native.Nat.{◌+◌, ◌*◌, ◌-◌}
use native.Mathlib.Omega.{arith}
use lib.ListN.{drop}
use Rattle.graph.specs.Admission.{told_by}
use Rattle.drawn.specs.Text.{form, header_size, edge_size}
use Rattle.drawn.proofs.Edges.{edge_at, edge_none, edge_next, edge_stop, edges_over}
use Rattle.drawn.proofs.judge.judge_edges.Goals as goal

pub returns-in_default : goal.returns-in_default
returns-in_default c =
    let a = c.args in
    let e = c.loop-e.e in
    let f = c.in_default.ensures in
    c.number_alone.ensures
    ∙ sym (ap told_by (c.loop-e.invariant ∙ edge_none form (header_size form + e * edge_size form) (a.edges - e) a.text.now (omega arith) a.vertices e f))

pub returns-then-number-ne0 : goal.returns-then-number-ne0
returns-then-number-ne0 c =
    let a = c.args in
    let e = c.loop-e.e in
    let next = header_size form + e * edge_size form in
    let r = c.in-Some.ensures in
    let judged : c.judge_edge-number.result ≡ edge_at form a.vertices (drop next a.text.now) = c.judge_edge-number.ensures ∙ rw (r.left, r.right) in
    let q = edge_stop form next (a.edges - e) a.text.now (omega arith) a.vertices e r.fits (λ z. c.if-number-ne0.true (judged ∙ z)) in
    c.if_fits.ensures ∙ rw (c.lines_fit.ensures, judged) (sym (ap told_by (c.loop-e.invariant ∙ q)))

pub loop-e-preserved : goal.loop-e-preserved
loop-e-preserved c =
    let a = c.args in
    let e = c.loop-e.e in
    let next = header_size form + e * edge_size form in
    let r = c.in-Some.ensures in
    let judged : c.judge_edge-number.result ≡ edge_at form a.vertices (drop next a.text.now) = c.judge_edge-number.ensures ∙ rw (r.left, r.right) in
    let left : a.edges - (e + 1) ≡ a.edges - e - 1 = omega arith in
    let behind : header_size form + (e + 1) * edge_size form ≡ next + edge_size form = omega arith in
    rw (left, behind) (c.loop-e.invariant ∙ edge_next form next (a.edges - e) a.text.now (omega arith) a.vertices e r.fits (sym judged ∙ c.if-number-ne0.false))

pub returns : goal.returns
returns c =
    let a = c.args in
    let e = c.loop-e.e in
    c.number_alone-2.ensures
    ∙ sym (ap told_by (c.loop-e.invariant ∙ edges_over form (header_size form + e * edge_size form) (a.edges - e) a.text.now (omega arith) (omega arith) a.vertices e))
