-- `lines_fit` meets its contract: a line that is not in the form ends it, and after the last one nothing follows.
use mathlib.Core.Path.{◌≡◌, sym, ◌∙◌}
use Prim.Native.Nat.{◌+◌, ◌*◌, ◌-◌}
use native.Mathlib.Omega.{arith}
use lib.ListN.{drop}
use Rattle.drawn.specs.Text.{form, edge_size}
use Rattle.drawn.proofs.Edges.{fit_next, fit_over}
use Rattle.drawn.proofs.Lines.{fits_some}
use Rattle.drawn.proofs.judge.lines_fit.Goals as goal

pub returns-then-is_none : goal.returns-then-is_none
returns-then-is_none c =
    let a = c.args in
    let e = c.loop-e.e in
    let f = fits_some form (drop (a.at + e * edge_size form) a.text.now) c.read_edge.result c.read_edge.ensures ∙ c.if-is_none.ensures in
    sym (c.loop-e.invariant ∙ fit_next form (a.at + e * edge_size form) (a.edges - e) a.text.now (omega arith) ∙ rw f)

pub loop-e-preserved : goal.loop-e-preserved
loop-e-preserved c =
    let a = c.args in
    let e = c.loop-e.e in
    let f = fits_some form (drop (a.at + e * edge_size form) a.text.now) c.read_edge.result c.read_edge.ensures ∙ c.if-is_none.ensures in
    let left : a.edges - (e + 1) ≡ a.edges - e - 1 = omega arith in
    let behind : a.at + (e + 1) * edge_size form ≡ a.at + e * edge_size form + edge_size form = omega arith in
    rw (left, behind) (c.loop-e.invariant ∙ fit_next form (a.at + e * edge_size form) (a.edges - e) a.text.now (omega arith) ∙ rw f)

pub returns : goal.returns
returns c =
    let a = c.args in
    let e = c.loop-e.e in
    sym (c.loop-e.invariant ∙ fit_over form (a.at + e * edge_size form) (a.edges - e) a.text.now (omega arith) (omega arith))
