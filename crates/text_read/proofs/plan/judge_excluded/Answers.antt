-- `judge_excluded` meets its contract: a line that is not in the form or a vertex that does not rise ends it, and after the last line nothing is
-- left.
use mathlib.Core.Path.{◌≡◌, sym, ap, ◌∙◌}
use mathlib.Core.Bool.{true, ◌&&◌}
use Prim.Native.Nat.{◌+◌, ◌*◌, ◌-◌}
use native.Mathlib.Omega.{arith}
use lib.Dec.{ltb, leb}
use lib.ListN.{drop}
use Rattle.graph.specs.Admission.{told_by}
use Rattle.text.specs.Column.{five, largest, line_size}
use Rattle.text_read.proofs.Edges.{excluded_on, excluded_none, excluded_next, excluded_stop, excluded_over}
use Rattle.text_read.proofs.plan.judge_excluded.Goals as goal

pub returns-in_default : goal.returns-in_default
returns-in_default c =
    let a = c.args in
    let l = c.loop-k in
    let f = c.in_default.ensures in
    c.number_alone.ensures ∙ sym (ap told_by (l.invariant ∙ excluded_none five largest a.vertices l.k l.low (a.at + l.k * line_size five 1) (a.excluded - l.k) a.text.now (omega arith) f))

pub returns-then-not-between : goal.returns-then-not-between
returns-then-not-between c =
    let a = c.args in
    let l = c.loop-k in
    let next = a.at + l.k * line_size five 1 in
    let v = excluded_on five (drop next a.text.now) in
    let r = c.in-Some.ensures in
    let judged : c.between.result ≡ (leb l.low v && ltb v a.vertices) = c.between.ensures ∙ rw (r.first) in
    let q = excluded_stop five largest a.vertices l.k l.low next (a.excluded - l.k) a.text.now (omega arith) r.fits (sym judged ∙ c.if-not-between.true) in
    c.if_fits.ensures ∙ rw c.lines_begin.ensures (sym (ap told_by (l.invariant ∙ q)))

pub loop-k-preserved : goal.loop-k-preserved
loop-k-preserved c =
    let a = c.args in
    let l = c.loop-k in
    let next = a.at + l.k * line_size five 1 in
    let v = excluded_on five (drop next a.text.now) in
    let r = c.in-Some.ensures in
    let rises : (leb l.low v && ltb v a.vertices) ≡ true = sym (c.between.ensures ∙ rw (r.first)) ∙ c.if-not-between.false in
    let left : a.excluded - (l.k + 1) ≡ a.excluded - l.k - 1 = omega arith in
    let behind : a.at + (l.k + 1) * line_size five 1 ≡ next + line_size five 1 = omega arith in
    rw (left, behind, r.first) (l.invariant ∙ excluded_next five largest a.vertices l.k l.low next (a.excluded - l.k) a.text.now (omega arith) r.fits rises)

pub returns : goal.returns
returns c =
    let a = c.args in
    let l = c.loop-k in
    c.number_alone-2.ensures ∙ sym (ap told_by (l.invariant ∙ excluded_over five largest a.vertices l.k l.low (a.excluded - l.k) (drop (a.at + l.k * line_size five 1) a.text.now) (omega arith)))
