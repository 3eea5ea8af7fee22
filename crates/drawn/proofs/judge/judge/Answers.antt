-- `judge` meets its contract: each way out cites the law for its tests.
use mathlib.Core.Path.{sym, ap, ◌∙◌}
use native.Mathlib.Omega.{arith}
use Rattle.connectivity.specs.Plan.{limits}
use Rattle.graph.specs.Admission.{told_by}
use Rattle.drawn.specs.Text.{form}
use Rattle.drawn.proofs.Reading.{no_width, too_few, too_many, too_long, short_ends, short_numbers, by_lines}
use Rattle.drawn.proofs.judge.judge.Goals as goal

pub returns-then-header-eq0 : goal.returns-then-header-eq0
returns-then-header-eq0 c =
    let a = c.args in
    let h = c.requires in
    c.number_alone.ensures ∙ sym (ap told_by (no_width form limits a.text.now a.ends a.numbers a.header.vertices a.header.edges a.header.least h.vertices h.edges h.least h.form c.if-header-eq0.true))

pub returns-then-vertices-lt2 : goal.returns-then-vertices-lt2
returns-then-vertices-lt2 c =
    let a = c.args in
    let h = c.requires in
    c.number_alone-then-vertices-lt2.ensures ∙ sym (ap told_by (too_few form limits a.text.now a.ends a.numbers a.header.vertices a.header.edges a.header.least h.vertices h.edges h.least h.form c.if-header-eq0.false (omega arith)))

pub returns-then-vertices-gt-MAX_VERTICES : goal.returns-then-vertices-gt-MAX_VERTICES
returns-then-vertices-gt-MAX_VERTICES c =
    let a = c.args in
    let h = c.requires in
    c.number_alone-then-vertices-gt-MAX_VERTICES.ensures ∙ sym (ap told_by (too_many form limits a.text.now a.ends a.numbers a.header.vertices a.header.edges a.header.least h.vertices h.edges h.least h.form c.if-header-eq0.false (omega arith) (omega arith)))

pub returns-then-edges-gt-MAX_EDGES : goal.returns-then-edges-gt-MAX_EDGES
returns-then-edges-gt-MAX_EDGES c =
    let a = c.args in
    let h = c.requires in
    c.number_alone-then-edges-gt-MAX_EDGES.ensures ∙ sym (ap told_by (too_long form limits a.text.now a.ends a.numbers a.header.vertices a.header.edges a.header.least h.vertices h.edges h.least h.form c.if-header-eq0.false (omega arith) (omega arith) (omega arith)))

pub returns-then-ends-edges : goal.returns-then-ends-edges
returns-then-ends-edges c =
    let a = c.args in
    let h = c.requires in
    c.number_alone-then-ends-edges.ensures ∙ sym (ap told_by (short_ends form limits a.text.now a.ends a.numbers a.header.vertices a.header.edges a.header.least h.vertices h.edges h.least h.form c.if-header-eq0.false (omega arith) (omega arith) (omega arith) (omega arith)))

pub returns-then-numbers-edges : goal.returns-then-numbers-edges
returns-then-numbers-edges c =
    let a = c.args in
    let h = c.requires in
    c.number_alone-then-numbers-edges.ensures ∙ sym (ap told_by (short_numbers form limits a.text.now a.ends a.numbers a.header.vertices a.header.edges a.header.least h.vertices h.edges h.least h.form c.if-header-eq0.false (omega arith) (omega arith) (omega arith) (omega arith) (omega arith)))

pub returns : goal.returns
returns c =
    let a = c.args in
    let h = c.requires in
    c.judge_lines.ensures ∙ sym (ap told_by (by_lines form limits a.text.now a.ends a.numbers a.header.vertices a.header.edges a.header.least h.vertices h.edges h.least h.form c.if-header-eq0.false (omega arith) (omega arith) (omega arith) (omega arith) (omega arith)))
