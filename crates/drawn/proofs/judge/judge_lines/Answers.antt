-- `judge_lines` meets its contract: of another length the text is not in the form.
use mathlib.Core.Path.{sym, ap, ◌∙◌}
use native.Mathlib.Omega.{arith}
use lib.ListN.{drop, length-drop}
use Rattle.graph.specs.Admission.{told_by}
use Rattle.drawn.specs.Text.{form, header_size}
use Rattle.drawn.proofs.Edges.{lines_unfit}
use Rattle.drawn.proofs.judge.judge_lines.Goals as goal

pub returns-then-text-edges : goal.returns-then-text-edges
returns-then-text-edges c =
    let a = c.args in
    c.number_alone.ensures
    ∙ sym (ap told_by (lines_unfit form a.vertices 0 a.edges (drop (header_size form) a.text.now) (λ z. c.if-text-edges.true (omega (arith, z, length-drop (header_size form) a.text.now)))))
