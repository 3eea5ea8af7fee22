-- `Graph::new` meets its contract: each way out cites the law for its tests.
use Rattle.std.specs.Prelude.{Err}
use mathlib.Core.Path.{sym, ap, ◌∙◌}
use native.Mathlib.Omega.{arith}
use Rattle.connectivity.specs.Plan.{limits}
use Rattle.connectivity.proofs.Admission.{told_zero, ends_told}
use Rattle.graph.specs.declared.Answer.{Answer}
use Rattle.graph.specs.Admission.{handed}
use Rattle.graph.proofs.Laws.{odd, too_few, too_many, too_long, misfit}
use Rattle.graph.proofs.Graph.new.Goals as goal

pub returns-then-ends-ne0 : goal.returns-then-ends-ne0
returns-then-ends-ne0 c = ap handed c.refused.ensures ∙ sym (odd limits _ (omega arith))

pub returns-then-vertices-lt2 : goal.returns-then-vertices-lt2
returns-then-vertices-lt2 c = ap handed c.refused-then-vertices-lt2.ensures ∙ sym (too_few limits _ (omega arith) (omega arith))

pub returns-then-vertices-gt-MAX_VERTICES : goal.returns-then-vertices-gt-MAX_VERTICES
returns-then-vertices-gt-MAX_VERTICES c = ap handed c.refused-then-vertices-gt-MAX_VERTICES.ensures ∙ sym (too_many limits _ (omega arith) (omega arith) (omega arith))

pub returns-then-ends-gt-MAX_EDGES : goal.returns-then-ends-gt-MAX_EDGES
returns-then-ends-gt-MAX_EDGES c = ap handed c.refused-then-ends-gt-MAX_EDGES.ensures ∙ sym (too_long limits _ (omega arith) (omega arith) (omega arith) (omega arith))

pub returns-then-first-ne0 : goal.returns-then-first-ne0
returns-then-first-ne0 c =
    let e = c.judge_ends-fit.ensures in
    let same = ap (λ (a : Answer). a.number) e in
    ap (λ (a : Answer). handed (Err a)) e ∙ sym (misfit limits _ (omega arith) (omega arith) (omega arith) (omega arith) (omega arith))

pub admit-requires : goal.admit-requires
admit-requires c =
    let same = ap (λ (a : Answer). a.number) c.judge_ends-fit.ensures in
    record { even = omega arith; two = omega arith; small = omega arith; short = omega arith; fits = told_zero (ends_told _ 0 _) (omega arith) }

pub returns : goal.returns
returns c = c.admit.ensures
