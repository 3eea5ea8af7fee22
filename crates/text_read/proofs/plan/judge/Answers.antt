-- `judge` meets its contract: each way out cites the law for its tests.
use mathlib.Core.Path.{refl, sym, ap, ◌∙◌}
use mathlib.Core.List.{List}
use Prim.Native.Nat.{ℕ}
use native.Mathlib.Omega.{arith}
use lib.ListN.{drop}
use Rattle.connectivity.specs.Plan.{limits}
use Rattle.graph.specs.Admission.{told_by}
use Rattle.text.specs.Column.{five, largest}
use Rattle.text.proofs.Reading.{too_few, too_many, too_long, no_space, to_lines}
use Rattle.text_read.proofs.Headers.{few}
use Rattle.text_read.proofs.plan.judge.Goals as goal

pub returns-then-vertices-lt2 : goal.returns-then-vertices-lt2
returns-then-vertices-lt2 c =
    let txt : List ℕ = c.args.text.now in
    c.number_alone.ensures ∙ sym (ap told_by (too_few five largest limits txt c.args.space c.args.header.vertices c.args.header.edges c.args.header.excluded (drop c.args.header.next txt) c.requires.vertices c.requires.edges c.requires.excluded c.requires.behind c.requires.form (omega arith)))

pub returns-then-vertices-gt-MAX_VERTICES : goal.returns-then-vertices-gt-MAX_VERTICES
returns-then-vertices-gt-MAX_VERTICES c =
    let txt : List ℕ = c.args.text.now in
    c.number_alone-then-vertices-gt-MAX_VERTICES.ensures ∙ sym (ap told_by (too_many five largest limits txt c.args.space c.args.header.vertices c.args.header.edges c.args.header.excluded (drop c.args.header.next txt) c.requires.vertices c.requires.edges c.requires.excluded c.requires.behind c.requires.form (omega arith) (omega arith)))

pub returns-then-edges-gt-MAX_EDGES : goal.returns-then-edges-gt-MAX_EDGES
returns-then-edges-gt-MAX_EDGES c =
    let txt : List ℕ = c.args.text.now in
    c.number_alone-then-edges-gt-MAX_EDGES.ensures ∙ sym (ap told_by (too_long five largest limits txt c.args.space c.args.header.vertices c.args.header.edges c.args.header.excluded (drop c.args.header.next txt) c.requires.vertices c.requires.edges c.requires.excluded c.requires.behind c.requires.form (omega arith) (omega arith) (omega arith)))

pub returns-then-space-edges : goal.returns-then-space-edges
returns-then-space-edges c =
    let txt : List ℕ = c.args.text.now in
    c.number_alone-then-space-edges.ensures ∙ sym (ap told_by (no_space five largest limits txt c.args.space c.args.header.vertices c.args.header.edges c.args.header.excluded (drop c.args.header.next txt) c.requires.vertices c.requires.edges c.requires.excluded c.requires.behind c.requires.form (omega arith) (omega arith) (omega arith) (omega arith)))

pub judge_lines-requires : goal.judge_lines-requires
judge_lines-requires c = omega (arith, c.requires.inside, few c.requires)

pub returns : goal.returns
returns c =
    let txt : List ℕ = c.args.text.now in
    c.judge_lines.ensures ∙ sym (ap told_by (to_lines five largest limits txt c.args.space c.args.header.vertices c.args.header.edges c.args.header.excluded (drop c.args.header.next txt) c.requires.vertices c.requires.edges c.requires.excluded c.requires.behind c.requires.form (omega arith) (omega arith) (omega arith) (omega arith) _ refl))
