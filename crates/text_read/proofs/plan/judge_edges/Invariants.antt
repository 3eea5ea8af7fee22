-- `judge_edges` meets its contract. The loop's invariant: the answer is the one from edge e on.
use mathlib.Core.Path.{◌≡◌}
use Prim.Native.Nat.{◌+◌, ◌*◌, ◌-◌}
use lib.ListN.{drop}
use Rattle.text.specs.Column.{five, largest, line_size}
use Rattle.text_read.specs.Header.{edge_lines_answer}
use Rattle.text_read.proofs.plan.judge_edges.Given as goal

abbrev pub invariant-loop-e : goal.invariant-loop-e
invariant-loop-e l =
    edge_lines_answer five largest l.vertices 0 l.edges (drop l.at l.text)
    ≡ edge_lines_answer five largest l.vertices l.e (l.edges - l.e) (drop (l.at + l.e * line_size five 2) l.text)
