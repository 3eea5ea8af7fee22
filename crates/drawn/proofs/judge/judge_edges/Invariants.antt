-- `judge_edges` meets its contract. The loop's invariant: the answer is the one from drawn tab e on.
use mathlib.Core.Path.{◌≡◌}
use Prim.Native.Nat.{◌+◌, ◌*◌, ◌-◌}
use lib.ListN.{drop}
use Rattle.drawn.specs.Text.{form, header_size, edge_size}
use Rattle.drawn.specs.Line.{lines_answer}
use Rattle.drawn.proofs.judge.judge_edges.Given as goal

abbrev pub invariant-loop-e : goal.invariant-loop-e
invariant-loop-e l =
    lines_answer form l.vertices 0 l.edges (drop (header_size form) l.text)
    ≡ lines_answer form l.vertices l.e (l.edges - l.e) (drop (header_size form + l.e * edge_size form) l.text)
