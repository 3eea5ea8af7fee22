-- `judge_excluded` meets its contract. The loop's invariant: the answer is the one from line k on.
use mathlib.Core.Path.{◌≡◌}
use Prim.Native.Nat.{◌+◌, ◌*◌, ◌-◌}
use lib.ListN.{drop}
use Rattle.text.specs.Column.{five, largest, line_size}
use Rattle.text_read.specs.Header.{excluded_lines_answer}
use Rattle.text_read.proofs.plan.judge_excluded.Given as goal

abbrev pub invariant-loop-k : goal.invariant-loop-k
invariant-loop-k l =
    excluded_lines_answer five largest l.vertices 0 0 l.excluded (drop l.at l.text)
    ≡ excluded_lines_answer five largest l.vertices l.k l.low (l.excluded - l.k) (drop (l.at + l.k * line_size five 1) l.text)
