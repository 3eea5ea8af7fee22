-- `lines_fit` meets its contract. The loop's invariant: the text is in the form exactly if it is from line e on.
use mathlib.Core.Path.{◌≡◌}
use Prim.Native.Nat.{◌+◌, ◌*◌, ◌-◌}
use lib.ListN.{drop}
use Rattle.drawn.specs.Text.{form, edge_size, edges_fit}
use Rattle.drawn.proofs.judge.lines_fit.Given as goal

abbrev pub invariant-loop-e : goal.invariant-loop-e
invariant-loop-e l = edges_fit form l.edges (drop l.at l.text) ≡ edges_fit form (l.edges - l.e) (drop (l.at + l.e * edge_size form) l.text)
