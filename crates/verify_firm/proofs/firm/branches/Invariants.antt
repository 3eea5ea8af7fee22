-- `branches` meets its contract. The loop's invariant: so many of the first v vertices are branches.
use mathlib.Core.Path.{◌≡◌}
use Rattle.graph.specs.Marks.{rank}
use Rattle.verify_firm.specs.Marks.{is_forked}
use Rattle.verify_firm.proofs.firm.branches.Given as goal

abbrev pub invariant-loop-built : goal.invariant-loop-built
invariant-loop-built l = l.count ≡ rank (is_forked l.degree) l.built-index
