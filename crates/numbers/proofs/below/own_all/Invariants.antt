-- `own_all` meets its contract. The loop's invariant: the edges below e are done.
use mathlib.Core.Path.{◌≡◌}
use Rattle.numbers.specs.Tables.{owns_to}
use Rattle.numbers.proofs.below.own_all.Given as goal

abbrev pub invariant-loop-e : goal.invariant-loop-e
invariant-loop-e l = l.over ≡ owns_to l.vertices l.ends l.first l.number l.initial.over l.e
