-- `number_all` meets its contract. The loop's invariant: both tables have the first k places.
use mathlib.Core.Path.{◌≡◌}
use Rattle.numbers.specs.Tables.{numbers_to}
use Rattle.numbers.proofs.number_all.Given as goal

abbrev pub invariant-loop-k : goal.invariant-loop-k
invariant-loop-k l = (l.number ≡ numbers_to l.vertices l.order l.initial.number l.k) × (l.last ≡ numbers_to l.vertices l.order l.initial.last l.k)
