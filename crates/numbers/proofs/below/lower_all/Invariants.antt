-- `lower_all` meets its contract. The loop's invariant: the places from k on are done.
use mathlib.Core.Path.{◌≡◌}
use Prim.Native.Nat.{◌-◌, ◌≤◌}
use Rattle.numbers.specs.Tables.{lasts_down, overs_down}
use Rattle.numbers.proofs.below.lower_all.Given as goal

abbrev pub invariant-loop-k : goal.invariant-loop-k
invariant-loop-k l =
    (1 ≤ l.k) × (l.last ≡ lasts_down l.vertices l.ends l.first l.order l.initial.last (l.vertices - l.k)) × (l.over ≡ overs_down l.vertices l.ends l.first l.order l.number l.initial.over (l.vertices - l.k))
