-- `next_slot` meets its contract. The loop's invariant: the edges from the first place up to k are built.
use Rattle.std.proofs.Common.{◌≡◌, ℕ, ◌<◌, ◌≤◌, get_or}
use Rattle.graph.specs.Marks.{read}
use Rattle.record.proofs.open.next_slot.Given as goal

abbrev pub invariant-loop-k : goal.invariant-loop-k
invariant-loop-k l = (j : ℕ) → j < l.k → l.from ≤ j → read l.over (get_or l.incident j 0) ≡ 0
