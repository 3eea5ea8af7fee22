-- `next_link` meets its contract. The loop's invariant: the places from the first up to m have no top.
use Rattle.std.proofs.Common.{◌≡◌, ℕ, ◌*◌, ◌<◌, ◌≤◌, get_or}
use Rattle.record.proofs.open.next_link.Given as goal

abbrev pub invariant-loop-m : goal.invariant-loop-m
invariant-loop-m l = (k : ℕ) → k < l.m → l.from ≤ k → get_or l.tips (2 * k) 0 ≡ 0
