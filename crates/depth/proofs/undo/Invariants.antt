-- `undo` meets its contract. The loop's invariant: the marks of the vertices at the places from the first up to i are 0.
use Prim.Native.Nat.{ℕ, ◌≤◌, ◌<◌}
use Rattle.depth.specs.Depth.{Undone}
use Rattle.depth.proofs.undo.Given as goal

abbrev pub invariant-loop-i : goal.invariant-loop-i
invariant-loop-i l = ((k : ℕ) → k < l.i → l.from ≤ k → k < l.last) × Undone l.order l.from l.i l.initial.first l.first
