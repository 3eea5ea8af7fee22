-- `apart` meets its contract. The loop's invariant: no branch stands at the rows passed.
use Prim.Native.Nat.{ℕ, ◌≤◌, ◌<◌}
use lib.ListN.{get_or}
use Rattle.verify_firm.specs.Marks.{from_at}
use Rattle.verify_firm.proofs.state.apart.Given as goal

abbrev pub invariant-loop-k : goal.invariant-loop-k
invariant-loop-k l = (m : ℕ) → l.i ≤ m → m < l.k → get_or l.degree (from_at l.list m) 0 < 3
