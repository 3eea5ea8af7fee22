-- `put_marked` meets its contract. The loop's invariant: the list begins with the number and the marked vertices below v.
use Prim.Native.Nat.{◌+◌, ◌≤◌}
use Rattle.fallen_texts.specs.Listing.{marked_below, Begins}
use Rattle.fallen_texts.proofs.put_marked.Given as goal

abbrev pub invariant-loop-v : goal.invariant-loop-v
invariant-loop-v l = record { few : l.at ≤ l.v + 1; begins : Begins (marked_below l.count l.words l.v) l.list l.at }
