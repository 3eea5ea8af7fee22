-- `build_walks` meets its contract: both ends are made branches, and the three walks are built. The loop's invariant: k of them are built.
use Rattle.std.proofs.Common.{◌≡◌, ℕ, ◌+◌, List, length, set}
use Rattle.connectivity.specs.Plan.{limits}
use Rattle.record.specs.Opening.{Raw}
use Rattle.record.proofs.Opening.{Stage}
use Rattle.record.proofs.theta.build_walks.Given as goal

abbrev pub invariant-loop-k : goal.invariant-loop-k
invariant-loop-k l =
    (length l.places ≡ length l.initial.places) × (length l.below ≡ length l.initial.below) × (length l.tips ≡ length l.initial.tips) × (length l.over ≡ length l.initial.over)
    × ((blank-places blank-below : List ℕ) → l.initial.places ≡ set (set blank-places l.r 1) l.t.x 1 → l.initial.below ≡ set blank-below l.t.p (l.t.x + 1)
    → (c : Raw limits l.ends l.first l.r l.t.x l.t.e l.t.p l.t.f l.t.w l.t.d l.t.u blank-places blank-below l.initial.tips l.initial.over)
    → Stage blank-places blank-below l.initial.tips l.initial.over c l.k l.places l.below l.tips l.over l.next)
