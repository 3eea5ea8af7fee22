-- `branches` meets its contract: one vertex more is one branch more or none.
use mathlib.Core.Path.{◌≡◌, refl, sym, ap, ◌∙◌}
use mathlib.Core.Bool.{Bool, true, false, cond}
use mathlib.Core.List.{List}
use Prim.Native.Nat.{ℕ, ◌+◌, ◌≤◌, ◌<◌}
use native.Mathlib.Omega.{arith}
use mir.Val.{bool_byte}
use lib.Dec.{leb}
use lib.ListN.{get_or, take}
use lib.Seq.{get_or-take, length-take-le}
use Rattle.graph.specs.Marks.{rank}
use Rattle.graph.proofs.Rank.{rank-none, rank_next, rank_most}
use Rattle.verify_firm.specs.Marks.{is_forked}
use Rattle.verify_firm.proofs.firm.branches.Goals as goal

-- a test as a number
byte : (t : Bool) → bool_byte t ≡ cond t 1 0
byte true = refl
byte false = refl

-- the next vertex, in the part of the table that is asked
turn : (degree : List ℕ) (n v count one : ℕ) → v < n → count ≡ rank (is_forked degree) v → one ≡ bool_byte (leb 3 (get_or (take n degree) v 0))
    → (count + one ≡ rank (is_forked degree) (v + 1)) × (count + one ≤ n)
turn degree n v count one h p q =
    let here : one ≡ cond (is_forked degree v) 1 0 = q ∙ ap (λ (x : ℕ). bool_byte (leb 3 x)) (get_or-take n degree v 0 h) ∙ byte (is_forked degree v) in
    let more : count + one ≡ rank (is_forked degree) (v + 1) = omega (arith, p, here, rank_next (is_forked degree) v) in
    (more, omega (arith, more, rank_most (is_forked degree) (v + 1)))

pub loop-built-init : goal.loop-built-init
loop-built-init c = sym (rank-none _)

pub overflow_add-count : goal.overflow_add-count
overflow_add-count c =
    let a = c.args in
    let l = c.loop-built in
    omega (arith, (turn a.degree.now a.vertices l.built-index l.count c.from-count.result (omega (arith, length-take-le c.args.vertices c.args.degree.now c.requires)) l.invariant c.from-count.ensures).1, c.ranges.vertices)

pub loop-built-preserved : goal.loop-built-preserved
loop-built-preserved c =
    let a = c.args in
    let l = c.loop-built in
    (turn a.degree.now a.vertices l.built-index l.count c.from-count.result (omega (arith, length-take-le c.args.vertices c.args.degree.now c.requires)) l.invariant c.from-count.ensures).0

pub returns : goal.returns
returns c =
    let l = c.loop-built in
    let q : l.built-index ≡ c.args.vertices = omega (arith, length-take-le c.args.vertices c.args.degree.now c.requires) in
    l.invariant ∙ ap (rank (is_forked c.args.degree.now)) q
