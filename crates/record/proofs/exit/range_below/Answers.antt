-- `range_below` meets its contract: its numbers are those of the child that is noted.
use Rattle.std.proofs.Common.{◌≡◌, ℕ, suc, ◌-◌, ◌<◌, length, arith}
use Rattle.graph.specs.Marks.{read}
use Rattle.record.proofs.Exits.{under_none, under_some}
use Rattle.record.proofs.exit.range_below.Goals as goal

pub returns-then-next-eq0 : goal.returns-then-next-eq0
returns-then-next-eq0 c = under_none c.if-next-eq0.true (omega arith)

pub overflow_cast-c : goal.overflow_cast-c
overflow_cast-c c = omega (arith, c.shared_slice_known-1.given c.args.bottom)

pub offset_bounds-number-c : goal.offset_bounds-number-c
offset_bounds-number-c c =
    let child : let a = c.args in let c = read a.below.now a.bottom - 1 in (c < length a.number.now) × (c < length a.last.now) = let next : ℕ = read c.args.below.now c.args.bottom in
    let p : next ≡ suc (next - 1) = omega (arith, c.if-next-eq0.false) in
    (c.requires.numbered (next - 1) p, c.requires.lasting (next - 1) p) in
    omega (arith, child)

pub bounds-number-c : goal.bounds-number-c
bounds-number-c c =
    let child : let a = c.args in let c = read a.below.now a.bottom - 1 in (c < length a.number.now) × (c < length a.last.now) = let next : ℕ = read c.args.below.now c.args.bottom in
    let p : next ≡ suc (next - 1) = omega (arith, c.if-next-eq0.false) in
    (c.requires.numbered (next - 1) p, c.requires.lasting (next - 1) p) in
    omega (arith, child)

pub offset_bounds-last-c : goal.offset_bounds-last-c
offset_bounds-last-c c =
    let child : let a = c.args in let c = read a.below.now a.bottom - 1 in (c < length a.number.now) × (c < length a.last.now) = let next : ℕ = read c.args.below.now c.args.bottom in
    let p : next ≡ suc (next - 1) = omega (arith, c.if-next-eq0.false) in
    (c.requires.numbered (next - 1) p, c.requires.lasting (next - 1) p) in
    omega (arith, child)

pub bounds-last-c : goal.bounds-last-c
bounds-last-c c =
    let child : let a = c.args in let c = read a.below.now a.bottom - 1 in (c < length a.number.now) × (c < length a.last.now) = let next : ℕ = read c.args.below.now c.args.bottom in
    let p : next ≡ suc (next - 1) = omega (arith, c.if-next-eq0.false) in
    (c.requires.numbered (next - 1) p, c.requires.lasting (next - 1) p) in
    omega (arith, child)

pub returns : goal.returns
returns c =
    let a = c.args in
    under_some (read a.number.now) (read a.last.now) (read a.below.now a.bottom) c.if-next-eq0.false
