-- `fits_links` meets its contract: an end is a branch, or the rows of the two link marks are compared, in either order.
use mathlib.Core.Path.{◌≡◌, subst}
use mathlib.Core.Logic.{inl, inr}
use Prim.Native.Nat.{ℕ, ◌+◌, ◌-◌, ◌≤◌}
use native.Mathlib.Omega.{arith}
use Rattle.connectivity.specs.Plan.{limits}
use Rattle.verify_firm.specs.Marks.{RowsFit}
use Rattle.verify_firm.proofs.Tests.{tells_with, joined_swap, links}
use Rattle.verify_firm.proofs.state.fits_links.Goals as goal

pub returns-then-degree-start-ge3 : goal.returns-then-degree-start-ge3
returns-then-degree-start-ge3 c = inl (inl c.if-degree-start-ge3.true)

pub returns-then-degree-at-ge3 : goal.returns-then-degree-at-ge3
returns-then-degree-at-ge3 c = inl (inr c.if-degree-at-ge3.true)

pub overflow_sub-from : goal.overflow_sub-from
overflow_sub-from c =
    let from_row : (1 ≤ c.args.from) × RowsFit limits c.args.degree.now c.args.list.now (c.args.from - 1 + 1) = let r = c.requires.start-row c.if-degree-start-ge3.false in
    let p : c.args.from ≡ c.args.from - 1 + 1 = omega (arith, r.0) in
    (r.0, subst (RowsFit limits c.args.degree.now c.args.list.now) p r.1) in
    omega (arith, (from_row).0)

pub apart-requires : goal.apart-requires
apart-requires c =
    let to_row : (1 ≤ c.args.to) × RowsFit limits c.args.degree.now c.args.list.now (c.args.to - 1 + 1) = let r = c.requires.at_row c.if-degree-at-ge3.false in
    let p : c.args.to ≡ c.args.to - 1 + 1 = omega (arith, r.0) in
    (r.0, subst (RowsFit limits c.args.degree.now c.args.list.now) p r.1) in
    (omega (arith, c.if-from-to.true), (to_row).1)

pub returns-then-from-to : goal.returns-then-from-to
returns-then-from-to c =
    links c.args.degree.now c.args.list.now c.args.run c.args.from c.args.to c.apart.result c.if-degree-start-ge3.false c.if-degree-at-ge3.false c.apart.ensures

pub overflow_sub-to-2 : goal.overflow_sub-to-2
overflow_sub-to-2 c =
    let to_row : (1 ≤ c.args.to) × RowsFit limits c.args.degree.now c.args.list.now (c.args.to - 1 + 1) = let r = c.requires.at_row c.if-degree-at-ge3.false in
    let p : c.args.to ≡ c.args.to - 1 + 1 = omega (arith, r.0) in
    (r.0, subst (RowsFit limits c.args.degree.now c.args.list.now) p r.1) in
    omega (arith, (to_row).0)

pub overflow_sub-from-2 : goal.overflow_sub-from-2
overflow_sub-from-2 c =
    let from_row : (1 ≤ c.args.from) × RowsFit limits c.args.degree.now c.args.list.now (c.args.from - 1 + 1) = let r = c.requires.start-row c.if-degree-start-ge3.false in
    let p : c.args.from ≡ c.args.from - 1 + 1 = omega (arith, r.0) in
    (r.0, subst (RowsFit limits c.args.degree.now c.args.list.now) p r.1) in
    omega (arith, (from_row).0)

pub apart-requires-2 : goal.apart-requires-2
apart-requires-2 c =
    let from_row : (1 ≤ c.args.from) × RowsFit limits c.args.degree.now c.args.list.now (c.args.from - 1 + 1) = let r = c.requires.start-row c.if-degree-start-ge3.false in
    let p : c.args.from ≡ c.args.from - 1 + 1 = omega (arith, r.0) in
    (r.0, subst (RowsFit limits c.args.degree.now c.args.list.now) p r.1) in
    (omega (arith, c.if-from-to.false), (from_row).1)

pub returns : goal.returns
returns c =
    let marks = c.args.degree.now in
    let list = c.args.list.now in
    let i : ℕ = c.args.from - 1 in
    let j : ℕ = c.args.to - 1 in
    links marks list c.args.run c.args.from c.args.to c.apart-2.result c.if-degree-start-ge3.false c.if-degree-at-ge3.false
    (tells_with c.apart-2.result (λ n a. n (joined_swap marks list i j a)) (λ n a. n (joined_swap marks list j i a)) c.apart-2.ensures)
