-- `step` meets its contract: the row's own number, then the longer walk's marks, then the step's number, then the marks of one step more.
use mathlib.Core.Path.{◌≡◌, sym, ◌∙◌}
use Prim.Native.Nat.{◌/◌, ◌<◌}
use native.Mathlib.Omega.{arith}
use lib.ListN.{length, get_or}
use Rattle.connectivity.specs.Plan.{limits}
use Rattle.verify_firm.specs.Marks.{row_at, edge_at, from_at, row_mark, Whole}
use Rattle.verify_firm.proofs.Turns.{steps_few, stops_own, edge_below, from_below, goes_on, whole, told_number, stops_whole, rows_ready, passes}
use Rattle.verify_firm.proofs.Ending.{whole_below}
use Rattle.verify_firm.proofs.state.State.step.Goals as goal

pub returns-then-number-ne0 : goal.returns-then-number-ne0
returns-then-number-ne0 c r = rw c.rejected.ensures (stops_own r _ _ _ c.row_number-number.ensures c.if-number-ne0.true)

pub overflow_cast-used : goal.overflow_cast-used
overflow_cast-used c =
    let zero : let a = c.args in row_mark a.ends.now a.used.now a.self.steps a.row a.self.run (row_at a.list.now a.row) ≡ 0 = sym c.row_number-number.ensures ∙ c.if-number-ne0.false in
    let edge : let a = c.args in edge_at a.list.now a.row < length a.ends.now / 2 = edge_below c.requires (zero) in
    omega (arith, edge, c.requires.admitted.edges)

pub bounds-used-e : goal.bounds-used-e
bounds-used-e c =
    let zero : let a = c.args in row_mark a.ends.now a.used.now a.self.steps a.row a.self.run (row_at a.list.now a.row) ≡ 0 = sym c.row_number-number.ensures ∙ c.if-number-ne0.false in
    let edge : let a = c.args in edge_at a.list.now a.row < length a.ends.now / 2 = edge_below c.requires (zero) in
    omega (arith, edge, c.requires.admitted.edges, c.requires.represents.used_length)

pub overflow_cast-built : goal.overflow_cast-built
overflow_cast-built c =
    let zero : let a = c.args in row_mark a.ends.now a.used.now a.self.steps a.row a.self.run (row_at a.list.now a.row) ≡ 0 = sym c.row_number-number.ensures ∙ c.if-number-ne0.false in
    let from : let a = c.args in from_at a.list.now a.row < limits.vertices = from_below c.requires (zero) in
    omega (arith, from)

pub offset_bounds-self-v : goal.offset_bounds-self-v
offset_bounds-self-v c =
    let zero : let a = c.args in row_mark a.ends.now a.used.now a.self.steps a.row a.self.run (row_at a.list.now a.row) ≡ 0 = sym c.row_number-number.ensures ∙ c.if-number-ne0.false in
    let from : let a = c.args in from_at a.list.now a.row < limits.vertices = from_below c.requires (zero) in
    omega (arith, from)

pub bounds-self-v : goal.bounds-self-v
bounds-self-v c =
    let zero : let a = c.args in row_mark a.ends.now a.used.now a.self.steps a.row a.self.run (row_at a.list.now a.row) ≡ 0 = sym c.row_number-number.ensures ∙ c.if-number-ne0.false in
    let from : let a = c.args in from_at a.list.now a.row < limits.vertices = from_below c.requires (zero) in
    from

pub go_on-on-requires : goal.go_on-on-requires
go_on-on-requires c =
    let zero : let a = c.args in row_mark a.ends.now a.used.now a.self.steps a.row a.self.run (row_at a.list.now a.row) ≡ 0 = sym c.row_number-number.ensures ∙ c.if-number-ne0.false in
    let from : let a = c.args in from_at a.list.now a.row < limits.vertices = from_below c.requires (zero) in
    (from, omega (arith, c.requires.below, c.requires.admitted.edges))

pub returns-then-not-last : goal.returns-then-not-last
returns-then-not-last c r =
    let zero : let a = c.args in row_mark a.ends.now a.used.now a.self.steps a.row a.self.run (row_at a.list.now a.row) ≡ 0 = sym c.row_number-number.ensures ∙ c.if-number-ne0.false in
    rw c.passed.ensures (goes_on r (zero) c.far_end-to.ensures c.go_on-on.ensures _ c.if-not-last.true)

pub bounds-self-on : goal.bounds-self-on
bounds-self-on c =
    let zero : let a = c.args in row_mark a.ends.now a.used.now a.self.steps a.row a.self.run (row_at a.list.now a.row) ≡ 0 = sym c.row_number-number.ensures ∙ c.if-number-ne0.false in
    let ready : let a = c.args in let n = c.go_on-on.result in Whole limits a.self.degree a.list.now a.self.steps n a.self.low a.self.high (get_or c.go_on-on.new.left n.start 0) (get_or c.go_on-on.new.left n.at 0) = whole c.requires (zero) c.far_end-to.ensures c.go_on-on.ensures in
    omega (arith, (whole_below (ready)).0, (ready).holds.marks_length)

pub bounds-self-on-2 : goal.bounds-self-on-2
bounds-self-on-2 c =
    let zero : let a = c.args in row_mark a.ends.now a.used.now a.self.steps a.row a.self.run (row_at a.list.now a.row) ≡ 0 = sym c.row_number-number.ensures ∙ c.if-number-ne0.false in
    let ready : let a = c.args in let n = c.go_on-on.result in Whole limits a.self.degree a.list.now a.self.steps n a.self.low a.self.high (get_or c.go_on-on.new.left n.start 0) (get_or c.go_on-on.new.left n.at 0) = whole c.requires (zero) c.far_end-to.ensures c.go_on-on.ensures in
    omega (arith, (whole_below (ready)).1, (ready).holds.marks_length)

pub step_number-found-requires : goal.step_number-found-requires
step_number-found-requires c =
    let zero : let a = c.args in row_mark a.ends.now a.used.now a.self.steps a.row a.self.run (row_at a.list.now a.row) ≡ 0 = sym c.row_number-number.ensures ∙ c.if-number-ne0.false in
    let ready : let a = c.args in let n = c.go_on-on.result in Whole limits a.self.degree a.list.now a.self.steps n a.self.low a.self.high (get_or c.go_on-on.new.left n.start 0) (get_or c.go_on-on.new.left n.at 0) = whole c.requires (zero) c.far_end-to.ensures c.go_on-on.ensures in
    ready

pub returns-then-found-ne0 : goal.returns-then-found-ne0
returns-then-found-ne0 c r =
    let zero : let a = c.args in row_mark a.ends.now a.used.now a.self.steps a.row a.self.run (row_at a.list.now a.row) ≡ 0 = sym c.row_number-number.ensures ∙ c.if-number-ne0.false in
    let z = zero in
    let f = c.far_end-to.ensures in
    let n = told_number r z f c.go_on-on.ensures _ c.step_number-found.ensures in
    rw c.rejected-then-found-ne0.ensures (stops_whole r z f c.go_on-on.ensures _ c.if-not-last.false _ n c.if-found-ne0.true)

pub overflow_add-row : goal.overflow_add-row
overflow_add-row c = omega (arith, c.requires.below, c.requires.admitted.edges)

pub add_rows-requires : goal.add_rows-requires
add_rows-requires c =
    let zero : let a = c.args in row_mark a.ends.now a.used.now a.self.steps a.row a.self.run (row_at a.list.now a.row) ≡ 0 = sym c.row_number-number.ensures ∙ c.if-number-ne0.false in
    rows_ready c.requires (zero) c.far_end-to.ensures c.go_on-on.ensures

pub overflow_add-self : goal.overflow_add-self
overflow_add-self c = let p = c.requires in omega (arith, steps_few p, p.below, p.admitted.edges)

pub overflow_add-row-2 : goal.overflow_add-row-2
overflow_add-row-2 c = omega (arith, c.requires.below, c.requires.admitted.edges)

pub returns : goal.returns
returns c r =
    let zero : let a = c.args in row_mark a.ends.now a.used.now a.self.steps a.row a.self.run (row_at a.list.now a.row) ≡ 0 = sym c.row_number-number.ensures ∙ c.if-number-ne0.false in
    let z = zero in
    let f = c.far_end-to.ensures in
    let n = sym (told_number r z f c.go_on-on.ensures _ c.step_number-found.ensures) ∙ c.if-found-ne0.false in
    rw c.passed-2.ensures (passes r z f c.go_on-on.ensures _ c.if-not-last.false _ c.add_rows.ensures n _ c.begins-self.ensures)
