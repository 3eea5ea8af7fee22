-- `row_number` meets its contract: its tests are those of `row_mark`, one after the other.
use mathlib.Core.Path.{◌≡◌, sym, ◌∙◌}
use mathlib.Core.Bool.{cond, ◌&&◌, ◌||◌}
use Prim.Native.Nat.{◌+◌, ◌*◌}
use lib.Dec.{eqb}
use lib.ListN.{get_or}
use borrow.Author.Tests.{lt-ltb, le-ltb, eq-eqb, ne_eqb}
use Rattle.verify_firm.specs.Marks.{row_mark}
use Rattle.verify_firm.proofs.state.row_number.Goals as goal

pub returns-then-s-steps : goal.returns-then-s-steps
returns-then-s-steps c = rw (ne_eqb _ _ c.if-s-steps.true)

pub returns-then-ends-k : goal.returns-then-ends-k
returns-then-ends-k c = rw (eq-eqb _ _ c.if-s-steps.false, le-ltb _ _ c.if-ends-k.true)

pub returns-then-used-k-ne0 : goal.returns-then-used-k-ne0
returns-then-used-k-ne0 c = rw (eq-eqb _ _ c.if-s-steps.false, lt-ltb _ _ c.if-ends-k.false, ne_eqb _ _ c.if-used-k-ne0.true)

pub returns-then-not-is_end : goal.returns-then-not-is_end
returns-then-not-is_end c =
    let passed : let a = c.args in row_mark a.ends.now a.used.now a.steps a.row a.run (record { step = a.s; edge = a.e; from = a.v }) ≡ cond ((eqb (get_or a.ends.now (2 * a.e) 0) a.v || eqb (get_or a.ends.now (2 * a.e + 1) 0) a.v) && (eqb a.run.first a.row || eqb a.run.at a.v)) 0 12 = rw (eq-eqb _ _ c.if-s-steps.false, lt-ltb _ _ c.if-ends-k.false, eq-eqb _ _ c.if-used-k-ne0.false) in
    sym (passed ∙ rw (sym c.is_end.ensures ∙ c.if-not-is_end.true))

pub returns-then-first-row : goal.returns-then-first-row
returns-then-first-row c =
    let passed : let a = c.args in row_mark a.ends.now a.used.now a.steps a.row a.run (record { step = a.s; edge = a.e; from = a.v }) ≡ cond ((eqb (get_or a.ends.now (2 * a.e) 0) a.v || eqb (get_or a.ends.now (2 * a.e + 1) 0) a.v) && (eqb a.run.first a.row || eqb a.run.at a.v)) 0 12 = rw (eq-eqb _ _ c.if-s-steps.false, lt-ltb _ _ c.if-ends-k.false, eq-eqb _ _ c.if-used-k-ne0.false) in
    let ended : let a = c.args in row_mark a.ends.now a.used.now a.steps a.row a.run (record { step = a.s; edge = a.e; from = a.v }) ≡ cond (eqb a.run.first a.row || eqb a.run.at a.v) 0 12 = passed ∙ rw (sym c.is_end.ensures ∙ c.if-not-is_end.false) in
    sym (ended ∙ rw (eq-eqb _ _ c.if-first-row.true))

pub returns-then-at-v : goal.returns-then-at-v
returns-then-at-v c =
    let passed : let a = c.args in row_mark a.ends.now a.used.now a.steps a.row a.run (record { step = a.s; edge = a.e; from = a.v }) ≡ cond ((eqb (get_or a.ends.now (2 * a.e) 0) a.v || eqb (get_or a.ends.now (2 * a.e + 1) 0) a.v) && (eqb a.run.first a.row || eqb a.run.at a.v)) 0 12 = rw (eq-eqb _ _ c.if-s-steps.false, lt-ltb _ _ c.if-ends-k.false, eq-eqb _ _ c.if-used-k-ne0.false) in
    let ended : let a = c.args in row_mark a.ends.now a.used.now a.steps a.row a.run (record { step = a.s; edge = a.e; from = a.v }) ≡ cond (eqb a.run.first a.row || eqb a.run.at a.v) 0 12 = passed ∙ rw (sym c.is_end.ensures ∙ c.if-not-is_end.false) in
    sym (ended ∙ rw (ne_eqb _ _ c.if-first-row.false, ne_eqb _ _ c.if-at-v.true))

pub returns : goal.returns
returns c =
    let passed : let a = c.args in row_mark a.ends.now a.used.now a.steps a.row a.run (record { step = a.s; edge = a.e; from = a.v }) ≡ cond ((eqb (get_or a.ends.now (2 * a.e) 0) a.v || eqb (get_or a.ends.now (2 * a.e + 1) 0) a.v) && (eqb a.run.first a.row || eqb a.run.at a.v)) 0 12 = rw (eq-eqb _ _ c.if-s-steps.false, lt-ltb _ _ c.if-ends-k.false, eq-eqb _ _ c.if-used-k-ne0.false) in
    let ended : let a = c.args in row_mark a.ends.now a.used.now a.steps a.row a.run (record { step = a.s; edge = a.e; from = a.v }) ≡ cond (eqb a.run.first a.row || eqb a.run.at a.v) 0 12 = passed ∙ rw (sym c.is_end.ensures ∙ c.if-not-is_end.false) in
    sym (ended ∙ rw (ne_eqb _ _ c.if-first-row.false, eq-eqb _ _ c.if-at-v.false))
