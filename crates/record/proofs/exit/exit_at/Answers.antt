-- `exit_at` meets its contract. The loop's invariant: the edges of the group that are behind are built, or fail the test.
use Rattle.std.specs.Prelude.{ℕ}
use Rattle.std.proofs.Common.{◌-◌, refl, arith}
use Rattle.graph.specs.Marks.{read}
use Rattle.record.specs.Exits.{Passes, Reading}
use Rattle.record.proofs.Exits.{failing_more}
use Rattle.record.proofs.exit.exit_at.Goals as goal
use Rattle.record.proofs.exit.exit_at.Goals.{else-f-ne0-via-then-f-ne0+else-is_exit, else-f-ne0-via-else-f-ne0}

pub bounds-over-incident : goal.bounds-over-incident
bounds-over-incident c =
    let edge : let a = c.args in Reading a.ends.now a.number.now a.places.now a.over.now (read a.incident.now c.loop-k.k) = c.requires.each c.loop-k.k c.loop-k.auto.k c.loop-k-test.true in
    omega (arith, edge.long)

pub is_exit-requires : goal.is_exit-requires
is_exit-requires c =
    let edge : let a = c.args in Reading a.ends.now a.number.now a.places.now a.over.now (read a.incident.now c.loop-k.k) = c.requires.each c.loop-k.k c.loop-k.auto.k c.loop-k-test.true in
    edge.test (omega (arith, c.if-f-ne0.true))

pub returns-then-is_exit : goal.returns-then-is_exit
returns-then-is_exit c =
    record {
      none = λ p. absurd (c.if-f-ne0.true p);
      some = λ p. (
        c.loop-k.k,
        record { from = c.loop-k.auto.k; to = c.loop-k-test.true; new = omega (arith, p) },
        refl,
        rw c.if-is_exit.true at c.is_exit.ensures,
      );
    }

pub loop-k-preserved : goal.loop-k-preserved
loop-k-preserved c =
    let a = c.args in
    let passes = λ (e : ℕ). Passes a.ends.now a.number.now a.places.now (read a.over.now e - 1) (read a.places.now a.v) a.from a.to in
    let more = failing_more (read a.incident.now) (read a.begins.now) (read a.over.now) a.v c.loop-k.k passes c.loop-k.invariant in
    elim c.else-f-ne0.branch [
      | else-f-ne0-via-then-f-ne0+else-is_exit w ↦ more (λ u. rw w.if-is_exit.false at w.is_exit.ensures)
      | else-f-ne0-via-else-f-ne0 w ↦ more (λ u. absurd (omega (arith, w.if-f-ne0.false, u)))
    ]

pub returns : goal.returns
returns c = record {
  none = λ p k h. c.loop-k.invariant k h (omega (arith, h.to, c.loop-k-test.false));
  some = λ n. absurd (n refl);
}
