-- `store_columns` meets its contract: the number of one column more is stored, which its form bounds.
use mathlib.Core.Path.{◌≡◌}
use Prim.Native.Nat.{suc, ◌+◌, ◌*◌}
use native.Mathlib.Omega.{arith}
use lib.ListN.{length, drop}
use Rattle.text.specs.Column.{five, largest}
use Rattle.text.proofs.Laws.{line_true, numbers_next, numbers_last}
use Rattle.text_read.proofs.line.store_columns.Goals as goal

pub overflow_cast-list : goal.overflow_cast-list
overflow_cast-list c =
    let a = c.args in
    let l = c.loop-k in
    omega (arith, c.number.ensures, (line_true five a.line.now a.columns l.k (omega arith) largest l.invariant.fits).0)

pub loop-k-preserved : goal.loop-k-preserved
loop-k-preserved c =
    let a = c.args in
    let l = c.loop-k in
    let p : a.to + (l.k + 1) ≡ suc (a.to + l.k) = omega arith in record {
      fits = (line_true five a.line.now a.columns l.k (omega arith) largest l.invariant.fits).1;
      whole = rw (p, c.number.ensures) (rw (numbers_next five a.line.now a.columns l.k (omega arith)) at l.invariant.whole);
    }

pub returns : goal.returns
returns c =
    let a = c.args in
    let l = c.loop-k in
    rw (numbers_last five (drop (l.k * length five) a.line.now) a.columns l.k (omega arith)) at l.invariant.whole
