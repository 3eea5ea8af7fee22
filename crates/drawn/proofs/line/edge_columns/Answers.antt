-- `edge_columns` meets its contract: each way out cites the law for its columns.
use Rattle.std.specs.Prelude.{None}
use Rattle.std.proofs.Common.{rules}
use mathlib.Core.Path.{◌≡◌, refl}
use mathlib.Core.Bool.{true, false}
use native.Mathlib.Omega.{arith}
use Rattle.drawn.specs.Text.{form, at₃}
use Rattle.drawn.proofs.Lines.{fed, unfed, edge_is}
use Rattle.drawn.proofs.line.edge_columns.Goals as goal

pub returns-in_err-left : goal.returns-in_err-left
returns-in_err-left c =
    let none : c.from_residual.result ≡ None = search rules in
    rw none (edge_is form c.args.line.now false _ _ _ c.in_err-left.ensures refl refl refl)

pub returns-in_err-right : goal.returns-in_err-right
returns-in_err-right c =
    let none : c.from_residual-in_err-right.result ≡ None = search rules in
    rw none (edge_is form c.args.line.now true false _ _ c.in_ok-left.ensures.fits c.in_err-right.ensures refl refl)

pub returns-in_err-gap : goal.returns-in_err-gap
returns-in_err-gap c =
    let none : c.from_residual-in_err-gap.result ≡ None = search rules in
    rw none (edge_is form c.args.line.now true true false _ c.in_ok-left.ensures.fits c.in_ok-right.ensures.fits c.in_err-gap.ensures refl)

pub returns-then-line-ne10 : goal.returns-then-line-ne10
returns-then-line-ne10 c =
    let l = c.args.line.now in
    edge_is form l true true true false c.in_ok-left.ensures.fits c.in_ok-right.ensures.fits c.in_ok-gap.ensures.fits (unfed l (at₃ form) (omega arith) c.if-line-ne10.true)

pub returns : goal.returns
returns c =
    let l = c.args.line.now in
    record {
      fits = edge_is form l true true true true c.in_ok-left.ensures.fits c.in_ok-right.ensures.fits c.in_ok-gap.ensures.fits (fed l (at₃ form) (omega arith) c.if-line-ne10.false);
      left = c.in_ok-left.ensures.is;
      right = c.in_ok-right.ensures.is;
      gap = c.in_ok-gap.ensures.is;
    }
