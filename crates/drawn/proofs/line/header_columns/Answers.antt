-- `header_columns` meets its contract: each way out cites the law for its columns.
use Rattle.std.specs.Prelude.{None}
use Rattle.std.proofs.Common.{rules}
use mathlib.Core.Path.{◌≡◌, refl, sym, ◌∙◌}
use mathlib.Core.Bool.{true, false}
use native.Mathlib.Omega.{arith}
use native.Mathlib.Nat.{mul-le-mul_right}
use lib.ListN.{length}
use Rattle.drawn.specs.Length.{eight}
use Rattle.drawn.specs.Text.{form, part, at₃, at₅}
use Rattle.drawn.proofs.Lengths.{eight_below}
use Rattle.drawn.proofs.Lines.{fed, unfed, times_none, times_some, header_is}
use Rattle.drawn.proofs.line.header_columns.Goals as goal

pub returns-in_err-vertices : goal.returns-in_err-vertices
returns-in_err-vertices c =
    let none : c.from_residual.result ≡ None = search rules in
    rw none (header_is form c.args.line.now false _ _ _ _ _ c.in_err-vertices.ensures refl refl refl refl refl)

pub returns-in_err-edges : goal.returns-in_err-edges
returns-in_err-edges c =
    let none : c.from_residual-in_err-edges.result ≡ None = search rules in
    rw none (header_is form c.args.line.now true false _ _ _ _ c.in_ok-vertices.ensures.fits c.in_err-edges.ensures refl refl refl refl)

pub returns-in_err-least : goal.returns-in_err-least
returns-in_err-least c =
    let none : c.from_residual-in_err-least.result ≡ None = search rules in
    rw none (header_is form c.args.line.now true true false _ _ _ c.in_ok-vertices.ensures.fits c.in_ok-edges.ensures.fits c.in_err-least.ensures refl refl refl)

pub returns-in_err-kerf : goal.returns-in_err-kerf
returns-in_err-kerf c =
    let none : c.from_residual-in_err-kerf.result ≡ None = search rules in
    rw none (header_is form c.args.line.now true true true false _ _ c.in_ok-vertices.ensures.fits c.in_ok-edges.ensures.fits c.in_ok-least.ensures.fits c.in_err-kerf.ensures refl refl)

pub returns-in_err-times : goal.returns-in_err-times
returns-in_err-times c =
    let l = c.args.line.now in
    let none : c.from_residual-in_err-times.result ≡ None = search rules in
    let t = times_none form l (sym c.kerf_times.ensures ∙ c.in_err-times.was) in
    rw none (header_is form l true true true true false _ c.in_ok-vertices.ensures.fits c.in_ok-edges.ensures.fits c.in_ok-least.ensures.fits c.in_ok-kerf.ensures.fits t refl)

pub returns-then-line-ne10 : goal.returns-then-line-ne10
returns-then-line-ne10 c =
    let l = c.args.line.now in
    let t = times_some form l (sym c.kerf_times.ensures ∙ c.in_ok-times.was) in
    header_is form l true true true true true false c.in_ok-vertices.ensures.fits c.in_ok-edges.ensures.fits c.in_ok-least.ensures.fits c.in_ok-kerf.ensures.fits t.0 (unfed l (at₅ form) (omega arith) c.if-line-ne10.true)

pub overflow_mul-result : goal.overflow_mul-result
overflow_mul-result c =
    let t = times_some form c.args.line.now (sym c.kerf_times.ensures ∙ c.in_ok-times.was) in
    omega (arith, mul-le-mul_right c.in_ok-kerf.kerf t.1, c.in_ok-kerf.ensures.is, eight_below (part (at₃ form) (length eight) c.args.line.now))

pub returns : goal.returns
returns c =
    let l = c.args.line.now in
    let t = times_some form l (sym c.kerf_times.ensures ∙ c.in_ok-times.was) in
    record {
      form = header_is form l true true true true true true c.in_ok-vertices.ensures.fits c.in_ok-edges.ensures.fits c.in_ok-least.ensures.fits c.in_ok-kerf.ensures.fits t.0 (fed l (at₅ form) (omega arith) c.if-line-ne10.false);
      vertices = c.in_ok-vertices.ensures.is;
      edges = c.in_ok-edges.ensures.is;
      least = c.in_ok-least.ensures.is;
      kerf = t.2 c.in_ok-kerf.kerf ∙ rw c.in_ok-kerf.ensures.is;
      inside = omega arith;
    }
