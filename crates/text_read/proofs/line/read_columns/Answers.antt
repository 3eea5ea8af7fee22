-- `read_columns` meets its contract: each way out cites the law for its columns.
use Rattle.std.specs.Prelude.{None}
use Rattle.std.proofs.Common.{rules}
use mathlib.Core.Path.{◌≡◌, sym, ap, ◌∙◌}
use mathlib.Core.List.{List}
use Prim.Native.Nat.{ℕ, suc, ◌*◌, ◌-◌}
use native.Mathlib.Omega.{arith}
use lib.ListN.{length, get_or}
use Rattle.text.specs.Column.{five, largest, line_fits}
use Rattle.text_read.proofs.Lines.{unfed, first_out, second_out, third_out, line_one, line_two, line_three}
use Rattle.text_read.proofs.line.read_columns.Goals as goal

pub returns-then-line-columns-ne10 : goal.returns-then-line-columns-ne10
returns-then-line-columns-ne10 c = unfed five largest c.args.columns c.args.line.now (omega arith) (λ z. omega arith)

pub returns-in_err-first : goal.returns-in_err-first
returns-in_err-first c =
    let bytes : List ℕ = c.args.line.now in
    let none : c.from_residual.result ≡ None = search rules in
    let p : c.args.columns ≡ suc (c.args.columns - 1) = omega arith in
    rw none (ap (λ (n : ℕ). line_fits five largest n bytes) p ∙ first_out five largest bytes (c.args.columns - 1) c.in_err-first.ensures)

pub returns-then-columns-lt2 : goal.returns-then-columns-lt2
returns-then-columns-lt2 c =
    let bytes : List ℕ = c.args.line.now in
    let feed : (k : ℕ) → c.args.columns ≡ k → get_or bytes (k * length five) 0 ≡ 10 = λ k p. ap (λ (n : ℕ). get_or bytes (n * length five) 0) (sym p) ∙ omega arith in
    let p : c.args.columns ≡ 1 = omega arith in
    rw p (line_one five largest bytes c.in_ok-first.ensures (omega arith) (feed 1 p))

pub returns-in_err-second : goal.returns-in_err-second
returns-in_err-second c =
    let bytes : List ℕ = c.args.line.now in
    let none : c.from_residual-in_err-second.result ≡ None = search rules in
    let p : c.args.columns ≡ suc (suc (c.args.columns - 2)) = omega arith in
    rw none (ap (λ (k : ℕ). line_fits five largest k bytes) p ∙ second_out five largest bytes c.in_ok-first.ensures (c.args.columns - 2) c.in_err-second.ensures)

pub returns-then-columns-lt3 : goal.returns-then-columns-lt3
returns-then-columns-lt3 c =
    let bytes : List ℕ = c.args.line.now in
    let feed : (k : ℕ) → c.args.columns ≡ k → get_or bytes (k * length five) 0 ≡ 10 = λ k p. ap (λ (n : ℕ). get_or bytes (n * length five) 0) (sym p) ∙ omega arith in
    let p : c.args.columns ≡ 2 = omega arith in
    rw p (line_two five largest bytes c.in_ok-first.ensures c.in_ok-second.ensures (omega arith) (feed 2 p))

pub returns-in_err-third : goal.returns-in_err-third
returns-in_err-third c =
    let bytes : List ℕ = c.args.line.now in
    let none : c.from_residual-in_err-third.result ≡ None = search rules in
    let p : c.args.columns ≡ 3 = omega arith in
    rw none (ap (λ (k : ℕ). line_fits five largest k bytes) p ∙ third_out five largest bytes c.in_ok-first.ensures c.in_ok-second.ensures c.in_err-third.ensures)

pub returns : goal.returns
returns c =
    let bytes : List ℕ = c.args.line.now in
    let feed : (k : ℕ) → c.args.columns ≡ k → get_or bytes (k * length five) 0 ≡ 10 = λ k p. ap (λ (n : ℕ). get_or bytes (n * length five) 0) (sym p) ∙ omega arith in
    let p : c.args.columns ≡ 3 = omega arith in
    rw p (line_three five largest bytes c.in_ok-first.ensures c.in_ok-second.ensures c.in_ok-third.ensures (omega arith) (feed 3 p))
