-- `read_verdict` meets its contract: each way out cites the law for its tests.
use mathlib.Core.Path.{◌≡◌, refl, sym, ap, ◌∙◌}
use mathlib.Core.Bool.{true}
use mathlib.Core.List.{List, [], ◌∷◌}
use Prim.Native.Nat.{ℕ}
use native.Mathlib.Omega.{arith}
use lib.ListN.{length}
use lib.Seq.{sets}
use Rattle.connectivity.specs.Plan.{limits}
use Rattle.connectivity.specs.Admission.{served}
use Rattle.text_read.specs.Entry.{handed}
use Rattle.text.specs.Column.{five, largest, line_fits, lines_fit, lines_numbers}
use Rattle.text.specs.Plan.{header_first, header_second, behind_header}
use Rattle.text.specs.Verdict.{VerdictReading, per_line, lines_of, count_fits}
use Rattle.text.proofs.Laws.{line_long, fit_true}
use Rattle.text.proofs.Reading.{no_verdict, length-lines-numbers, sets_filled, bad_header, bad_count, no_room, bad_lines, verdict-fits, refusal-read, lines-read}
use Rattle.text.proofs.RoundTrip.{per_line_some}
use Rattle.text.proofs.Writing.{per_line_most, lines_of_most}
use Rattle.text_read.proofs.Result.{reads_verdict}
use Rattle.text_read.proofs.read_verdict.Goals as goal

pub returns-in_default : goal.returns-in_default
returns-in_default c =
    let a = c.args in
    reads_verdict (no_verdict 8)
    (bad_header five largest limits a.text.now (length a.list.now) c.in_default.ensures) (ap handed c.refused_verdict.ensures) refl

pub returns-then-not-count_fits : goal.returns-then-not-count_fits
returns-then-not-count_fits c =
    let txt : List ℕ = c.args.text.now in
    let lent : List ℕ = c.args.list.now in
    let form : line_fits five largest 2 txt ≡ true = c.in-Some.ensures.fits in
    let first : c.in-Some.header.first ≡ header_first five txt = c.in-Some.ensures.first in
    let second : c.in-Some.header.second ≡ header_second five txt = c.in-Some.ensures.second in
    let e = c.in-Some.header in
    reads_verdict (no_verdict 8)
    (bad_count five largest limits txt (length lent) e.first e.second first second form (sym c.count_fits.ensures ∙ c.if-not-count_fits.true)) (ap handed c.refused_verdict-then-not-count_fits.ensures) refl

pub returns-then-list-size : goal.returns-then-list-size
returns-then-list-size c =
    let txt : List ℕ = c.args.text.now in
    let lent : List ℕ = c.args.list.now in
    let form : line_fits five largest 2 txt ≡ true = c.in-Some.ensures.fits in
    let first : c.in-Some.header.first ≡ header_first five txt = c.in-Some.ensures.first in
    let second : c.in-Some.header.second ≡ header_second five txt = c.in-Some.ensures.second in
    let counted : let e = c.in-Some.header in count_fits limits e.first e.second ≡ true = sym c.count_fits.ensures ∙ c.if-not-count_fits.false in
    let e = c.in-Some.header in
    reads_verdict (no_verdict 6)
    (no_room five largest limits txt (length lent) e.first e.second first second form counted (omega (arith, c.numbers_needed-size.ensures, c.if-list-size.true))) (ap handed c.refused_verdict-then-list-size.ensures) refl

pub lines_fit-requires : goal.lines_fit-requires
lines_fit-requires c =
    let txt : List ℕ = c.args.text.now in
    let form : line_fits five largest 2 txt ≡ true = c.in-Some.ensures.fits in
    let e = c.in-Some.header in
    omega (arith, line_long five largest 2 txt form, c.per_line-columns.ensures, per_line_some e.first, per_line_most e.first, c.lines_of.ensures, lines_of_most e.first e.second)

pub returns-then-not-lines_fit : goal.returns-then-not-lines_fit
returns-then-not-lines_fit c =
    let txt : List ℕ = c.args.text.now in
    let lent : List ℕ = c.args.list.now in
    let form : line_fits five largest 2 txt ≡ true = c.in-Some.ensures.fits in
    let first : c.in-Some.header.first ≡ header_first five txt = c.in-Some.ensures.first in
    let second : c.in-Some.header.second ≡ header_second five txt = c.in-Some.ensures.second in
    let counted : let e = c.in-Some.header in count_fits limits e.first e.second ≡ true = sym c.count_fits.ensures ∙ c.if-not-count_fits.false in
    let judged : let e = c.in-Some.header in c.lines_fit.result ≡ lines_fit five largest (per_line e.first) (lines_of e.first e.second) (behind_header five txt) = c.lines_fit.ensures ∙ rw (c.per_line-columns.ensures, c.lines_of.ensures) in
    let e = c.in-Some.header in
    reads_verdict (no_verdict 8)
    (bad_lines five largest limits txt (length lent) e.first e.second first second form counted (omega (arith, c.numbers_needed-size.ensures, c.if-list-size.false)) (sym judged ∙ c.if-not-lines_fit.true)) (ap handed c.refused_verdict-then-not-lines_fit.ensures) refl

pub bounds-list-0 : goal.bounds-list-0
bounds-list-0 c =
    let txt : List ℕ = c.args.text.now in
    let e = c.in-Some.header in
    omega (arith, (refusal-read five e.first e.second (behind_header five txt) c.if-kind-eq2.true).1, c.numbers_needed-size.ensures, c.if-list-size.false)

pub returns-then-kind-eq2 : goal.returns-then-kind-eq2
returns-then-kind-eq2 c =
    let txt : List ℕ = c.args.text.now in
    let lent : List ℕ = c.args.list.now in
    let form : line_fits five largest 2 txt ≡ true = c.in-Some.ensures.fits in
    let first : c.in-Some.header.first ≡ header_first five txt = c.in-Some.ensures.first in
    let second : c.in-Some.header.second ≡ header_second five txt = c.in-Some.ensures.second in
    let counted : let e = c.in-Some.header in count_fits limits e.first e.second ≡ true = sym c.count_fits.ensures ∙ c.if-not-count_fits.false in
    let judged : let e = c.in-Some.header in c.lines_fit.result ≡ lines_fit five largest (per_line e.first) (lines_of e.first e.second) (behind_header five txt) = c.lines_fit.ensures ∙ rw (c.per_line-columns.ensures, c.lines_of.ensures) in
    let e = c.in-Some.header in
    let x = refusal-read five e.first e.second (behind_header five txt) c.if-kind-eq2.true in
    reads_verdict (VerdictReading.read e.first (e.second ∷ []))
    (verdict-fits five largest limits txt (length lent) e.first e.second first second form counted (omega (arith, c.numbers_needed-size.ensures, c.if-list-size.false)) (sym judged ∙ c.if-not-lines_fit.false) ∙ ap (VerdictReading.read e.first) x.0)
    refl
    (sets_filled lent (e.second ∷ []) (omega (arith, x.1, c.numbers_needed-size.ensures, c.if-list-size.false)))

pub store_lines-requires : goal.store_lines-requires
store_lines-requires c =
    let txt : List ℕ = c.args.text.now in
    let form : line_fits five largest 2 txt ≡ true = c.in-Some.ensures.fits in
    let judged : let e = c.in-Some.header in c.lines_fit.result ≡ lines_fit five largest (per_line e.first) (lines_of e.first e.second) (behind_header five txt) = c.lines_fit.ensures ∙ rw (c.per_line-columns.ensures, c.lines_of.ensures) in
    let e = c.in-Some.header in
    let x = lines-read five e.first e.second (behind_header five txt) c.if-kind-eq2.false in
    let k = c.per_line-columns.ensures in (
      omega (arith, line_long five largest 2 txt form),
      omega (arith, k, per_line_most e.first),
      rw k (omega (arith, x.1, c.numbers_needed-size.ensures, c.if-list-size.false)),
      rw k (fit_true five largest (per_line e.first) e.second (behind_header five txt) (ap (λ (m : ℕ). lines_fit five largest (per_line e.first) m (behind_header five txt)) (sym x.2) ∙ sym judged ∙ c.if-not-lines_fit.false)).0,
    )

pub returns : goal.returns
returns c =
    let txt : List ℕ = c.args.text.now in
    let lent : List ℕ = c.args.list.now in
    let form : line_fits five largest 2 txt ≡ true = c.in-Some.ensures.fits in
    let first : c.in-Some.header.first ≡ header_first five txt = c.in-Some.ensures.first in
    let second : c.in-Some.header.second ≡ header_second five txt = c.in-Some.ensures.second in
    let counted : let e = c.in-Some.header in count_fits limits e.first e.second ≡ true = sym c.count_fits.ensures ∙ c.if-not-count_fits.false in
    let judged : let e = c.in-Some.header in c.lines_fit.result ≡ lines_fit five largest (per_line e.first) (lines_of e.first e.second) (behind_header five txt) = c.lines_fit.ensures ∙ rw (c.per_line-columns.ensures, c.lines_of.ensures) in
    let e = c.in-Some.header in
    let x = lines-read five e.first e.second (behind_header five txt) c.if-kind-eq2.false in
    let k = c.per_line-columns.ensures in
    let xs = lines_numbers five (per_line e.first) e.second (behind_header five txt) in
    let n = length-lines-numbers five (per_line e.first) e.second (behind_header five txt) in
    let size : c.numbers_needed-size.result ≡ length xs = c.numbers_needed-size.ensures ∙ x.1 ∙ sym n in
    reads_verdict (VerdictReading.read e.first xs)
    (verdict-fits five largest limits txt (length lent) e.first e.second first second form counted (omega (arith, c.numbers_needed-size.ensures, c.if-list-size.false)) (sym judged ∙ c.if-not-lines_fit.false) ∙ ap (VerdictReading.read e.first) x.0)
    (ap (λ (m : ℕ). served (e.first ∷ (m ∷ []))) size)
    (c.store_lines.ensures ∙ ap (λ (w : ℕ). sets lent 0 (lines_numbers five w e.second (behind_header five txt))) k
    ∙ sets_filled lent xs (omega (arith, size, c.if-list-size.false)))
