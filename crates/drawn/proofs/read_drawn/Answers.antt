-- `read_drawn` meets its contract: a refusal is told before anything is stored, and what is stored are the tabs of the drawn list that are taken.
use Rattle.std.specs.Prelude.{Err}
use mathlib.Core.Path.{◌≡◌, refl, sym, ap, ◌∙◌}
use mathlib.Core.Bool.{true}
use mathlib.Core.List.{List}
use Prim.Native.Nat.{ℕ, ◌*◌, ◌≤◌}
use native.Mathlib.Omega.{arith}
use lib.ListN.{length, drop}
use Rattle.connectivity.specs.Plan.{limits}
use Rattle.connectivity.specs.Admission.{answer}
use Rattle.graph.specs.Admission.{handed, constructed}
use Rattle.graph.specs.declared.Answer.{Answer}
use Rattle.text_read.proofs.Result.{admitted_served}
use Rattle.drawn.specs.Length.{eight}
use Rattle.drawn.specs.Text.{form, at₂, at₃, part, length_in, letter_in, header_size, edges_fit, spelled, Reading, read_answer}
use Rattle.drawn.specs.Line.{Headed}
use Rattle.drawn.specs.declared.line.Header.{Header}
use Rattle.drawn.proofs.Lengths.{eight_below, kerf_most}
use Rattle.drawn.proofs.Reading.{no_header, Met, met, read-refused, read-listed}
use Rattle.drawn.proofs.Result.{reads_drawn, taken_admitted, taken}
use Rattle.drawn.proofs.read_drawn.Goals as goal

number : {x y : Answer} → x ≡ y → x.number ≡ y.number
number p = ap (λ (z : Answer). z.number) p

-- of a header and an answer 0
module _ (text ends numbers : List ℕ) (h : Header) (d : Headed form text h) (p : (read_answer form limits text (length ends) (length numbers)).number ≡ 0) where
  tests : Met form limits text (length ends) (length numbers)
  tests = met form limits text (length ends) (length numbers) p

  roomed : (h.edges ≤ limits.edges) × (2 * h.edges ≤ length ends) × (h.edges ≤ length numbers) × (edges_fit form h.edges (drop (header_size form) text) ≡ true)
  roomed = let t = tests in (omega (arith, t.short, d.edges), omega (arith, t.room, d.edges), omega (arith, t.table, d.edges), rw d.edges t.lines)

pub returns-in_default : goal.returns-in_default
returns-in_default c =
    let a = c.args in
    reads_drawn (Reading.refused (answer 20 0))
    (read-refused form limits a.text.now (length a.ends.now) (length a.numbers.now) (answer 20 0)
    (no_header form limits a.text.now (length a.ends.now) (length a.numbers.now) c.in_default.ensures) (λ z. omega arith))
    (ap (λ (x : Answer). handed (Err x)) c.number_alone.ensures) refl refl

pub returns-then-number-ne0 : goal.returns-then-number-ne0
returns-then-number-ne0 c =
    let a = c.args in
    let e = c.judge-answer.ensures in
    let x = read_answer form limits a.text.now (length a.ends.now) (length a.numbers.now) in
    reads_drawn (Reading.refused x)
    (read-refused form limits a.text.now (length a.ends.now) (length a.numbers.now) x refl (λ z. c.if-number-ne0.true (number e ∙ z)))
    (ap (λ (y : Answer). handed (Err y)) e) refl refl

pub overflow_add-header : goal.overflow_add-header
overflow_add-header c =
    let text = c.args.text.now in
    let d : Headed form text c.in-Some.header = c.in-Some.ensures in
    let kerf = length_in form (at₃ form) text in
    omega (arith, d.least, d.kerf, eight_below (part (at₂ form) (length eight) text), eight_below (part (at₃ form) (length eight) text), kerf_most (letter_in form text) kerf)

pub store-count-requires : goal.store-count-requires
store-count-requires c =
    let a = c.args in
    let d = c.in-Some.ensures in
    roomed a.text.now a.ends.now a.numbers.now c.in-Some.header d (sym (number c.judge-answer.ensures) ∙ c.if-number-ne0.false)

pub counted-requires : goal.counted-requires
counted-requires c =
    let a = c.args in
    let d = c.in-Some.ensures in
    let q = roomed a.text.now a.ends.now a.numbers.now c.in-Some.header d (sym (number c.judge-answer.ensures) ∙ c.if-number-ne0.false) in
    let t = taken d q.1 q.2 c.store-count.ensures in
    omega (arith, t.few, q.0, q.1)

pub returns : goal.returns
returns c =
    let a = c.args in
    let d = c.in-Some.ensures in
    let p : (read_answer form limits a.text.now (length a.ends.now) (length a.numbers.now)).number ≡ 0 = sym (number c.judge-answer.ensures) ∙ c.if-number-ne0.false in
    let q = roomed a.text.now a.ends.now a.numbers.now c.in-Some.header d p in
    let t = taken d q.1 q.2 c.store-count.ensures in
    reads_drawn (Reading.read (spelled form a.text.now))
    (read-listed form limits a.text.now (length a.ends.now) (length a.numbers.now) p)
    (c.counted.ensures ∙ ap (constructed limits) t.is ∙ admitted_served (taken_admitted form limits a.text.now (length a.ends.now) (length a.numbers.now) (tests a.text.now a.ends.now a.numbers.now c.in-Some.header d p)))
    t.plan t.numbers_set
