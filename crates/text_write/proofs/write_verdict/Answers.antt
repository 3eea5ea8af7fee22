-- `write_verdict` meets its contract: each way out cites the law for its tests.
use mathlib.Core.Path.{◌≡◌, refl, sym, ap, ◌∙◌}
use mathlib.Core.Bool.{true}
use mathlib.Core.List.{List, [], ◌∷◌}
use Prim.Native.Nat.{ℕ, ◌+◌, ◌*◌, ◌≤◌}
use native.Mathlib.Omega.{arith}
use lib.ListN.{length}
use lib.Seq.{sets}
use Rattle.connectivity.specs.Plan.{limits}
use Rattle.connectivity.specs.Admission.{served, answer}
use Rattle.text_write.specs.Entry.{handed}
use Rattle.text.specs.Column.{five, line_size}
use Rattle.text.specs.Plan.{Writing}
use Rattle.text.specs.Verdict.{per_line, lines_of, count_of, has_text, verdict_text}
use Rattle.text.proofs.Reading.{sets_filled}
use Rattle.text.proofs.Writing.{per_line_most, lines-needed, verdict_size, no_form, form, length-verdict, verdict_short, verdict_written}
use Rattle.text_write.proofs.Result.{writes_verdict}
use Rattle.text_write.proofs.write_verdict.Goals as goal

-- what is known once the lines are counted: the verdict has a text form, and its size is small
record Sized (kind : ℕ) (list : List ℕ) (count columns m : ℕ) : Type 0 where
  shown : has_text limits kind list ≡ true
  wide : columns ≤ 3
  few : count ≤ limits.edges
  same : m * line_size five columns ≡ lines_of kind (count_of kind list) * line_size five (per_line kind)
  small : m * line_size five columns ≤ limits.edges * line_size five 3

sized : (kind : ℕ) (list : List ℕ) (count columns m : ℕ) → has_text limits kind list ≡ true → count ≡ count_of kind list → columns ≡ per_line kind → m ≡ lines_of kind count → Sized kind list count columns m
sized kind list count columns m h q k l =
    let z = verdict_size five limits (omega arith) kind list h in
    let same : m * line_size five columns ≡ lines_of kind (count_of kind list) * line_size five (per_line kind) = rw (l, k, q) in
    record {
      shown = h;
      wide = omega (arith, k, per_line_most kind);
      few = omega (arith, q, z.0);
      same = same;
      small = omega (arith, same, z.1);
    }

pub returns-then-not-has_text : goal.returns-then-not-has_text
returns-then-not-has_text c =
    let a = c.args in
    writes_verdict (Writing.refused (answer 8 0))
    (no_form five limits a.kind a.list.now (length a.text.now) (sym c.has_text.ensures ∙ c.if-not-has_text.true)) (ap handed c.refused_writing.ensures) refl

pub overflow_mul-size : goal.overflow_mul-size
overflow_mul-size c =
    let z = sized c.args.kind c.args.list.now c.count_of-count.result c.per_line-columns.result c.lines_of-lines.result (sym c.has_text.ensures ∙ c.if-not-has_text.false) c.count_of-count.ensures c.per_line-columns.ensures c.lines_of-lines.ensures in
    omega (arith, z.wide)

pub overflow_add-size : goal.overflow_add-size
overflow_add-size c =
    let z = sized c.args.kind c.args.list.now c.count_of-count.result c.per_line-columns.result c.lines_of-lines.result (sym c.has_text.ensures ∙ c.if-not-has_text.false) c.count_of-count.ensures c.per_line-columns.ensures c.lines_of-lines.ensures in
    omega (arith, z.wide)

pub overflow_mul-size-2 : goal.overflow_mul-size-2
overflow_mul-size-2 c =
    let z = sized c.args.kind c.args.list.now c.count_of-count.result c.per_line-columns.result c.lines_of-lines.result (sym c.has_text.ensures ∙ c.if-not-has_text.false) c.count_of-count.ensures c.per_line-columns.ensures c.lines_of-lines.ensures in
    omega (arith, z.small)

pub overflow_add-size-2 : goal.overflow_add-size-2
overflow_add-size-2 c =
    let z = sized c.args.kind c.args.list.now c.count_of-count.result c.per_line-columns.result c.lines_of-lines.result (sym c.has_text.ensures ∙ c.if-not-has_text.false) c.count_of-count.ensures c.per_line-columns.ensures c.lines_of-lines.ensures in
    omega (arith, z.small)

pub returns-then-text-size : goal.returns-then-text-size
returns-then-text-size c =
    let z = sized c.args.kind c.args.list.now c.count_of-count.result c.per_line-columns.result c.lines_of-lines.result (sym c.has_text.ensures ∙ c.if-not-has_text.false) c.count_of-count.ensures c.per_line-columns.ensures c.lines_of-lines.ensures in
    let a = c.args in
    let n = length-verdict five limits a.kind a.list.now (length a.text.now) z.shown in
    writes_verdict (Writing.refused (answer 6 0))
    (verdict_short five limits a.kind a.list.now (length a.text.now) z.shown (omega (arith, z.same, n, c.if-text-size.true))) (ap handed c.refused_writing-then-text-size.ensures) refl

pub overflow_cast-header : goal.overflow_cast-header
overflow_cast-header c =
    let z = sized c.args.kind c.args.list.now c.count_of-count.result c.per_line-columns.result c.lines_of-lines.result (sym c.has_text.ensures ∙ c.if-not-has_text.false) c.count_of-count.ensures c.per_line-columns.ensures c.lines_of-lines.ensures in
    omega (arith, z.few)

pub write_text-requires : goal.write_text-requires
write_text-requires c =
    let z = sized c.args.kind c.args.list.now c.count_of-count.result c.per_line-columns.result c.lines_of-lines.result (sym c.has_text.ensures ∙ c.if-not-has_text.false) c.count_of-count.ensures c.per_line-columns.ensures c.lines_of-lines.ensures in
    let a = c.args in (
      omega arith,
      omega arith,
      z.wide,
      rw (c.lines_of-lines.ensures, c.per_line-columns.ensures, c.count_of-count.ensures)
          (omega (arith, (form five limits a.kind a.list.now (length a.text.now) z.shown).1, (lines-needed a.kind (count_of a.kind a.list.now)).1)),
      omega (arith, c.if-text-size.false),
    )

pub returns : goal.returns
unfolding verdict_text
returns c =
    let z = sized c.args.kind c.args.list.now c.count_of-count.result c.per_line-columns.result c.lines_of-lines.result (sym c.has_text.ensures ∙ c.if-not-has_text.false) c.count_of-count.ensures c.per_line-columns.ensures c.lines_of-lines.ensures in
    let m = c.lines_of-lines in
    let k = c.per_line-columns in
    let q = c.count_of-count in
    let a = c.args in
    let n = length-verdict five limits a.kind a.list.now (length a.text.now) z.shown in
    let xs = verdict_text five a.kind a.list.now in
    let w = c.write_text in
    let size : line_size five 2 + m.result * line_size five k.result ≡ length xs = omega (arith, z.same, n) in
    let text : w.new.text ≡ sets a.text.now 0 xs = w.ensures ∙ rw (m.ensures, k.ensures, q.ensures) in
    writes_verdict (Writing.written xs)
    (verdict_written five limits a.kind a.list.now (length a.text.now) z.shown (omega (arith, size, c.if-text-size.false)))
    (ap (λ (m : ℕ). served (m ∷ [])) size)
    (text ∙ sets_filled a.text.now xs (omega (arith, size, c.if-text-size.false)))
