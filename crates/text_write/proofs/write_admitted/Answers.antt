-- `write_admitted` meets its contract: the header and the lines of the edges, and behind them those of the excluded vertices.
use mathlib.Core.Path.{◌≡◌, refl, sym, ap, ◌∙◌}
use mathlib.Core.List.{List, [], ◌∷◌, ◌++◌, append_assoc}
use Prim.Native.Nat.{ℕ, ◌+◌, ◌*◌, ◌/◌, ◌≤◌}
use native.Mathlib.Omega.{arith}
use lib.ListN.{length, take, length-append}
use lib.Seq.{sets}
use Rattle.std.proofs.Common.{cond, eqb}
use Rattle.connectivity.specs.Plan.{Plan, plan, limits}
use Rattle.connectivity.specs.Admission.{Admitted, served, answer}
use Rattle.connectivity.proofs.Kept.{admitted_count}
use Rattle.text_write.specs.Entry.{handed}
use Rattle.text.specs.Column.{five, line, lines, line_size}
use Rattle.text.specs.Plan.{Writing, header_of, plan_text}
use Rattle.text.proofs.Laws.{sets_append, length-line}
use Rattle.text.proofs.Reading.{sets_filled}
use Rattle.text.proofs.Writing.{length-lines, header_size_lem, header_most, header_front, length-plan, plan_short, plan_written}
use Rattle.text_write.proofs.Result.{writes_plan}
use Rattle.text_write.proofs.write_admitted.Goals as goal

-- how large the text and its parts are
record Sized (p : Plan) (n : ℕ) : Type 0 where
  columns : n ≡ length (header_of p)
  wide : n ≤ 3
  even : 2 * (length p.ends / 2) ≤ length p.ends
  edges : length p.ends / 2 ≤ limits.edges
  excluded : length p.excluded ≤ limits.vertices
  size : line_size five n + length p.ends / 2 * line_size five 2 + length p.excluded * line_size five 1 ≡ length (plan_text five p)

sized : (p : Plan) (n : ℕ) → Admitted limits p → n ≡ cond (eqb (length p.excluded) 0) 2 3 → Sized p n
sized p n a e =
    let columns : n ≡ length (header_of p) = e ∙ sym (header_size_lem p) in
    record {
      columns = columns;
      wide = omega (arith, columns, header_most p);
      even = omega arith;
      edges = a.edges;
      excluded = omega (arith, admitted_count a, a.vertices);
      size = rw columns (sym (length-plan five limits p 0 a));
    }

-- the text, written in two parts
in_parts : (ws : List ℕ) (p : Plan) (text : List ℕ) (at : ℕ) → at ≡ line_size ws (length (header_of p)) + length p.ends / 2 * line_size ws 2
    → sets (sets text 0 (line ws (header_of p) ++ lines ws 2 (length p.ends / 2) p.ends)) at (lines ws 1 (length p.excluded) p.excluded) ≡ sets text 0 (plan_text ws p)
unfolding plan_text
in_parts ws p text at e =
    let h = line ws (header_of p) in
    let edges = lines ws 2 (length p.ends / 2) p.ends in
    let excluded = lines ws 1 (length p.excluded) p.excluded in
    let long : at ≡ 0 + length (h ++ edges) = omega (arith, length-append h edges, length-line ws (header_of p), length-lines ws 2 (length p.ends / 2) p.ends (omega arith)) in
    ap (λ (i : ℕ). sets (sets text 0 (h ++ edges)) i excluded) long ∙ sym (sets_append text 0 (h ++ edges) excluded) ∙ ap (sets text 0) (append_assoc h edges excluded)

pub overflow_mul-next : goal.overflow_mul-next
overflow_mul-next c =
    let p = plan c.args.vertices c.args.ends.now c.args.excluded.now in
    let z = sized p c.header_columns-columns.result c.requires c.header_columns-columns.ensures in
    omega (arith, z.wide)

pub overflow_add-next : goal.overflow_add-next
overflow_add-next c =
    let p = plan c.args.vertices c.args.ends.now c.args.excluded.now in
    let z = sized p c.header_columns-columns.result c.requires c.header_columns-columns.ensures in
    omega (arith, z.wide)

pub overflow_mul-next-2 : goal.overflow_mul-next-2
overflow_mul-next-2 c =
    let p = plan c.args.vertices c.args.ends.now c.args.excluded.now in
    let z = sized p c.header_columns-columns.result c.requires c.header_columns-columns.ensures in
    omega (arith, z.edges)

pub overflow_add-next-2 : goal.overflow_add-next-2
overflow_add-next-2 c =
    let p = plan c.args.vertices c.args.ends.now c.args.excluded.now in
    let z = sized p c.header_columns-columns.result c.requires c.header_columns-columns.ensures in
    omega (arith, z.wide, z.edges)

pub overflow_mul-size : goal.overflow_mul-size
overflow_mul-size c =
    let p = plan c.args.vertices c.args.ends.now c.args.excluded.now in
    let z = sized p c.header_columns-columns.result c.requires c.header_columns-columns.ensures in
    omega (arith, z.excluded)

pub overflow_add-size : goal.overflow_add-size
overflow_add-size c =
    let p = plan c.args.vertices c.args.ends.now c.args.excluded.now in
    let z = sized p c.header_columns-columns.result c.requires c.header_columns-columns.ensures in
    omega (arith, z.wide, z.edges, z.excluded)

pub returns-then-text-size : goal.returns-then-text-size
returns-then-text-size c =
    let p = plan c.args.vertices c.args.ends.now c.args.excluded.now in
    let z = sized p c.header_columns-columns.result c.requires c.header_columns-columns.ensures in
    let space = length c.args.text.now in
    writes_plan (Writing.refused (answer 6 0))
    (plan_short five limits p space c.requires (omega (arith, z.size, c.if-text-size.true)))
    (ap handed c.refused_writing.ensures) refl

pub overflow_cast-header : goal.overflow_cast-header
overflow_cast-header c =
    let p = plan c.args.vertices c.args.ends.now c.args.excluded.now in
    let z = sized p c.header_columns-columns.result c.requires c.header_columns-columns.ensures in
    omega (arith, z.edges)

pub overflow_cast-header-2 : goal.overflow_cast-header-2
overflow_cast-header-2 c =
    let p = plan c.args.vertices c.args.ends.now c.args.excluded.now in
    let z = sized p c.header_columns-columns.result c.requires c.header_columns-columns.ensures in
    omega (arith, z.excluded)

pub write_text-requires : goal.write_text-requires
write_text-requires c =
    let p = plan c.args.vertices c.args.ends.now c.args.excluded.now in
    let z = sized p c.header_columns-columns.result c.requires c.header_columns-columns.ensures in
    (z.wide, z.wide, omega arith, z.even, omega (arith, c.if-text-size.false))

pub returns : goal.returns
returns c =
    let p = plan c.args.vertices c.args.ends.now c.args.excluded.now in
    let z = sized p c.header_columns-columns.result c.requires c.header_columns-columns.ensures in
    let t = c.args.text.now in
    let xs = plan_text five p in
    let room : length xs ≤ length t = omega (arith, z.size, c.if-text-size.false) in
    let counts = p.vertices ∷ (length p.ends / 2 ∷ (length p.excluded ∷ [])) in
    let front : take c.header_columns-columns.result counts ≡ header_of p = ap (λ (n : ℕ). take n counts) z.columns ∙ header_front p in
    writes_plan (Writing.written xs)
    (plan_written five limits p (length t) c.requires room)
    (ap (λ (m : ℕ). served (m ∷ [])) z.size)
    (c.write_lines.ensures ∙ rw (c.write_text.ensures, front) (in_parts five p t _ (ap (λ (n : ℕ). line_size five n + length p.ends / 2 * line_size five 2) z.columns)) ∙ sets_filled t xs room)
