-- What is written and answered: lines of a refusal or of the groups are the text that is meant; and to C the same in one number.
use Rattle.std.specs.Result.{result_unwrap_or}
use mathlib.Core.Path.{◌≡◌, sym, ap, ◌∙◌}
use mathlib.Core.Bool.{Bool}
use mathlib.Core.List.{List, [], ◌∷◌}
use Prim.Native.Nat.{ℕ, ◌≤◌}
use native.Mathlib.Omega.{arith}
use lib.Dec.{leb, le→leb}
use lib.ListN.{length}
use Rattle.connectivity.specs.Plan.{Plan, graph, Limits}
use Rattle.connectivity.specs.Admission.{Answer, passed, Admitted}
use Rattle.connectivity.specs.Component.{components}
use Rattle.connectivity.proofs.Lists.{T-dec}
use Rattle.graph.specs.Admission.{told_by, answer_of, lent}
use Rattle.graph.specs.declared.Answer as declared
use Rattle.graph.proofs.Lent.{lent-enough, lent_short, lent_passed}
use Rattle.text.specs.Column.{line}
use Rattle.text.specs.Plan.{PlanReading, Writing, filled}
use Rattle.text.specs.Lines.{write_text, write_lines}
use Rattle.text_write.specs.Entry.{handed, bytes_handed, size_of, after_writing, WritesLines}
use Rattle.text_write.specs.Entry.{Written}
use Rattle.verify_texts.specs.Board.{packed}
use Rattle.text_write.proofs.Result.{size_told}
use Rattle.verify_texts.specs.Texts.{plan_in}
use Rattle.components.specs.Answered.{Answered}
use Rattle.components_texts.specs.Groups.{text_of, write_groups, WritesGroups}
use Rattle.components_texts.specs.Export.{Packed, TextSize}
use Rattle.components_texts.specs.Pairs.{group_pairs}
use Rattle.components_texts.proofs.Listing.{write_pairs, write_one}

-- of an admitted plan, and a table that is long enough, the groups are found
pub found : {most : Limits} {p : Plan} {before after : List ℕ} {r : declared.Answer} → Admitted most p → p.vertices ≤ length before → Answered most p before after r
    → after ≡ filled (components (graph p)) before
found {p = p} {before = before} a h c = c.front (ap (λ (x : declared.Answer). x.number) (c.answer ∙ ap told_by (lent-enough _ a (le→leb p.vertices (length before) h))))

module _ {ws : List ℕ} {most : ℕ} {limits : Limits} {plan before after : List ℕ} {r : Written} where
  -- what is written is this text
  writes : {columns : ℕ} {list : List ℕ} (x : PlanReading) → plan_in ws most limits plan ≡ x
      → ((space : ℕ) → write_lines ws columns list space ≡ write_text (text_of ws x) space) → WritesLines ws columns list before after r → WritesGroups ws most limits plan before after r
  unfolding write_groups
  writes x q s w =
      let same = s (length before) ∙ ap (λ (y : PlanReading). write_text (text_of ws y) (length before)) (sym q) in
      record { answer = w.answer ∙ ap bytes_handed same; memory = w.memory ∙ ap (λ (y : Writing). after_writing y before) same }

  pub refused_written : {a : declared.Answer} (b : Answer) → plan_in ws most limits plan ≡ PlanReading.refused b → a ≡ told_by b
      → WritesLines ws 1 (a.number ∷ []) before after r → WritesGroups ws most limits plan before after r
  unfolding text_of
  refused_written {a} b q e = writes (PlanReading.refused b) q (λ space. write_one ws a.number space ∙ ap (λ (x : declared.Answer). write_text (line ws (x.number ∷ [])) space) e)

  pub read_written : (p : Plan) → plan_in ws most limits plan ≡ PlanReading.read p → WritesLines ws 2 (group_pairs (graph p)) before after r → WritesGroups ws most limits plan before after r
  unfolding text_of
  read_written p q = writes (PlanReading.read p) q (write_pairs ws (graph p))

-- To C.

passed_whole : (most : Limits) (p : Plan) (enough : Bool) → (lent most p enough).number ≡ 0 → lent most p enough ≡ passed
passed_whole most p enough z = let a = lent_passed enough z in elim (T-dec enough) [ yes t ↦ lent-enough enough a t | no n ↦ absurd ((lent_short enough a n).0 z) ]

pub packs : {most : Limits} {p : Plan} {before after : List ℕ} {a : declared.Answer} {r : ℕ} → Answered most p before after a → r ≡ packed (answer_of a) → Packed most p before after r
packs {most} {p} {before} {a = a} {r = r} c q =
    let told = lent most p (leb p.vertices (length before)) in
    let same : r ≡ packed told = q ∙ ap (λ (x : declared.Answer). packed (answer_of x)) c.answer in
    record {
      answer = same;
      front = λ z. c.front (omega arith);
      unchanged = λ n. c.unchanged (λ z. n (same ∙ ap packed (passed_whole most p _ (ap (λ (x : declared.Answer). x.number) (sym c.answer) ∙ z))));
    }

pub sizes : {ws : List ℕ} {most : ℕ} {limits : Limits} {plan before after : List ℕ} {w : Written} {r : ℕ} → WritesGroups ws most limits plan before after w
    → r ≡ result_unwrap_or w 0 → TextSize ws most limits plan before after r
sizes {w = w} c q = record { size = q ∙ size_told w ∙ ap size_of c.answer; memory = c.memory }
