-- What is marked is listed, and the lines of what is listed are the text that is meant; to C its length.
use Rattle.std.specs.Result.{result_unwrap_or}
use mathlib.Core.Path.{◌≡◌, ap, subst, ◌∙◌}
use mathlib.Core.List.{List, ◌∷◌, Memᴰ as In}
use Prim.Native.Nat.{ℕ, ◌*◌, ◌≤◌, ◌<◌}
use native.Mathlib.Omega.{arith}
use lib.ListN.{length, set, take}
use Rattle.connectivity.specs.Plan.{Plan, graph, Limits}
use Rattle.connectivity.specs.Admission.{Answer, kept_edges, Admitted}
use Rattle.connectivity.specs.Verdict.{Verdict, verdict}
use Rattle.connectivity.specs.Fallen.{words_for, marks_of, fall_with}
use Rattle.connectivity.proofs.Kept.{bound_is}
use Rattle.connectivity.proofs.Fallen.{words_length, ordered_fall, fall_below}
use Rattle.graph.specs.Admission.{told_by}
use Rattle.graph.specs.declared.Answer as declared
use Rattle.text.specs.Plan.{PlanReading}
use Rattle.text_write.specs.Entry.{size_of, WritesLines}
use Rattle.text_write.specs.Entry.{Written}
use Rattle.text_write.proofs.Result.{size_told}
use Rattle.verify_texts.specs.Texts.{plan_in}
use Rattle.certify.specs.Answered.{Found, Answered, fallen_in}
use Rattle.certify.proofs.Outcomes.{same-verdict}
use Rattle.fallen_texts.specs.Falls.{falls, numbers_of, write_fallen, WritesFallen, TextSize}
use Rattle.fallen_texts.specs.Listing.{marked_below, Begins}
use Rattle.fallen_texts.proofs.Listing.{first_begins, marked_list}

-- what an answer about an admitted plan marks
module _ {most : Limits} {p : Plan} {before after : List ℕ} {f : Found} (a : Admitted most p) (c : Answered most p before after f) where
  pub words_long : length (fallen_in most f).words ≡ words_for most
  unfolding marks_of
  words_long = rw c.fallen (words_length _ 0 (words_for most))

  pub marked-falls : 3 * kept_edges p ≤ length before → marked_below (fallen_in most f).count (fallen_in most f).words p.vertices ≡ falls most p
  unfolding marked_below
  marked-falls room =
      let v = verdict most p (length before) in
      let l = fall_with (graph p) v in
      let below : (x : ℕ) → In x l → x < p.vertices = λ x i. omega (arith, bound_is p, fall_below (graph p) v i) in
      rw c.fallen (ap (λ (x : List ℕ). length l ∷ x) (marked_list most l p.vertices a.vertices (ordered_fall (graph p) v) below)
      ∙ ap (λ (w : Verdict). length (fall_with (graph p) w) ∷ fall_with (graph p) w) (same-verdict a (length before) room))

-- a refused plan has its number alone
pub number_begins : (limits : Limits) {x : PlanReading} {a : declared.Answer} (b : Answer) (list : List ℕ) → x ≡ PlanReading.refused b → a ≡ told_by b → 0 < length list
    → Begins (numbers_of limits x) (set list 0 a.number) 1
unfolding numbers_of
number_begins limits b list q e l = rw (q, e) (first_begins list b.number l)

pub read_begins : (limits : Limits) {x : PlanReading} (p : Plan) {list : List ℕ} {size : ℕ} → x ≡ PlanReading.read p → Begins (falls limits p) list size → Begins (numbers_of limits x) list size
unfolding numbers_of
read_begins limits p q b = rw q b

-- what is written is this text
pub lines_written : {ws : List ℕ} {most : ℕ} {limits : Limits} {plan before after list : List ℕ} {size : ℕ} {r : Written} → Begins (numbers_of limits (plan_in ws most limits plan)) list size
    → WritesLines ws 1 (take size list) before after r → WritesFallen ws most limits plan before after r
unfolding write_fallen
lines_written {ws} {before = before} {after = after} {r = r} b w = let x = subst (λ (l : List ℕ). WritesLines ws 1 l before after r) b.same w in record { answer = x.answer; memory = x.memory }

pub sizes : {ws : List ℕ} {most : ℕ} {limits : Limits} {plan before after : List ℕ} {w : Written} {r : ℕ} → WritesFallen ws most limits plan before after w
    → r ≡ result_unwrap_or w 0 → TextSize ws most limits plan before after r
sizes {w = w} c q = record { size = q ∙ size_told w ∙ ap size_of c.answer; memory = c.memory }
