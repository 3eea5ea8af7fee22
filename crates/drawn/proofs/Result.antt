-- A result of reading, met by the code's answer and both tables; and the plan of the taken tabs in them.
use mathlib.Core.Path.{◌≡◌, refl, sym, ap, ◌∙◌}
use mathlib.Core.Bool.{Bool, true, false, cond}
use mathlib.Core.List.{List, [], ◌∷◌}
use Prim.Native.Nat.{ℕ, suc, ◌+◌, ◌*◌, ◌/◌, ◌%◌, ◌≤◌}
use native.Mathlib.Omega.{arith}
use lib.Dec.{leb}
use lib.ListN.{length, take, drop}
use lib.Seq.{take_at}
use borrow.Author.Tests.{eq-eqb, le-ltb}
use Rattle.connectivity.specs.Plan.{entire, Limits}
use Rattle.connectivity.specs.Admission.{Answer, answer, passed, edge_number, ends_answer, Admitted, admission as meaning}
use Rattle.connectivity.proofs.Admission.{both_passed, passed_then, ends_told, told_zero, admission_number}
use Rattle.connectivity.proofs.Kept.{entire-admission}
use Rattle.graph.specs.Admission as admission
use Rattle.graph.specs.Admission.{Admission}
use Rattle.text.specs.Plan.{filled}
use Rattle.text.proofs.Reading.{sets_filled}
use Rattle.drawn.specs.Drawing.{Drawn, all_ends, wide_ones, wide_numbers, least_gap, taken_plan, taken_numbers}
use Rattle.drawn.specs.Text.{Form, header_size, count, edges_in, spelled, Reading, read_drawn}
use Rattle.drawn.specs.Entry.{handed, after_ends, after_numbers, ReadsDrawn}
use Rattle.drawn.specs.Line.{Headed, Stored}
use Rattle.drawn.specs.declared.line.Header.{Header}
use Rattle.drawn.proofs.Edges.{length-edges_in}
use Rattle.drawn.proofs.Stores.{length-all_ends, length-wide}
use Rattle.drawn.proofs.Reading.{Met}

pub reads_drawn : {f : Form} {limits : Limits} {text ends numbers ends' numbers' : List ℕ} {r : Admission} (x : Reading)
    → read_drawn f limits text (length ends) (length numbers) ≡ x → admission.handed r ≡ handed x → ends' ≡ after_ends x ends → numbers' ≡ after_numbers x numbers
    → ReadsDrawn f limits text ends numbers ends' numbers' r
reads_drawn {ends = ends} {numbers = numbers} x p q m k = record {
  answer = q ∙ sym (ap handed p);
  plan = m ∙ sym (ap (λ (y : Reading). after_ends y ends) p);
  table = k ∙ sym (ap (λ (y : Reading). after_numbers y numbers) p);
}

-- where all drawn tabs pass, those that are wide enough do
wide_passed : (n least e k : ℕ) (l : List Drawn) → ends_answer n e (all_ends l) ≡ passed → ends_answer n k (all_ends (wide_ones least l)) ≡ passed
unfolding ends_answer all_ends wide_ones
wide_passed n least e k [] p = refl
wide_passed n least e k (x ∷ l) p =
    let q = both_passed (answer (edge_number n x.left x.right) e) (ends_answer n (suc e) (all_ends l)) p in
    go (leb least x.gap) q.0 (wide_passed n least (suc e) (suc k) l q.1) (wide_passed n least (suc e) k l q.1)
  where
    go : (t : Bool) → edge_number n x.left x.right ≡ 0 → ends_answer n (suc k) (all_ends (wide_ones least l)) ≡ passed → ends_answer n k (all_ends (wide_ones least l)) ≡ passed
        → ends_answer n k (all_ends (cond t (x ∷ wide_ones least l) (wide_ones least l))) ≡ passed
    go true z a b = passed_then (answer (edge_number n x.left x.right) k) (ends_answer n (suc k) (all_ends (wide_ones least l))) z ∙ a
    go false z a b = b

-- so the plan of the taken tabs is admitted
pub taken_admitted : (f : Form) (limits : Limits) (text : List ℕ) (ends numbers : ℕ) → Met f limits text ends numbers → Admitted limits (taken_plan (spelled f text))
unfolding taken_plan spelled
taken_admitted f limits text ends numbers r =
    let d = spelled f text in
    let all = d.edges in
    let taken = all_ends (wide_ones (least_gap d) all) in
    let n = d.vertices in
    let long : length taken ≡ 2 * length (wide_ones (least_gap d) all) = length-all_ends (wide_ones (least_gap d) all) in
    let most : length (wide_ones (least_gap d) all) ≤ count f text = omega (arith, (length-wide (least_gap d) 0 all).1, length-edges_in f (count f text) (drop (header_size f) text)) in
    let own : ends_answer n 0 taken ≡ passed = wide_passed n (least_gap d) 0 0 all (told_zero (ends_told n 0 (all_ends all)) r.own) in
    let whole : meaning limits (entire n taken) ≡ passed = entire-admission n taken limits
    ∙ rw (eq-eqb (length taken % 2) 0 (omega (arith, long)), le-ltb n 2 r.two, le-ltb limits.vertices n r.few, le-ltb limits.edges (length taken / 2) (omega (arith, long, most, r.short))) own in
    (admission_number limits (entire n taken)).0 (ap (λ (x : Answer). x.number) whole)

-- a list that was read, stored
module _ {f : Form} {text ends numbers ends' numbers' : List ℕ} {h : Header} {r : ℕ} (d : Headed f text h) (room : 2 * h.edges ≤ length ends) (table : h.edges ≤ length numbers)
    (s : Stored (h.least + h.kerf) 0 0 (edges_in f h.edges (drop (header_size f) text)) ends numbers ends' numbers' r) where
  pub record Taken : Type 0 where
    pub many : 2 * r ≡ length (taken_plan (spelled f text)).ends
    pub few : r ≤ h.edges
    pub plan : ends' ≡ filled (taken_plan (spelled f text)).ends ends
    pub numbers_set : numbers' ≡ filled (taken_numbers (spelled f text)) numbers
    pub is : entire h.vertices (take (2 * r) ends') ≡ taken_plan (spelled f text)

  pub taken : Taken
  unfolding taken_plan taken_numbers spelled least_gap
  taken =
      let all = edges_in f (count f text) (drop (header_size f) text) in
      let least = least_gap (spelled f text) in
      let stored = rw (d.least, d.kerf, d.edges) at s in
      let es = all_ends (wide_ones least all) in
      let ns = wide_numbers least 0 all in
      let w = length-wide least 0 all in
      let n : length all ≡ h.edges = omega (arith, length-edges_in f (count f text) (drop (header_size f) text), d.edges) in
      let long = length-all_ends (wide_ones least all) in
      let many : 2 * r ≡ length es = omega (arith, stored.many, w.0, long) in
      let plan : ends' ≡ filled es ends = stored.ends_set ∙ sets_filled ends es (omega (arith, n, long, w.1)) in
      record {
        many = many;
        few = omega (arith, stored.many, w.0, w.1, n);
        plan = plan;
        numbers_set = stored.numbers-set ∙ sets_filled numbers ns (omega (arith, n, w.0, w.1));
        is = rw (d.vertices, plan, take_at es (drop (length es) ends) (2 * r) (sym many));
      }
