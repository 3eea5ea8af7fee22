-- The text that is written for a plan text: its verdict has a text form, so that 6 is the only refusal; and of a plan that is read, the
-- bytes that are left in the lent buffer pass the check of both texts.
use Rattle.std.specs.Prelude.{Ok}
use mathlib.Core.Path.{◌≡◌, refl, sym, ap, subst, ◌∙◌}
use mathlib.Core.Logic.{inl, inr}
use mathlib.Core.Bool.{true}
use mathlib.Core.List.Memᴰ.{head as first}
use mathlib.Core.List.Memᴰ.{tail as later}
use mathlib.Core.List.{List, [], ◌∷◌, Memᴰ as In}
use Prim.Native.Nat.{ℕ, zero, suc, ◌+◌, ◌*◌, ◌/◌, ◌%◌, ◌≤◌, ◌<◌, ◌^◌}
use native.Mathlib.Omega.{arith}
use lib.ListN.{length, get_or, take, drop}
use lib.Seq.{take_at}
use borrow.Author.Tests.{eq-eqb, le-leb, lt-leb}
use Rattle.connectivity.specs.Plan.{Plan, graph, Limits}
use Rattle.connectivity.specs.Cut.{Cut}
use Rattle.connectivity.specs.Admission.{Handed, passed, kept_edges, Admitted}
use Rattle.connectivity.specs.Verdict as meaning
use Rattle.connectivity.specs.Judge.{judge}
use Rattle.connectivity.proofs.Kept.{edge_size_lem}
use Rattle.connectivity.proofs.Verdict.{verdict_weak}
use Rattle.connectivity.proofs.Judge.{firm_passes, weak_passes}
use Rattle.connectivity.proofs.Complete.{numbers_below, builds_length}
use Rattle.graph.proofs.Barring.{edges_few}
use Rattle.text.specs.Column.{worths, line_size}
use Rattle.text.specs.Plan.{PlanReading, Writing, filled}
use Rattle.text.specs.Verdict.{VerdictReading, is_refusal, has_text, verdict_text, write_verdict}
use Rattle.text_write.specs.Entry.{handed, bytes_handed, after_writing}
use Rattle.text_write.specs.Entry.{Written}
use Rattle.text.proofs.Writing.{length-verdict, verdict_size, verdict_written}
use Rattle.text.proofs.RoundTrip.{verdict_kept}
use Rattle.text_write.proofs.Result.{bytes_told}
use Rattle.verify_texts.specs.Texts.{plan_in, verdict_in, judge_read, judge_texts}
use Rattle.verify_texts.proofs.TwoTexts as two
use Rattle.verify_texts.proofs.TwoTexts.{PlanNumber, verdict_space, plan_number}
use Rattle.verify_texts.proofs.Stored.{planned}
use Rattle.certify_texts.specs.Says.{SaysOf, Says, weak, firm, refused, read, WritesFor}

-- every number of a list is below a bound
at_below : (list : List ℕ) (bound : ℕ) → ((x : ℕ) → In x list → x < bound) → (i : ℕ) → get_or list i 0 ≤ bound
at_below [] bound f i = omega arith
at_below (x ∷ list) bound f zero = omega (arith, f x (first refl))
at_below (x ∷ list) bound f (suc i) = at_below list bound (λ y m. f y (later m)) i

module _ {limits : Limits} {p : Plan} (a : Admitted limits p) where
  -- a weak verdict names a cut
  says_cut : {cut : List ℕ} → meaning.verdict limits p (3 * kept_edges p) ≡ meaning.weak cut → Cut (graph p) cut
  says_cut {cut} v = ((verdict_weak a (3 * kept_edges p) (omega arith) cut).0 v).cut

  -- a verdict on an admitted plan passes
  pub says_passes : {kind : ℕ} {list : List ℕ} → SaysOf limits p kind list → judge limits p kind list ≡ passed
  says_passes (weak {cut} v) = (weak_passes limits p cut).1 (a, says_cut v)
  says_passes (firm v q) = q

  -- and has a text form
  passes_text : {kind : ℕ} {list : List ℕ} → SaysOf limits p kind list → has_text limits kind list ≡ true
  unfolding has_text
  passes_text (weak {cut} v) = le-leb (length cut) 2 (says_cut v).small
  passes_text (firm {list} v q) =
      let long : length list ≡ 3 * kept_edges p = builds_length (graph p) list ((firm_passes limits p list).0 q).1 in
      rw (eq-eqb (length list % 3) 0 (omega (arith, long)), le-leb (length list / 3) limits.edges (omega (arith, long, edges_few p, a.edges))) refl

  -- its numbers are edges, vertices and steps
  numbers_small : {kind : ℕ} {list : List ℕ} (most : ℕ) → 2 * limits.edges + limits.vertices + 2 ≤ most → SaysOf limits p kind list → (i : ℕ) → get_or list i 0 ≤ most
  unfolding graph
  numbers_small most h (weak {cut} v) i = omega (arith, h, a.edges, at_below cut (length p.ends / 2) (λ x m. edge_size_lem p ((says_cut v).set.members x m)) i)
  numbers_small most h (firm {list} v q) i =
      omega (arith, h, a.edges, a.vertices, edges_few p, at_below list _ (numbers_below (graph p) list ((firm_passes limits p list).0 q).1) i)

-- a plan's refusal is one of kind 2's
refusal_is : (k : ℕ) → PlanNumber k → is_refusal k ≡ true
unfolding is_refusal
refusal_is k (low, inl (inl h)) = rw (le-leb 1 k low, le-leb k 7 (omega (arith, h)))
refusal_is k (low, inl (inr h)) = rw (le-leb 1 k low, lt-leb k 7 (omega (arith, h.0)), le-leb 18 k h.0, le-leb k 19 h.1)
refusal_is k (low, inr h) = rw (le-leb 1 k low, le-leb k 7 (omega (arith, h)))

module _ {ws : List ℕ} {most : ℕ} {limits : Limits} where
  -- a verdict that is written for a plan text has a text form
  pub says_text : {plan : List ℕ} {kind : ℕ} {list : List ℕ} → Says ws most limits plan kind list → has_text limits kind list ≡ true
  unfolding has_text
  says_text {plan} (refused {a} q) = rw (refusal_is a.number (plan_number ws most limits plan a q)) refl
  says_text {plan} (read q s) = passes_text (planned ws most limits plan q) s

  -- Space for the longest verdict text is enough.
  module _ (high : 19 ≤ limits.edges) where
    longest : {plan : List ℕ} {kind : ℕ} {list : List ℕ} → Says ws most limits plan kind list
        → length (verdict_text ws kind list) ≤ line_size ws 2 + limits.edges * line_size ws 3
    longest {kind = kind} {list = list} s = let h = says_text s in omega (arith, length-verdict ws limits kind list 0 h, (verdict_size ws limits high kind list h).1)

    pub bytes_fit : {plan before after : List ℕ} {r : Written} {count : ℕ} → WritesFor ws most limits plan before after r
        → line_size ws 2 + limits.edges * line_size ws 3 ≤ length before → r ≡ Ok count → count ≤ line_size ws 2 + limits.edges * line_size ws 3
    bytes_fit {before = before} {count = count} w h q =
        let text = verdict_text ws w.kind w.list in
        let told : handed (Ok count) ≡ bytes_handed (Writing.written text) = ap handed (sym q) ∙ w.written.answer
        ∙ ap bytes_handed (verdict_written ws limits w.kind w.list (length before) (says_text w.says) (omega (arith, h, longest w.says))) in
        let same : count ≡ length text = ap (λ (x : Handed). get_or x.values 0 0) told in
        omega (arith, same, longest w.says)

-- what is said of a plan that is read
said : {ws : List ℕ} {most : ℕ} {limits : Limits} {plan : List ℕ} {p : Plan} {kind : ℕ} {list : List ℕ} → Says ws most limits plan kind list
    → plan_in ws most limits plan ≡ PlanReading.read p → SaysOf limits p kind list
said (refused q) h = let z : ◌≡◌ {A = ℕ} 0 1 = cc in absurd (omega arith)
said {limits = limits} {p = p} {kind = kind} {list = list} (read {p = d} q s) h = let same : d ≡ p = cc in subst (λ (x : Plan). SaysOf limits x kind list) same s

-- In columns of w digits, for every largest value that has no more digits, and all limits whose numbers it has room for.
module _ (w most : ℕ) (digits : most < 10 ^ w) (limits : Limits) (numbers : 2 * limits.edges + limits.vertices + 2 ≤ most) (high : 19 ≤ most) where
  abbrev ws : List ℕ
  ws = worths w

  -- the check of a plan text and the verdict text that is said of it passes
  pub text_passes : (plan : List ℕ) {p : Plan} {kind : ℕ} {list : List ℕ} → plan_in ws most limits plan ≡ PlanReading.read p → SaysOf limits p kind list
      → judge_texts ws most limits plan (verdict_text ws kind list) ≡ passed
  unfolding judge_texts judge_read
  text_passes plan {p} {kind} {list} q s =
      let a = planned ws most limits plan q in
      let space = 3 * limits.edges + length list + 2 in
      let y : verdict_in ws most limits (verdict_text ws kind list) ≡ VerdictReading.read kind list = sym (verdict_space ws most limits (verdict_text ws kind list) space (omega arith) (omega arith))
      ∙ verdict_kept w most digits limits (omega arith) (omega arith) high kind list space (passes_text a s) (numbers_small a most numbers s) (omega arith) in
      rw (q, y) (says_passes a s)

  -- 01, demand 3: the bytes that the verdict entry leaves at the front of the lent buffer pass the check of both texts, for every plan text
  -- that is read
  pub left_passes : {plan before after : List ℕ} {r : Written} {p : Plan} {count : ℕ} → WritesFor ws most limits plan before after r
      → plan_in ws most limits plan ≡ PlanReading.read p → r ≡ Ok count → judge_texts ws most limits plan (take count after) ≡ passed
  left_passes {plan} {before} {after} {count = count} c q b =
      let (bytes, x, long) = bytes_told (write_verdict ws limits c.kind c.list (length before)) c.written.answer b in
      let text = (two.verdict_written ws limits c.kind c.list (length before) bytes x).1 in
      let memory : after ≡ filled bytes before = c.written.memory ∙ ap (λ (y : Writing). after_writing y before) x in
      let front : take count after ≡ verdict_text ws c.kind c.list = ap (take count) memory ∙ take_at bytes (drop (length bytes) before) count (sym long) ∙ text in
      ap (judge_texts ws most limits plan) front ∙ text_passes plan q (said c.says q)
