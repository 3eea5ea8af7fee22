-- What is found of a plan is a verdict on it: kind 2 where it is refused, weak with the edges that the cut names, or firm with a record
-- that passes.
use Rattle.std.specs.Prelude.{Err, Ok}
use Rattle.std.specs.Result.{result_unwrap_or}
use mathlib.Core.Path.{◌≡◌, refl, sym, ap, subst, ◌∙◌}
use mathlib.Core.List.{List, [], ◌∷◌}
use Prim.Native.Nat.{ℕ, ◌*◌, ◌≤◌}
use native.Mathlib.Omega.{arith}
use lib.ListN.{length, take}
use Rattle.connectivity.specs.Plan.{Plan, graph, Limits}
use Rattle.connectivity.specs.Fallen.{fall_with}
use Rattle.connectivity.specs.Admission.{Answer, Handed, kept_edges, Admitted}
use Rattle.connectivity.specs.Verdict as meaning
use Rattle.graph.specs.Admission.{told_by}
use Rattle.graph.specs.declared.Answer as declared
use Rattle.graph.proofs.Barring.{edges_few}
use Rattle.graph.proofs.Lent.{not_served}
use Rattle.text.specs.Plan.{PlanReading}
use Rattle.text_write.specs.Entry as written
use Rattle.text_write.specs.Entry.{size_of}
use Rattle.text_write.specs.Entry.{Written}
use Rattle.text_write.proofs.Result.{size_told}
use Rattle.verify_texts.specs.Texts.{plan_in}
use Rattle.cuts.specs.declared.lowest.Lowest.{Lowest}
use Rattle.removal.specs.declared.Fallen.{Fallen}
use Rattle.removal.specs.Fallen.{fallen_of}
use Rattle.certify.specs.declared.Finding.TheVariants.{Firm, Weak}
use Rattle.certify.specs.Answered.{Found, Answered, handed, fallen_in, named}
use Rattle.certify.proofs.Outcomes as outcomes
use Rattle.certify_texts.specs.Packed.{packed, Packed, words_after, words_of, Marks, TextSize}
use Rattle.certify_texts.specs.Says.{SaysOf, weak, firm, refused, WritesFor}

-- a plan that is refused has kind 2
pub says_refused : {ws : List ℕ} {most : ℕ} {limits : Limits} {plan before after : List ℕ} {r : Written} {a : declared.Answer} (b : Answer)
    → plan_in ws most limits plan ≡ PlanReading.refused b → a ≡ told_by b → written.WritesVerdict ws limits 2 (a.number ∷ []) before after r → WritesFor ws most limits plan before after r
says_refused {ws = ws} {limits = limits} {before = before} {after = after} {r = r} b q e w = record {
  kind = 2;
  list = b.number ∷ [];
  says = refused q;
  written = subst (λ (x : declared.Answer). written.WritesVerdict ws limits 2 (x.number ∷ []) before after r) e w;
}

-- an admitted one is weak or firm, whatever the space above three numbers for each edge that is kept
module _ {limits : Limits} {p : Plan} {before after : List ℕ} {f : Found} (a : Admitted limits p) (long : length before ≡ 3 * limits.edges) (c : Answered limits p before after f) where
  room : 3 * kept_edges p ≤ length before
  room = omega (arith, a.edges, edges_few p, long)

  same : meaning.verdict limits p (3 * kept_edges p) ≡ meaning.verdict limits p (length before)
  same = sym (outcomes.same-verdict a (length before) room)

  pub never_refused : {x : declared.Answer} {P : Type 0} → f ≡ Err x → P
  never_refused q = absurd (outcomes.never_refused a room c q)

  pub says_weak : {cut : Lowest} {fallen : Fallen} → f ≡ Ok (Weak cut fallen) → (cut.count ≤ 2) × SaysOf limits p 1 (named cut)
  says_weak q = let (few, v) = outcomes.weak_outcome c q in (few, weak (same ∙ v))

  pub says_firm : f ≡ Ok Firm → SaysOf limits p 0 (take (3 * kept_edges p) after)
  says_firm q = let v = outcomes.found_firm a room c q in firm (same ∙ v) (c.kept.passes v)

-- to C: the same in one number, and how many bytes were written
pub packs : {most : Limits} {p : Plan} {before after : List ℕ} {f : Found} {r : ℕ} → Answered most p before after f → r ≡ packed (handed f) → Packed most p before after r
packs c q = record { answer = q ∙ ap packed c.answer; kept = c.kept }

-- the lent words are a weak verdict's marks
words_are : (most : Limits) (p : Plan) (words₀ : List ℕ) (f : Found) (v : meaning.Verdict) → handed f ≡ meaning.verdict_handed v → fallen_in most f ≡ fallen_of most (fall_with (graph p) v)
    → words_of f words₀ ≡ words_after most (graph p) v words₀
unfolding words_after fall_with meaning.verdict_handed
words_are most p words₀ (Err a) (meaning.refused b) h q = refl
words_are most p words₀ (Err a) meaning.firm h q = refl
words_are most p words₀ (Err a) (meaning.weak []) h q = absurd (not_served h)
words_are most p words₀ (Err a) (meaning.weak (e ∷ [])) h q = absurd (not_served h)
words_are most p words₀ (Err a) (meaning.weak (e ∷ (d ∷ l))) h q = absurd (not_served h)
words_are most p words₀ (Ok Firm) v h q = rw (outcomes.firm_only v h) refl
words_are most p words₀ (Ok (Weak cut fallen)) (meaning.refused b) h q = absurd (not_served (sym h))
words_are most p words₀ (Ok (Weak cut fallen)) meaning.firm h q = absurd (omega (arith, ap (λ (x : Handed). length x.values) h))
words_are most p words₀ (Ok (Weak cut fallen)) (meaning.weak list) h q = ap (λ (x : Fallen). x.words) q

pub marks : {most : Limits} {p : Plan} {before after : List ℕ} {f : Found} {words₀ words : List ℕ} {n : ℕ} → Answered most p before after f
    → (n ≡ (fallen_in most f).count) × (words ≡ words_of f words₀) → Marks most p (length before) words₀ words n
marks {most} {p} {before} {f = f} {words₀ = words₀} c h = record {
  words = h.1 ∙ words_are most p words₀ f (meaning.verdict most p (length before)) c.answer c.fallen;
  count = h.0 ∙ rw c.fallen;
}

pub sizes : {ws : List ℕ} {most : ℕ} {limits : Limits} {plan before after : List ℕ} {w : Written} {r : ℕ} → WritesFor ws most limits plan before after w
    → r ≡ result_unwrap_or w 0 → TextSize ws most limits plan before after r
sizes {w = w} c q = record { kind = c.kind; list = c.list; says = c.says; size = q ∙ size_told w ∙ ap size_of c.written.answer; memory = c.written.memory }
