-- The answer about a plan and its record: refused, weak or firm as the definition has it, and what the lent list then holds.
use Rattle.std.specs.Prelude.{Err, Ok, None, Some}
use Rattle.std.proofs.Common.{◌≡◌, ℕ, ◌*◌, ◌<◌, ◌≤◌, List, [], ◌∷◌, length, take, drop, sym, refl, ap, ◌∙◌, subst, arith, take_at, drop_at}
use mathlib.Core.Option.{Option, none, some}
use Rattle.connectivity.specs.Plan.{Plan, graph, limits}
use Rattle.connectivity.specs.Cut.{lowest_cut}
use Rattle.connectivity.specs.Admission.{kept_edges, Admitted, answer, passed, admission}
use Rattle.connectivity.specs.Verdict as meaning
use Rattle.connectivity.specs.Judge.{judge}
use Rattle.connectivity.proofs.Admission.{admission_number}
use Rattle.connectivity.proofs.Kept.{two_kept}
use Rattle.connectivity.proofs.LowestCut.{three_edge_connected}
use Rattle.connectivity.proofs.Verdict.{verdict_short, verdict-refused, reaches}
use Rattle.connectivity.proofs.Judge.{firm_passes}
use Rattle.graph.specs.Admission.{told_by}
use Rattle.graph.proofs.Handed.{back_served}
use Rattle.graph.specs.declared.Answer.{Answer}
use Rattle.cuts.specs.declared.lowest.Lowest.{Lowest}
use Rattle.cuts.specs.Verdict.{Lightest}
use Rattle.cuts.specs.Verdict.{handed, lowest_handed}
use Rattle.cuts.proofs.Handing.{told_of, handed-told, told_back}
use Rattle.record.specs.Recording.{Sturdy, Recorded}
use Rattle.record.specs.Answered.{Answered}

-- a list that is left as it was
still : {p : Plan} {lent : List ℕ} {r : Lightest} (v : meaning.Verdict) → meaning.verdict limits p (length lent) ≡ v
    → (v ≡ meaning.firm → ⊥) → r ≡ told_of v → Answered limits p lent lent r
still v a f q = record {
  answer = ap handed q ∙ handed-told v ∙ ap meaning.verdict_handed (sym a);
  kept = record { passes = λ z. absurd (f (sym a ∙ z)); behind = refl; unchanged = λ z. refl };
}

refused_firm : {a : _} → meaning.refused a ≡ meaning.firm → ⊥
refused_firm p = let z : ◌≡◌ {A = ℕ} 0 1 = cc in omega arith

weak_firm : {l : List ℕ} → meaning.weak l ≡ meaning.firm → ⊥
weak_firm p = let z : ◌≡◌ {A = ℕ} 0 1 = cc in omega arith

-- what the lowest cut is called

none_cut : {c : Lowest} → ◌≡◌ {A = Lightest} (Ok None) (Ok (Some c)) → ⊥
none_cut p = let z : ◌≡◌ {A = ℕ} 0 1 = cc in omega arith

no_cut : (o : Option (List ℕ)) → (Ok None) ≡ told_of (meaning.verdict_on o) → o ≡ none
unfolding meaning.verdict_on
no_cut none p = refl
no_cut (some []) p = absurd (none_cut p)
no_cut (some (e ∷ [])) p = absurd (none_cut p)
no_cut (some (e ∷ (d ∷ l))) p = absurd (none_cut p)

refused_cut : {x : Answer} (o : Option (List ℕ)) → Err x ≡ told_of (meaning.verdict_on o) → ⊥
unfolding meaning.verdict_on
refused_cut none p = let z : ◌≡◌ {A = ℕ} 0 1 = cc in omega arith
refused_cut (some []) p = let z : ◌≡◌ {A = ℕ} 0 1 = cc in omega arith
refused_cut (some (e ∷ [])) p = let z : ◌≡◌ {A = ℕ} 0 1 = cc in omega arith
refused_cut (some (e ∷ (d ∷ l))) p = let z : ◌≡◌ {A = ℕ} 0 1 = cc in omega arith

some_cut : {c : Lowest} (o : Option (List ℕ)) → Ok (Some c) ≡ told_of (meaning.verdict_on o) → (l : List ℕ) × (o ≡ some l) × (Ok (Some c) ≡ told_of (meaning.weak l))
unfolding meaning.verdict_on
some_cut none p = absurd (none_cut (sym p))
some_cut (some []) p = ([], refl, p)
some_cut (some (e ∷ [])) p = (e ∷ [], refl, p)
some_cut (some (e ∷ (d ∷ l))) p = (e ∷ (d ∷ l), refl, p)

module _ (p : Plan) (lent : List ℕ) where
  -- the plan's own refusal
  pub answers_refused : {a : Answer} → (Admitted limits p → ⊥) × (a ≡ told_by (admission limits p)) → Answered limits p lent lent (Err a)
  answers_refused (h, q) = still (meaning.refused (admission limits p)) (verdict-refused limits p (length lent) h) refused_firm (ap Err q)

  module _ (a : Admitted limits p) where
    -- too little space
    pub answers_short : length lent < 3 * kept_edges p → Answered limits p lent lent (Err (record { number = 6; place = 0 }))
    answers_short h = still (meaning.refused (answer 6 0)) (verdict_short a (length lent) h) refused_firm refl

    module _ (h : 3 * kept_edges p ≤ length lent) where
      on_cut : meaning.verdict limits p (length lent) ≡ meaning.verdict_on (lowest_cut (graph p))
      on_cut = reaches a (length lent) h

      module _ (l : Lightest) (s : handed l ≡ lowest_handed limits p) where
        found : l ≡ told_of (meaning.verdict_on (lowest_cut (graph p)))
        unfolding lowest_handed
        found = told_back l _ (s ∙ sym (back_served (admission limits p) _ ((admission_number limits p).1 a)))

        -- where there is a cut, it is the answer
        on_weak : (c : Lowest) → l ≡ Ok (Some c) → Answered limits p lent lent (Ok (Some c))
        unfolding meaning.verdict_on
        on_weak c q =
            let (list, at, same) = some_cut (lowest_cut (graph p)) (sym q ∙ found) in
            still (meaning.weak list) (on_cut ∙ ap meaning.verdict_on at) weak_firm same

        -- where there is none
        module _ (q : l ≡ (Ok None)) where
          uncut : lowest_cut (graph p) ≡ none
          uncut = no_cut (lowest_cut (graph p)) (sym q ∙ found)

          pub sturdy : Sturdy limits p (length lent)
          sturdy = let t = two_kept a in record {
            admitted = a;
            three = (three_edge_connected t.low t.other t.lowest.vertex t.vertex (λ z. omega (arith, z, t.above))).0 uncut;
            fits = h;
          }

          pub answers_firm : {after : List ℕ} {r : Lightest} → Recorded p lent after → r ≡ (Ok None) → Answered limits p lent after r
          unfolding meaning.verdict_on
          answers_firm {after} c e = record {
            answer = ap handed e ∙ handed-told meaning.firm ∙ ap meaning.verdict_handed (sym firm);
            kept = record {
              passes = λ z. subst (λ (list : List ℕ). judge limits p 0 list ≡ passed) (sym front) ((firm_passes limits p c.list).1 (a, c.builds));
              behind = ap (drop (3 * kept_edges p)) c.written ∙ drop_at c.list (drop (length c.list) lent) (3 * kept_edges p) c.long ∙ ap (λ (k : ℕ). drop k lent) c.long;
              unchanged = λ z. absurd (z firm);
            };
          }
            where
              firm : meaning.verdict limits p (length lent) ≡ meaning.firm
              firm = on_cut ∙ ap meaning.verdict_on uncut

              front : take (3 * kept_edges p) after ≡ c.list
              front = ap (take (3 * kept_edges p)) c.written ∙ take_at c.list (drop (length c.list) lent) (3 * kept_edges p) c.long

      -- an admitted plan is not refused
      pub answers_cut : (l : Lightest) → handed l ≡ lowest_handed limits p → (l ≡ (Ok None) → ⊥) → Answered limits p lent lent l
      answers_cut (Err x) s k = absurd (refused_cut (lowest_cut (graph p)) (found (Err x) s))
      answers_cut (Ok (Some c)) s k = on_weak (Ok (Some c)) s c refl
      answers_cut (Ok None) s k = absurd (k refl)
