-- The three demands on check and writer (01), in their order, for every plan and every list of numbers that anyone offers. Nothing here
-- speaks of a mark, a search or a row in turn: `ThreeEdgeConnected` is document 003's, `Builds` is 01's "builds the plan by Mader's steps",
-- `Cut` 01's weak list (two tabs at most, ascending, the plan's, that part the sheet), `LowestCut` the fewest and lowest; `judge` is what
-- the contract of the check says that it answers, `Answered` the contract of the writer. A plan carries its slugs (02); its tabs are the kept
-- ones, its pieces the kept ones: `graph p` has no others.
use Rattle.std.specs.Prelude.{Err, Ok}
use mathlib.Core.Path.{◌≡◌, refl, sym, ap, ◌∙◌}
use mathlib.Core.Logic.{◌⊎◌, inl, inr, ◌↔◌}
use mathlib.Core.List.{List}
use mathlib.Core.Option.{Option, none, some}
use Prim.Native.Nat.{ℕ, ◌*◌, ◌≤◌, ◌<◌}
use native.Mathlib.Omega.{arith}
use native.Mathlib.Decide.{ℕ_discrete}
use lib.ListN.{length, take}
use Rattle.connectivity.specs.Plan.{Plan, graph, Limits}
use Rattle.connectivity.specs.Graph.{Vertex}
use Rattle.connectivity.specs.Reach.{Reach, Without, ThreeEdgeConnected}
use Rattle.connectivity.specs.Cut.{EdgeSet, Cut, LowestCut, lowest_cut, cut_off}
use Rattle.connectivity.specs.Fallen.{Marked, marked, fallen}
use Rattle.connectivity.specs.Mader.{Builds}
use Rattle.connectivity.specs.Admission.{kept_edges, Admitted, answer, passed, refusal, admission}
use Rattle.connectivity.specs.Verdict.{verdict_handed}
use Rattle.connectivity.specs.Judge.{judge}
use Rattle.connectivity.proofs.Kept.{two_kept, bound_is}
use Rattle.connectivity.proofs.CutOff.{Lowest}
use Rattle.connectivity.proofs.Fallen.{fallen_not, fallen-count, fallen_some}
use Rattle.connectivity.proofs.LowestCut.{lowest_cut_lem, three_edge_connected}
use Rattle.connectivity.proofs.Judge as judged
use Rattle.connectivity.proofs.Verdict.{verdict-refused, verdict_short, verdict_firm, verdict_weak, weak_served}
use Rattle.connectivity.proofs.Complete.{firm_exists}
use Rattle.cuts.specs.declared.lowest.Lowest as code
use Rattle.removal.specs.declared.Fallen.{Fallen}
use Rattle.removal.specs.Fallen.{fallen_by, none as unmarked}
use Rattle.certify.specs.declared.Finding.TheVariants.{Firm, Weak}
use Rattle.certify.specs.Answered.{Found, Answered, handed, fallen_in, named}
use Rattle.certify.proofs.Outcomes.{firm_told, never_refused, found_firm, weak_outcome, weak_falls, found_falls, found_none}

-- Demand 1. Every input is served or given the one refusal that 01 fixes; a refused or weak answer leaves the lent record unchanged.
-- (That every entry takes every input and ends is what a contract without `requires` says.)

module _ {most : Limits} {p : Plan} where
  -- the check: the plan's own refusal comes first
  pub check_refused : (Admitted most p → ⊥) → (kind : ℕ) (list : List ℕ) → judge most p kind list ≡ admission most p
  check_refused h kind list = judged.judge-refused most p kind list h

  -- the writer
  module _ {before after : List ℕ} {found : Found} (c : Answered most p before after found) where
    -- the plan's own refusal
    pub writer_refused : (Admitted most p → ⊥) → handed found ≡ refusal (admission most p)
    unfolding verdict_handed
    writer_refused h = c.answer ∙ ap verdict_handed (verdict-refused most p (length before) h)

    -- then 6 where fewer than three numbers for each kept tab are lent
    pub writer_short : Admitted most p → length before < 3 * kept_edges p → handed found ≡ refusal (answer 6 0)
    unfolding verdict_handed
    writer_short a h = c.answer ∙ ap verdict_handed (verdict_short a (length before) h)

    pub writer_unchanged : (found ≡ Ok Firm → ⊥) → after ≡ before
    writer_unchanged h = c.kept.unchanged (λ v. h (firm_told c v))

-- In what follows the plan is admitted.
module _ {most : Limits} {p : Plan} (a : Admitted most p) where
  -- a verdict of this kind with these numbers passes
  abbrev Passes : ℕ → List ℕ → Type 0
  Passes kind list = judge most p kind list ≡ passed

  -- Demand 2. The verdict is firm exactly when the plan is 3-edge-connected, otherwise weak, naming the fewest tabs whose loss parts the
  -- sheet, the lowest such set. (That texts survive writing and reading: `text/proofs/RoundTrip`.)

  module _ {before after : List ℕ} {found : Found} (room : 3 * kept_edges p ≤ length before) (c : Answered most p before after found) where
    -- where three numbers for each kept tab are lent, the writer answers firm or weak
    pub answers : (found ≡ Ok Firm) ⊎ ((cut : code.Lowest) × (fallen : Fallen) × (found ≡ Ok (Weak cut fallen)))
    answers = go found refl
      where
        go : (x : Found) → found ≡ x → (found ≡ Ok Firm) ⊎ ((cut : code.Lowest) × (fallen : Fallen) × (found ≡ Ok (Weak cut fallen)))
        go (Err x) q = absurd (never_refused a room c q)
        go (Ok (Weak cut fallen)) q = inr (cut, fallen, q)
        go (Ok Firm) q = inl q

    pub ours_firm : (found ≡ Ok Firm) ↔ ThreeEdgeConnected (graph p)
    ours_firm =
        let v = verdict_firm a (length before) room in
        (λ q. v.0 (found_firm a room c q), λ t. firm_told c (v.1 t))

    pub ours_weak : {cut : code.Lowest} {fallen : Fallen} → found ≡ Ok (Weak cut fallen) → LowestCut (graph p) (named cut)
    ours_weak {cut} q = (verdict_weak a (length before) room (named cut)).0 (weak_outcome c q).1

  -- Demand 3. Which verdicts pass, whatever kind and numbers anyone offers.

  -- a firm one exactly when its record builds the plan by Mader's steps
  pub firm_list_lem : (list : List ℕ) → Passes 0 list ↔ Builds (graph p) list
  firm_list_lem list = (λ q. ((judged.firm_passes most p list).0 q).1, λ b. (judged.firm_passes most p list).1 (a, b))

  -- a weak one exactly when its tabs, two at most and ascending, are the plan's and part the sheet
  pub weak_list_lem : (list : List ℕ) → Passes 1 list ↔ Cut (graph p) list
  weak_list_lem list = (λ q. ((judged.weak_passes most p list).0 q).1, λ c. (judged.weak_passes most p list).1 (a, c))

  -- and nothing else
  pub no_other : (kind : ℕ) (list : List ℕ) → Passes kind list → (kind ≡ 0) ⊎ (kind ≡ 1)
  no_other kind list q = elim (ℕ_discrete kind 0) [
    | yes z ↦ inl z
    | no h ↦ elim (ℕ_discrete kind 1) [ yes z ↦ inr z | no k ↦ absurd (judged.no_other_passes most p kind list h k q) ]
  ]

  -- a firm verdict that passes exists exactly when the plan is firm
  pub firm_some : ((list : List ℕ) × Passes 0 list) ↔ ThreeEdgeConnected (graph p)
  firm_some = (λ q. judged.firm_three most p q.0 q.1, firm_exists a)

  -- some verdict passes, and never a firm one and a weak one both
  pub some_passes : ((rows : List ℕ) × Passes 0 rows) ⊎ ((tabs : List ℕ) × Passes 1 tabs)
  some_passes = go (lowest_cut (graph p)) refl
    where
      go : (o : Option (List ℕ)) → lowest_cut (graph p) ≡ o → ((rows : List ℕ) × Passes 0 rows) ⊎ ((tabs : List ℕ) × Passes 1 tabs)
      go none q = let t = two_kept a in inl (firm_some.1 ((three_edge_connected t.low t.other t.lowest.vertex t.vertex (λ z. omega (arith, z, t.above))).0 q))
      go (some cut) q = inr (cut, (weak_list_lem cut).1 (lowest_cut_lem q).cut)

  pub never_both : (rows tabs : List ℕ) → Passes 0 rows → Passes 1 tabs → ⊥
  never_both = judged.never_both most p

  -- a weak one exactly when it is weak
  pub weak_some : ((list : List ℕ) × Passes 1 list) ↔ (ThreeEdgeConnected (graph p) → ⊥)
  weak_some = (λ q. judged.weak_not_three most p q.0 q.1, λ h. elim some_passes [ inl q ↦ absurd (h (firm_some.0 q)) | inr q ↦ q ])

  -- our writer always writes one that passes
  module _ {before after : List ℕ} {found : Found} (room : 3 * kept_edges p ≤ length before) (c : Answered most p before after found) where
    pub record_passes : found ≡ Ok Firm → Passes 0 (take (3 * kept_edges p) after)
    record_passes q = c.kept.passes (found_firm a room c q)

    pub tabs_pass : {cut : code.Lowest} {fallen : Fallen} → found ≡ Ok (Weak cut fallen) → Passes 1 (named cut)
    tabs_pass {cut} q = (weak_list_lem (named cut)).1 (ours_weak room c q).cut

-- 02, note 4. Which pieces would fall.

module _ {most : Limits} {p : Plan} (a : Admitted most p) where
  bounded : (graph p).bound ≤ most.vertices
  bounded = omega (arith, bound_is p, a.vertices)

  -- the search marks exactly the kept pieces that the lowest kept piece, u, does not reach over the tabs left
  pub marks_are : {u : ℕ} → Lowest (graph p) u → (cut : List ℕ) (v : ℕ) → Marked (fallen most (graph p) cut) v ↔ (Vertex (graph p) v × (Reach (graph p) (Without cut) u v → ⊥))
  marks_are low cut v = fallen_not most (graph p) bounded cut low v

  -- and how many are set is how many of them there are
  pub marks_count : (cut : List ℕ) → marked (fallen most (graph p) cut) ≡ length (cut_off (graph p) cut)
  marks_count cut = fallen-count most (graph p) bounded cut

  -- a weak list of the plan's tabs, two at most and ascending, passes exactly where some mark is set
  pub weak_marks : (list : List ℕ) → EdgeSet (graph p) list → length list ≤ 2 → (judge most p 1 list ≡ passed) ↔ ((v : ℕ) × Marked (fallen most (graph p) list) v)
  weak_marks list set small =
      let some = fallen_some most (graph p) bounded list in
      (λ q. some.0 ((weak_list_lem a list).0 q).parts, λ m. (weak_list_lem a list).1 (record { set = set; small = small; parts = some.1 m }))

-- our writer's answer, for every plan and whatever is lent
module _ {most : Limits} {p : Plan} {before after : List ℕ} {found : Found} (c : Answered most p before after found) where
  module _ {cut : code.Lowest} {fall : Fallen} (q : found ≡ Ok (Weak cut fall)) where
    -- a weak one carries the marks that are found without its named tabs, and how many are set: one at least
    pub ours_fall : fall ≡ fallen_by most p (named cut)
    ours_fall = found_falls c q

    -- so a mark is set exactly for each kept piece that the lowest one, u, does not reach without the named tabs
    pub ours_marks : {u : ℕ} → Lowest (graph p) u → (v : ℕ) → Marked fall.words v ↔ (Vertex (graph p) v × (Reach (graph p) (Without (named cut)) u v → ⊥))
    ours_marks low v = rw ours_fall (marks_are (weak_served most p (length before) (weak_outcome c q).1).0 low (named cut) v)

    pub ours_some : (fall.count ≡ marked fall.words) × (1 ≤ fall.count)
    ours_some =
        let v = (weak_outcome c q).1 in
        rw ours_fall (sym (marks_count (weak_served most p (length before) v).0 (named cut)), weak_falls most p (length before) (named cut) v)

  -- a firm or refused one marks none
  pub ours_none : ((cut : code.Lowest) (fall : Fallen) → found ≡ Ok (Weak cut fall) → ⊥) → fallen_in most found ≡ unmarked most
  ours_none h = found_none c h
