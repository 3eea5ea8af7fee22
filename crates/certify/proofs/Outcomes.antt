-- Which verdict is found firm or weak, and which edges a weak one names.
use Rattle.std.specs.Prelude.{Err, Ok}
use mathlib.Core.Path.{◌≡◌, refl, sym, ap, ◌∙◌}
use mathlib.Core.List.{List, [], ◌∷◌}
use mathlib.Core.Option.{Option, none, some}
use Prim.Native.Nat.{ℕ, ◌*◌, ◌≤◌}
use native.Mathlib.Omega.{arith}
use lib.ListN.{length, get_or, take}
use Rattle.connectivity.specs.Plan.{Plan, graph, Limits}
use Rattle.connectivity.specs.Graph.{Graph}
use Rattle.connectivity.specs.Cut.{lowest_cut, cut_off}
use Rattle.connectivity.specs.Admission.{Handed, served, refusal, kept_edges, Admitted}
use Rattle.connectivity.specs.Verdict as meaning
use Rattle.connectivity.specs.Fallen.{fall_with}
use Rattle.connectivity.proofs.Lists.{not_empty}
use Rattle.connectivity.proofs.Disconnects.{disconnects_is}
use Rattle.connectivity.proofs.CutOff.{cut_off_some}
use Rattle.connectivity.proofs.Fallen.{marks_none}
use Rattle.connectivity.proofs.Verdict.{reaches, verdict_weak, weak_served}
use Rattle.graph.specs.Admission.{answer_of}
use Rattle.graph.specs.declared.Answer.{Answer}
use Rattle.graph.proofs.Lent.{not_served}
use Rattle.cuts.specs.declared.lowest.Lowest.{Lowest}
use Rattle.removal.specs.declared.Fallen.{Fallen}
use Rattle.removal.specs.Fallen.{fallen_of, fallen_by, none as unmarked}
use Rattle.certify.specs.declared.Finding.TheVariants.{Firm, Weak}
use Rattle.certify.specs.Answered.{Found, Answered, handed, fallen_in, named}

-- Firm is handed back of a firm verdict alone.

size : Handed → ℕ
size h = length h.values

pub firm_only : (v : meaning.Verdict) → served (0 ∷ []) ≡ meaning.verdict_handed v → v ≡ meaning.firm
unfolding meaning.verdict_handed size
firm_only (meaning.refused a) p = absurd (not_served (sym p))
firm_only meaning.firm p = refl
firm_only (meaning.weak []) p = absurd (omega (arith, ap size p))
firm_only (meaning.weak (e ∷ [])) p = absurd (omega (arith, ap size p))
firm_only (meaning.weak (e ∷ (d ∷ l))) p = absurd (omega (arith, ap size p))

firm_back : (r : Found) → handed r ≡ served (0 ∷ []) → r ≡ Ok Firm
unfolding size
firm_back (Err a) p = absurd (not_served p)
firm_back (Ok (Weak cut fallen)) p = absurd (omega (arith, ap size p))
firm_back (Ok Firm) p = refl

-- where nothing falls, no mark is set
pub blank_falls : (most : Limits) (list : List ℕ) → list ≡ [] → fallen_of most list ≡ unmarked most
blank_falls most list q = rw q (ap (λ (w : List ℕ). record { words = w; count = 0 }) (marks_none most))

-- A weak answer names at most two edges, and just those of the cut.

at : ℕ → Handed → ℕ
at i h = get_or h.values i 0

module _ (c : Lowest) where
  abbrev weak_back : Handed
  weak_back = served (1 ∷ (c.count ∷ (c.first ∷ (c.second ∷ []))))

  weak_named : (n e d : ℕ) → n ≤ 2 → weak_back ≡ served (1 ∷ (n ∷ (e ∷ (d ∷ [])))) → (c.count ≤ 2) × (named c ≡ take n (e ∷ (d ∷ [])))
  unfolding at
  weak_named n e d h p = (omega (arith, h, ap (at 1) p), rw (ap (at 1) p, ap (at 2) p, ap (at 3) p))

  weak_only : (v : meaning.Verdict) → ((cut : List ℕ) → v ≡ meaning.weak cut → length cut ≤ 2) → weak_back ≡ meaning.verdict_handed v
      → (c.count ≤ 2) × (v ≡ meaning.weak (named c))
  unfolding meaning.verdict_handed size
  weak_only (meaning.refused a) small p = absurd (not_served (sym p))
  weak_only meaning.firm small p = absurd (omega (arith, ap size p))
  weak_only (meaning.weak []) small p = let (few, q) = weak_named 0 0 0 (omega arith) p in (few, ap meaning.weak (sym q))
  weak_only (meaning.weak (e ∷ [])) small p = let (few, q) = weak_named 1 e 0 (omega arith) p in (few, ap meaning.weak (sym q))
  weak_only (meaning.weak (e ∷ (d ∷ []))) small p = let (few, q) = weak_named 2 e d (omega arith) p in (few, ap meaning.weak (sym q))
  weak_only (meaning.weak (e ∷ (d ∷ (b ∷ l)))) small p = absurd (omega (arith, small (e ∷ (d ∷ (b ∷ l))) refl))

-- a weak answer is one about an admitted plan, where there is enough space
pub weak_told : (most : Limits) (p : Plan) (space : ℕ) (c : Lowest) → served (1 ∷ (c.count ∷ (c.first ∷ (c.second ∷ [])))) ≡ meaning.verdict_handed (meaning.verdict most p space)
    → (c.count ≤ 2) × (meaning.verdict most p space ≡ meaning.weak (named c))
weak_told most p space c = weak_only c (meaning.verdict most p space)
    (λ cut v. let (a, room) = weak_served most p space v in ((verdict_weak a space room cut).0 v).cut.small)

-- with a weak one some piece falls
pub weak_falls : (most : Limits) (p : Plan) (space : ℕ) (cut : List ℕ) → meaning.verdict most p space ≡ meaning.weak cut → 1 ≤ length (cut_off (graph p) cut)
weak_falls most p space cut v =
    let (a, room) = weak_served most p space v in
    let parts = ((verdict_weak a space room cut).0 v).cut.parts in
    not_empty (cut_off (graph p) cut) ((cut_off_some (graph p) cut).holds ((disconnects_is (graph p) cut).1 parts))

-- A refusal is handed back of no verdict by a cut; so nothing falls.

pub refused_none : {x : Answer} (g : Graph) (v : meaning.Verdict) → refusal (answer_of x) ≡ meaning.verdict_handed v → fall_with g v ≡ []
unfolding meaning.verdict_handed fall_with
refused_none g (meaning.refused a) p = refl
refused_none g meaning.firm p = absurd (not_served p)
refused_none g (meaning.weak []) p = absurd (not_served p)
refused_none g (meaning.weak (e ∷ [])) p = absurd (not_served p)
refused_none g (meaning.weak (e ∷ (d ∷ l))) p = absurd (not_served p)

unrefused : {x : Answer} (o : Option (List ℕ)) → refusal (answer_of x) ≡ meaning.verdict_handed (meaning.verdict_on o) → ⊥
unfolding meaning.verdict_on meaning.verdict_handed
unrefused none p = not_served p
unrefused (some []) p = not_served p
unrefused (some (e ∷ [])) p = not_served p
unrefused (some (e ∷ (d ∷ l))) p = not_served p

-- of every plan, whatever is lent
pub firm_told : {most : Limits} {p : Plan} {before after : List ℕ} {r : Found} → Answered most p before after r
    → meaning.verdict most p (length before) ≡ meaning.firm → r ≡ Ok Firm
unfolding meaning.verdict_handed
firm_told {r = r} c v = firm_back r (c.answer ∙ ap meaning.verdict_handed v)

-- of an admitted plan, where the lent record has three numbers for each edge that is kept
module _ {most : Limits} {p : Plan} {before after : List ℕ} {r : Found} (a : Admitted most p) (room : 3 * kept_edges p ≤ length before)
    (c : Answered most p before after r) where
  abbrev found : meaning.Verdict
  found = meaning.verdict most p (length before)

  pub never_refused : {x : Answer} → r ≡ Err x → ⊥
  never_refused q = unrefused (lowest_cut (graph p))
      ((rw q at c.answer) ∙ ap meaning.verdict_handed (reaches a (length before) room))

  pub found_firm : r ≡ Ok Firm → found ≡ meaning.firm
  found_firm q = firm_only found (rw q at c.answer)

-- Space for a record is enough, and more changes nothing.
pub same-verdict : {most : Limits} {p : Plan} (a : Admitted most p) (space : ℕ) → 3 * kept_edges p ≤ space → meaning.verdict most p space ≡ meaning.verdict most p (3 * kept_edges p)
same-verdict {p = p} a space room = reaches a space room ∙ sym (reaches a (3 * kept_edges p) (omega arith))

-- What falls with an answer, whatever is lent.
module _ {most : Limits} {p : Plan} {before after : List ℕ} {r : Found} (c : Answered most p before after r) where
  module _ {cut : Lowest} {fallen : Fallen} (q : r ≡ Ok (Weak cut fallen)) where
    pub weak_outcome : (cut.count ≤ 2) × (meaning.verdict most p (length before) ≡ meaning.weak (named cut))
    weak_outcome = weak_told most p (length before) cut (rw q at c.answer)

    pub found_falls : fallen ≡ fallen_by most p (named cut)
    unfolding fall_with
    found_falls = (rw q at c.fallen) ∙ ap (λ (v : meaning.Verdict). fallen_of most (fall_with (graph p) v)) weak_outcome.1

  pub found_none : ((cut : Lowest) (fallen : Fallen) → r ≡ Ok (Weak cut fallen) → ⊥) → fallen_in most r ≡ unmarked most
  found_none h = go r refl
    where
      go : (x : Found) → r ≡ x → fallen_in most r ≡ unmarked most
      go (Err x) q = rw q refl
      go (Ok Firm) q = rw q refl
      go (Ok (Weak cut fallen)) q = absurd (h cut fallen q)
