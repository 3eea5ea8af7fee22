-- What is handed back tells the code's answer: two that hand back the same are the same, and that of a verdict is told by it.
use Rattle.std.specs.Prelude.{Err, Ok, None, Some}
use mathlib.Core.Path.{◌≡◌, refl, sym, ap, ◌∙◌}
use mathlib.Core.List.{[], ◌∷◌}
use native.Mathlib.Omega.{arith}
use lib.ListN.{get_or}
use Rattle.connectivity.specs.Admission.{Handed}
use Rattle.connectivity.specs.Verdict.{Verdict, refused, weak, firm, verdict_handed}
use Rattle.graph.specs.Admission.{told_by}
use Rattle.graph.proofs.Lent.{not_served, told_by_lem}
use Rattle.cuts.specs.declared.lowest.Lowest.{Lowest}
use Rattle.cuts.specs.Verdict.{Lightest}
use Rattle.cuts.specs.Verdict.{handed}

none_cut : {c : Lowest} → handed (Ok None) ≡ handed (Ok (Some c)) → ⊥
none_cut p = let z = ap (λ (h : Handed). get_or h.values 0 0) p in omega (arith, z)

abbrev cut_in : Handed → Lowest
cut_in h = record { count = get_or h.values 1 0; first = get_or h.values 2 0; second = get_or h.values 3 0 }

pub handed-same : (r s : Lightest) → handed r ≡ handed s → r ≡ s
handed-same (Err a) (Err b) p = ap Err (told_by_lem p)
handed-same (Err a) (Ok None) p = absurd (not_served p)
handed-same (Err a) (Ok (Some c)) p = absurd (not_served p)
handed-same (Ok None) (Err b) p = absurd (not_served (sym p))
handed-same (Ok None) (Ok None) p = refl
handed-same (Ok None) (Ok (Some c)) p = absurd (none_cut p)
handed-same (Ok (Some c)) (Err b) p = absurd (not_served (sym p))
handed-same (Ok (Some c)) (Ok None) p = absurd (none_cut (sym p))
handed-same (Ok (Some c)) (Ok (Some d)) p = ap (λ (h : Handed). Ok (Some (cut_in h))) p

-- the verdict by its cut: a weak plan's lowest one; a firm plan has none
abbrev pub told_of : Verdict → Lightest
told_of (refused a) = Err (told_by a)
told_of (weak []) = Ok (Some (record { count = 0; first = 0; second = 0 }))
told_of (weak (e ∷ [])) = Ok (Some (record { count = 1; first = e; second = 0 }))
told_of (weak (e ∷ (d ∷ l))) = Ok (Some (record { count = 2; first = e; second = d }))
told_of firm = (Ok None)

pub handed-told : (v : Verdict) → handed (told_of v) ≡ verdict_handed v
unfolding verdict_handed
handed-told (refused a) = refl
handed-told (weak []) = refl
handed-told (weak (e ∷ [])) = refl
handed-told (weak (e ∷ (d ∷ l))) = refl
handed-told firm = refl

pub told_back : (r : Lightest) (v : Verdict) → handed r ≡ verdict_handed v → r ≡ told_of v
told_back r v p = handed-same r (told_of v) (p ∙ sym (handed-told v))
