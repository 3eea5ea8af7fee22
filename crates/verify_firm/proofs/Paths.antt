-- 13 at the end of steps 0, 1 and 2: what the marks tell is that the steps so far are paths between the same two vertices.
use mathlib.Core.Path.{◌≡◌, refl, sym, ap, subst, ◌∙◌}
use mathlib.Core.Logic.{◌⊎◌, inl, inr, ⊎_swap}
use mathlib.Core.List.Memᴰ
use mathlib.Core.List.Memᴰ.{head as first}
use mathlib.Core.List.Memᴰ.{not-nil as not_in}
use mathlib.Core.List.{List, [], ◌∷◌, append-nil, Memᴰ as In}
use Prim.Native.Nat.{ℕ, suc, ◌≤◌, ◌<◌}
use native.Mathlib.Omega.{arith}
use lib.ListN.{length, get_or}
use Rattle.connectivity.specs.Lists.{Distinct}
use Rattle.connectivity.specs.Plan.{Limits}
use Rattle.connectivity.specs.Graph.{Graph}
use Rattle.connectivity.specs.Walk.{Leg, Walk, Between, inner, all_inner, all_edges}
use Rattle.connectivity.specs.Judge.{paths_fit}
use Rattle.connectivity.proofs.Lists.{Decides, decides_to}
use Rattle.connectivity.proofs.Distinct.{swap_distinct}
use Rattle.connectivity.proofs.Degree.{from_first, froms_cases}
use Rattle.connectivity.proofs.Stage.{AllBetween}
use Rattle.connectivity.proofs.Legs.{walk_start, walk_stop}
use Rattle.connectivity.proofs.Fit.{Sound, walk_sound, paths_fit_lem}
use Rattle.connectivity.proofs.Fresh.{Fresh, path_fresh, paths_fresh}
use Rattle.connectivity.proofs.Stretch.{place_vertex}
use Rattle.verify_firm.specs.declared.state.Run.{Run}
use Rattle.verify_firm.specs.Marks.{Laid, nothing, Holds, Opens, Parallels}
use Rattle.verify_firm.proofs.Rows.{row_place, inner-row}
use Rattle.verify_firm.proofs.Going.{told, tells}

-- a walk has two ends
between_ends : {g : Graph} {a b c d : ℕ} {legs : List Leg} → Between g a legs b → Between g c legs d → ((c ≡ a) × (d ≡ b)) ⊎ ((c ≡ b) × (d ≡ a))
between_ends (inl p) (inl q) = inl (sym (walk_start q) ∙ walk_start p, sym (walk_stop q) ∙ walk_stop p)
between_ends (inl p) (inr q) = inr (sym (walk_stop q) ∙ walk_stop p, sym (walk_start q) ∙ walk_start p)
between_ends (inr p) (inl q) = inr (sym (walk_start q) ∙ walk_start p, sym (walk_stop q) ∙ walk_stop p)
between_ends (inr p) (inr q) = inl (sym (walk_stop q) ∙ walk_stop p, sym (walk_start q) ∙ walk_start p)

member : (l : List (List Leg)) → 1 ≤ length l → (legs : List Leg) × In legs l
member [] h = absurd (omega arith)
member (k ∷ l) h = (k, first refl)

module _ {most : Limits} {g : Graph} {list : List ℕ} {done : List (List Leg)} {walk : List Leg} {row : ℕ} {degrees left : List ℕ} {steps : ℕ} {run : Run} {low high : ℕ}
    (h : Holds most g list done walk row degrees left steps run low high) (b : run.first < row) where
  abbrev Paths : Type 0
  Paths = AllBetween g run.start done run.at × Distinct (run.start ∷ (run.at ∷ all_inner (walk ∷ done)))

  some : {legs : List Leg} (l : List (List Leg)) → In legs l → 1 ≤ length l
  some [] i = absurd (not_in i)
  some (k ∷ l) i = omega arith

  sound : length done < 3 → Sound g done
  sound few legs i = elim (h.stands.between (some done i) (omega (arith, few)) legs i) [ inl k ↦ walk_sound k | inr k ↦ walk_sound k ]

  -- what 13 tests
  pub paths_are : length done < 3 → Decides (paths_fit g done walk) Paths
  paths_are few = paths_fit_lem g run.start run.at done walk (h.walks b) (sound few)

  -- step 0
  pub opens_are : done ≡ [] → Decides (paths_fit g done walk) (Opens run (get_or left run.at 0))
  opens_are nil = decides_to (paths_are (rw nil (omega arith))) back there
    where
      walked : Walk g run.start walk run.at
      walked = h.walks b

      same : inner walk ≡ all_inner (walk ∷ done)
      same = rw (nil, append-nil (inner walk))

      fresh : Fresh g (all_edges done) walk → Fresh g [] walk
      fresh f = rw nil at f

      start-row : run.first ≡ 0
      start-row = zero_row (subst (λ (d : List (List Leg)). Laid list d run.first) nil h.laid)
        where
          zero_row : {n : ℕ} → Laid list [] n → n ≡ 0
          zero_row nothing = refl

      there : Opens run (get_or left run.at 0) → Paths
      there (f, z, d) = (
        (λ legs i. absurd (not_in (subst (In legs) nil i))),
        subst (λ (l : List ℕ). Distinct (run.start ∷ (run.at ∷ l))) same
            ((path_fresh walked).1 (
              fresh (tells run.fresh h.fresh f),
              λ i. elim (froms_cases walked i) [
                | inl p ↦ d p
                | inr j ↦ let r = inner-row h.lies j in
                    omega (arith, z, (h.lefts f).mark r.before r.below r.on, ap (λ (x : ℕ). get_or left x 0) r.is)
              ],
            )),
      )

      back : Paths → Opens run (get_or left run.at 0)
      back (p, d) =
          let q = (path_fresh walked).0 (subst (λ (l : List ℕ). Distinct (run.start ∷ (run.at ∷ l))) (sym same) d) in
          let f = told run.fresh h.fresh (rw nil q.0) in (
            f,
            elim ((h.lefts f).found run.at) [
              | inl z ↦ z
              | inr l ↦ let r = row_place (suc l.before) h.lies (omega (arith, start-row)) l.taken in
                  absurd (q.1 (Memᴰ.cast (sym l.from) (place_vertex r.here)))
            ],
            λ e. q.1 (Memᴰ.cast e (from_first walked)),
          )

  -- steps 1 and 2
  pub parallels_are : 1 ≤ length done → length done < 3 → Decides (paths_fit g done walk) (Parallels run low high)
  parallels_are one few = decides_to (paths_are few) back there
    where
      before : AllBetween g low done high
      before = h.stands.between one (omega (arith, few))

      whole : Distinct (low ∷ (high ∷ all_inner done))
      whole = h.stands.simple one (omega (arith, few))

      straight : (run.start ≡ low) × (run.at ≡ high) → Between g low walk high
      straight p = inl (rw (← p.0, ← p.1) (h.walks b))

      turned : (run.start ≡ high) × (run.at ≡ low) → Between g low walk high
      turned p = inr (rw (← p.0, ← p.1) (h.walks b))

      there : Parallels run low high → Paths
      there (f, inl p) = rw (p.0, p.1) (before, (paths_fresh done one before (straight p) whole).1 (tells run.fresh h.fresh f))
      there (f, inr p) = rw (p.0, p.1) (
        (λ legs i. ⊎_swap (before legs i)),
        swap_distinct ((paths_fresh done one before (turned p) whole).1 (tells run.fresh h.fresh f)),
      )

      ends : AllBetween g run.start done run.at → ((run.start ≡ low) × (run.at ≡ high)) ⊎ ((run.start ≡ high) × (run.at ≡ low))
      ends p = let (legs, i) = member done one in between_ends (before legs i) (p legs i)

      fresh : Distinct (run.start ∷ (run.at ∷ all_inner (walk ∷ done))) → ((run.start ≡ low) × (run.at ≡ high)) ⊎ ((run.start ≡ high) × (run.at ≡ low))
          → Fresh g (all_edges done) walk
      fresh d (inl p) = (paths_fresh done one before (straight p) whole).0 (rw (p.0, p.1) at d)
      fresh d (inr p) = (paths_fresh done one before (turned p) whole).0 (swap_distinct (rw (p.0, p.1) at d))

      back : Paths → Parallels run low high
      back (p, d) = (told run.fresh h.fresh (fresh d (ends p)), ends p)
