-- The end of a step: the number that the marks give is the step's, and a step that passes leaves the marks of one step more.
use mathlib.Core.Path.{◌≡◌, refl, sym, subst, ◌∙◌}
use mathlib.Core.Logic.{inl, inr}
use mathlib.Core.Bool.{Bool, true, false, cond}
use mathlib.Core.List.Memᴰ.{cases_cons as in-cons}
use mathlib.Core.List.{List, [], ◌∷◌, Memᴰ as In}
use Prim.Native.Nat.{ℕ, ◌+◌, ◌≤◌, ◌<◌}
use native.Mathlib.Omega.{arith}
use native.Mathlib.Decide.{dec_lt}
use lib.Dec.{T}
use lib.ListN.{length}
use borrow.Author.Tests.{lt-ltb, le-ltb}
use Rattle.connectivity.specs.Lists.{Distinct}
use Rattle.connectivity.specs.Plan.{Plan, graph, Limits}
use Rattle.connectivity.specs.Graph.{Graph}
use Rattle.connectivity.specs.Walk.{Leg, Walk, Between, edges_of, all_inner, all_edges}
use Rattle.connectivity.specs.Mader.{Steps, theta, mader}
use Rattle.connectivity.specs.Judge.{paths_fit, ear_fits, links_fit, step_number}
use Rattle.connectivity.proofs.Lists.{Decides, T_true, T_false}
use Rattle.connectivity.proofs.Degree.{degree-append, walk_from, walk_to}
use Rattle.connectivity.proofs.Fit.{step_few, step_many, fitting_path, walk_sound}
use Rattle.verify_firm.specs.declared.state.Run.{Run}
use Rattle.graph.specs.Tells.{Tells}
use Rattle.verify_firm.specs.Marks.{Holds, Opens, Parallels, FitsEar, FitsLinks, Reads, Whole, RowsAdded}
use Rattle.verify_firm.specs.Marks as marks
use Rattle.verify_firm.proofs.Going.{fresh_none}
use Rattle.verify_firm.proofs.Paths.{paths_are, opens_are, parallels_are}
use Rattle.verify_firm.proofs.Ears.{ear_is, reads, links_are}

no_steps : (done : List (List Leg)) → length done ≡ 0 → done ≡ []
no_steps [] p = refl
no_steps (l ∷ done) p = absurd (omega (arith, p))

-- a test that tells what another decides
same_test : {P : Type 0} {t : Bool} (b : Bool) → Tells b P → Decides t P → b ≡ t
same_test {t = t} true p d = sym (T_true t (d.test p))
same_test {t = t} false n d = sym (T_false t (λ x. n (d.holds x)))

module _ (g : Graph) (done : List (List Leg)) (walk : List Leg) where
  few_number : length done < 3 → step_number g done walk ≡ cond (paths_fit g done walk) 0 13
  unfolding step_number
  few_number h = rw (lt-ltb (length done) 3 h)

  many_number : 3 ≤ length done → step_number g done walk ≡ cond (ear_fits g (all_edges done) walk) (cond (links_fit g (all_edges done) walk) 0 15) 14
  unfolding step_number
  many_number h = rw (le-ltb (length done) 3 h)

module _ {most : Limits} {degrees list : List ℕ} {steps : ℕ} {run : Run} {low high from to : ℕ} (w : Whole most degrees list steps run low high from to) where
  abbrev number : ℕ
  number = step_number w.g w.done w.walk

  few : steps < 3 → length w.done < 3
  few h = omega (arith, h, w.holds.steps_done)

  many : 3 ≤ steps → 3 ≤ length w.done
  many h = omega (arith, h, w.holds.steps_done)

  pub whole_below : (run.start < length degrees) × (run.at < length degrees)
  whole_below =
      let k = w.holds.walks w.begun in
      (omega (arith, w.bound, w.holds.marks_length, (walk_from k).below), omega (arith, w.bound, w.holds.marks_length, (walk_to k).below))

  -- step 0
  pub told_opens : steps ≡ 0 → (b : Bool) → Tells b (Opens run to) → cond b 0 13 ≡ number
  told_opens z b t = rw (
    few_number w.g w.done w.walk (few (omega (arith, z))),
    same_test b (subst (λ (m : ℕ). Tells b (Opens run m)) w.at_mark t) (opens_are w.holds w.begun (no_steps w.done (omega (arith, z, w.holds.steps_done)))),
  )

  -- steps 1 and 2
  pub told_parallels : (steps ≡ 0 → ⊥) → steps < 3 → (b : Bool) → Tells b (Parallels run low high) → cond b 0 13 ≡ number
  told_parallels n s b t = rw (
    few_number w.g w.done w.walk (few s),
    same_test b t (parallels_are w.holds w.begun (omega (arith, n, w.holds.steps_done)) (few s)),
  )

  -- later steps
  module _ (s : 3 ≤ steps) where
    ear_test : (b : Bool) → Tells b (FitsEar degrees run) → b ≡ ear_fits w.g (all_edges w.done) w.walk
    ear_test b t = same_test b t (ear_is w.holds w.bound w.begun (many s))

    pub told_ear : (FitsEar degrees run → ⊥) → 14 ≡ number
    told_ear n = rw (many_number w.g w.done w.walk (many s), ← ear_test false n)

    pub told_links : FitsEar degrees run → (b : Bool) → Tells b (FitsLinks degrees list run from to) → cond b 0 15 ≡ number
    told_links f b t = rw (
      many_number w.g w.done w.walk (many s),
      ← ear_test true f,
      same_test b (rw (w.start_mark, w.at_mark) at t) (links_are w.holds w.bound w.begun (many s) f),
    )

    pub told_reads : FitsEar degrees run → Reads most degrees list run from to
    told_reads f = rw (w.start_mark, w.at_mark) (reads w.holds w.bound w.begun (many s) f w.read w.within)

-- A step that passes.
module _ {most : Limits} (p : Plan) {list : List ℕ} {done : List (List Leg)} {walk : List Leg} {row : ℕ} {degrees left : List ℕ} {steps : ℕ} {run : Run} {low high : ℕ}
    (h : Holds most (graph p) list done walk row degrees left steps run low high) (bound : p.vertices ≤ most.vertices) (b : run.first < row) where
  abbrev g : Graph
  g = graph p

  below : g.bound ≤ most.vertices
  unfolding graph
  below = bound

  walked : Walk g run.start walk run.at
  walked = h.walks b

  pub ends_below : (run.start < most.vertices) × (run.at < most.vertices)
  ends_below = (omega (arith, below, (walk_from walked).below), omega (arith, below, (walk_to walked).below))

  module _ (z : step_number g done walk ≡ 0) where
    paths : (few : length done < 3) → T (paths_fit g done walk)
    paths few = (step_few g done walk few).0 z

    ears : (many : 3 ≤ length done) → T (ear_fits g (all_edges done) walk) × T (links_fit g (all_edges done) walk)
    ears many = (step_many g done walk many).0 z

    passes_fresh : run.fresh ≡ true
    passes_fresh = elim (dec_lt (length done) 3) [
      | yes few ↦ elim (dec_lt 0 (length done)) [
        | yes one ↦ ((parallels_are h b one few).holds (paths few)).0
        | no none ↦ ((opens_are h b (no_steps done (omega (arith, none)))).holds (paths few)).0
      ]
      | no many ↦ ((ear_is h below b (omega (arith, many))).holds (ears (omega (arith, many))).0).0
    ]

    between : length done < 3 → (legs : List Leg) → In legs (walk ∷ done) → Between g run.start legs run.at
    between few legs i = elim (in-cons i) [
      | inl p ↦ inl (subst (λ (l : List Leg). Walk g run.start l run.at) (sym p) walked)
      | inr j ↦ ((paths_are h b few).holds (paths few)).0 legs j
    ]

    simple : length done < 3 → Distinct (run.start ∷ (run.at ∷ all_inner (walk ∷ done)))
    simple few = ((paths_are h b few).holds (paths few)).1

    longer : 3 ≤ length (walk ∷ done) → Steps g (walk ∷ done)
    longer more = elim (dec_lt (length done) 3) [
      | yes few ↦ theta {walks = walk ∷ done} (record { three = omega (arith, more, few); between = between few; simple = simple few })
      | no many ↦ let t = ears (omega (arith, many)) in
          mader (h.stands.steps (omega (arith, many))) (fitting_path g (all_edges done) walk (walk_sound walked) t.0 t.1)
    ]

    pub finished : {after : List ℕ} → RowsAdded degrees after p.ends list run.first row
        → Holds most g list (walk ∷ done) [] row after left (steps + 1) (record { first = row; start = 0; at = 0; fresh = true }) run.start run.at
    finished a = record {
      marks_length = a.length-same ∙ h.marks_length;
      left_length = h.left_length;
      degrees = λ v l. a.more p.vertices p.excluded (length done) walk h.lies v ∙ omega (arith, h.degrees v l, degree-append g (edges_of walk) (all_edges done) v);
      few = a.few;
      steps_done = omega (arith, h.steps_done);
      laid = marks.more h.laid b h.lies;
      lies = marks.no_row;
      once = h.once;
      walks = λ c. absurd (omega (arith, c));
      fresh = fresh_none g (all_edges (walk ∷ done));
      lefts = λ p. h.lefts passes_fresh;
      stands = record { between = λ one few. between (omega (arith, few)); simple = λ one few. simple (omega (arith, few)); steps = longer };
      rows = h.rows;
    }
