-- A firm list passes exactly when it builds the graph by Mader's steps: one claim about the whole list, with no mark of the check's in it.
use mathlib.Core.Path.{◌≡◌, refl, sym, ap, ◌∙◌, subst}
use mathlib.Core.Logic.{inl, inr, ⊎_swap, ◌↔◌}
use mathlib.Core.List.Memᴰ.{append_cases as in-cases}
use mathlib.Core.List.Memᴰ.{cases_cons as in-cons}
use mathlib.Core.List.Memᴰ.{eq_of_singleton}
use mathlib.Core.List.Memᴰ.{head as first}
use mathlib.Core.List.Memᴰ.{not-nil as not_in}
use mathlib.Core.List.Memᴰ.{tail as later}
use mathlib.Core.List.{List, [], ◌∷◌, ◌++◌, Memᴰ as In, append_assoc, append-nil, reverse_aux, reverse, reverse-reverse}
use Prim.Native.Nat.{ℕ, zero, suc, ◌*◌, ◌≤◌, ◌<◌}
use native.Mathlib.Omega.{arith}
use native.Mathlib.Decide.{dec_lt}
use lib.Dec.{eqb, eqb→eq}
use lib.ListN.{length, length-append}
use borrow.Author.Tests.{eq-eqb}
use Rattle.connectivity.specs.Lists.{Distinct, no_member, one}
use Rattle.connectivity.specs.Graph.{Graph, Vertex, Edge, edges}
use Rattle.connectivity.specs.Walk.{Leg, Walk, last, then, Between, inner, edges_of, all_inner, all_edges, Branch}
use Rattle.connectivity.specs.Mader.{Steps, theta, mader, step_rows, rows, Builds}
use Rattle.connectivity.specs.Admission.{passed}
use Rattle.connectivity.specs.Judge.{Row, rows_of, step_number, closing_number, judge_rows, judge_firm}
use Rattle.connectivity.proofs.Lists.{in_dec}
use Rattle.connectivity.proofs.Search.{edges_are}
use Rattle.connectivity.proofs.Admission.{passed_when}
use Rattle.connectivity.proofs.Order.{ordered_edges}
use Rattle.connectivity.proofs.Distinct.{right_distinct, swap_distinct, skip_distinct, ordered_distinct}
use Rattle.connectivity.proofs.Degree.{part_length}
use Rattle.connectivity.proofs.Sound.{stage}
use Rattle.connectivity.proofs.Legs.{walk_start, walk_stop, legs_edges}
use Rattle.connectivity.proofs.Run.{Runs, end, step, rows_at, rows_from, rows_pass}
use Rattle.connectivity.proofs.Fit.{fitting_path, path_fitting, Sound, walk_sound, paths_fit_lem, step_few, step_many, closing}

-- From walks that run to Mader's steps.

pub steps_length : {g : Graph} {walks : List (List Leg)} → Steps g walks → 3 ≤ length walks
steps_length (theta t) = omega (arith, t.three)
steps_length (mader p k) = omega (arith, steps_length p)

-- the rules kept so far: fewer than three walks, or Mader's steps
data Kept (g : Graph) (done : List (List Leg)) : Type 0 where
  few : length done < 3 → Sound g done → Kept g done
  many : Steps g done → Kept g done

kept_step : {g : Graph} {done : List (List Leg)} {a b : ℕ} {legs : List Leg} → Kept g done → Walk g a legs b → step_number g done legs ≡ 0 → Kept g (legs ∷ done)
kept_step {g} {done} {a} {b} {legs} (few h s) k p = elim (dec_lt (length done) 2) [
  | yes l ↦ few (omega arith) (λ m i. elim (in-cons i) [ inl e ↦ rw e (walk_sound k) | inr j ↦ s m j ])
  | no n ↦ let q = (paths_fit_lem g a b done legs k s).holds ((step_few g done legs h).0 p) in
      many (theta {a = a} {b = b} {walks = legs ∷ done} (record { three = omega arith; between = λ m i. elim (in-cons i) [ inl e ↦ inl (rw e k) | inr j ↦ q.0 m j ]; simple = q.1 }))
]
kept_step {g} {done} {a} {b} {legs} (many s) k p = let q = (step_many g done legs (steps_length s)).0 p in
    many (mader s (fitting_path g (all_edges done) legs (walk_sound k) q.0 q.1))

-- what holds of the walks once all have run
record Ran (g : Graph) (walks : List (List Leg)) : Type 0 where
  kept : Kept g walks
  once : Distinct (all_edges walks)
  closes : closing_number g walks ≡ 0

ran : {g : Graph} {done walks : List (List Leg)} → Runs g done walks → Kept g done → Distinct (all_edges done) → Ran g (reverse_aux walks done)
ran (end c) k d = record { kept = k; once = d; closes = c }
ran (step w e p r) k d = ran r (kept_step k w p) e

-- And back.

-- each walk passes after those before it
data Fine (g : Graph) : List (List Leg) → Type 0 where
  nothing : Fine g []
  more : {done : List (List Leg)} {a b : ℕ} {legs : List Leg} → Walk g a legs b → Distinct (edges_of legs ++ all_edges done)
      → step_number g done legs ≡ 0 → Fine g done → Fine g (legs ∷ done)

unwind : {g : Graph} {done walks : List (List Leg)} → Fine g done → Runs g done walks → Runs g [] (reverse_aux done walks)
unwind nothing r = r
unwind (more w d p f) r = unwind f (step w d p r)

-- the first three, and any number of them from the first on
paths_fine : {g : Graph} (a b : ℕ) (walks : List (List Leg)) → length walks ≤ 3 → ((legs : List Leg) → In legs walks → Between g a legs b)
    → Distinct (a ∷ b ∷ all_inner walks) → Distinct (all_edges walks) → Fine g walks
paths_fine a b [] h f s d = nothing
paths_fine {g} a b (legs ∷ walks) h f s d =
    let others : (m : List Leg) → In m walks → Between g a m b = λ m i. f m (later i) in
    let rest = paths_fine a b walks (omega arith) others (skip_distinct (inner legs) s) (right_distinct (edges_of legs) d) in
    let sound : Sound g walks = λ m i. elim (f m (later i)) [ inl k ↦ walk_sound k | inr k ↦ walk_sound k ] in
    elim (f legs (first refl)) [
      | inl k ↦ more k d ((step_few g walks legs (omega arith)).1 ((paths_fit_lem g a b walks legs k sound).test (others, s))) rest
      | inr k ↦ more k d ((step_few g walks legs (omega arith)).1 ((paths_fit_lem g b a walks legs k sound).test ((λ m i. ⊎_swap (others m i)), swap_distinct s))) rest
    ]

steps_fine : {g : Graph} {walks : List (List Leg)} → Steps g walks → Distinct (all_edges walks) → Fine g walks
steps_fine (theta {a = a} {b = b} {walks = walks} t) d = paths_fine a b walks (omega (arith, t.three)) t.between t.simple d
steps_fine {g} (mader {walks = walks} {legs = legs} p k) d =
    let e = right_distinct (edges_of legs) d in
    more k.walk d ((step_many g walks legs (steps_length p)).1
    (path_fitting g (all_edges walks) legs (stage p e) (rw (walk_start k.walk, walk_stop k.walk) k)))
    (steps_fine p e)

-- Rows.

flat : List Row → List ℕ
flat [] = []
flat (r ∷ rest) = r.step ∷ (r.edge ∷ (r.from ∷ flat rest))

flat_rows : (k : ℕ) (list : List ℕ) → length list ≡ 3 * k → flat (rows_of list) ≡ list
unfolding flat rows_of
flat_rows k [] h = refl
flat_rows k (s ∷ []) h = absurd (omega arith)
flat_rows k (s ∷ (e ∷ [])) h = absurd (omega arith)
flat_rows zero (s ∷ (e ∷ (v ∷ list))) h = absurd (omega arith)
flat_rows (suc k) (s ∷ (e ∷ (v ∷ list))) h = ap (λ (l : List ℕ). s ∷ (e ∷ (v ∷ l))) (flat_rows k list (omega arith))

rows_flat : (rest : List Row) → rows_of (flat rest) ≡ rest
unfolding flat rows_of
rows_flat [] = refl
rows_flat (r ∷ rest) = ap (λ (l : List Row). r ∷ l) (rows_flat rest)

flat_step : (s : ℕ) (legs : List Leg) (rest : List Row) → flat (rows_at s legs ++ rest) ≡ step_rows s legs ++ flat rest
unfolding flat
flat_step s [] rest = refl
flat_step s (l ∷ legs) rest = ap (λ (m : List ℕ). s ∷ (l.edge ∷ (l.from ∷ m))) (flat_step s legs rest)

-- the rows of the steps before, then those of the steps to come
flat_steps : (done walks : List (List Leg)) → rows done ++ flat (rows_from (length done) walks) ≡ rows (reverse_aux walks done)
unfolding flat
flat_steps done [] = append-nil (rows done)
flat_steps done (legs ∷ walks) =
    ap (λ (m : List ℕ). rows done ++ m) (flat_step (length done) legs (rows_from (suc (length done)) walks))
    ∙ sym (append_assoc (rows done) (step_rows (length done) legs) (flat (rows_from (suc (length done)) walks)))
    ∙ flat_steps (legs ∷ done) walks

-- three numbers for each edge
pub step_length : (s : ℕ) (legs : List Leg) → length (step_rows s legs) ≡ 3 * length legs
step_length s [] = refl
step_length s (l ∷ legs) = omega (arith, step_length s legs)

pub rows-length : (walks : List (List Leg)) → length (rows walks) ≡ 3 * length (all_edges walks)
rows-length [] = refl
rows-length (legs ∷ walks) = omega (
  arith,
  length-append (rows walks) (step_rows (length walks) legs),
  length-append (edges_of legs) (all_edges walks),
  step_length (length walks) legs,
  legs_edges legs,
  rows-length walks,
)

-- Which edges.

pub walk_edges : {g : Graph} {e u w : ℕ} {legs : List Leg} → Walk g u legs w → In e (edges_of legs) → Edge g e
walk_edges {g} (last d j) i = subst (Edge g) (sym (eq_of_singleton i)) j.edge
walk_edges {g} (then d j k) (first p) = subst (Edge g) (sym p) j.edge
walk_edges (then d j k) (later i) = walk_edges k i

between_edges : {g : Graph} {e a b : ℕ} (walks : List (List Leg)) → ((legs : List Leg) → In legs walks → Between g a legs b) → In e (all_edges walks) → Edge g e
between_edges [] f i = absurd (not_in i)
between_edges (legs ∷ walks) f i = elim (in-cases (edges_of legs) i) [
  | inl j ↦ elim (f legs (first refl)) [ inl k ↦ walk_edges k j | inr k ↦ walk_edges k j ]
  | inr j ↦ between_edges walks (λ m n. f m (later n)) j
]

pub steps_edges : {g : Graph} {e : ℕ} {walks : List (List Leg)} → Steps g walks → In e (all_edges walks) → Edge g e
steps_edges (theta {walks = walks} t) i = between_edges walks t.between i
steps_edges (mader {legs = legs} p k) i = elim (in-cases (edges_of legs) i) [ inl j ↦ walk_edges k.walk j | inr j ↦ steps_edges p j ]

-- as many different edges as the graph has are all of them
pub all_edges_lem : {g : Graph} {walks : List (List Leg)} → Steps g walks → Distinct (all_edges walks) → length (all_edges walks) ≡ length (edges g)
    → (e : ℕ) → Edge g e → In e (all_edges walks)
all_edges_lem {g} {walks} s d h e p = elim (in_dec e (all_edges walks)) [
  | yes i ↦ i
  | no n ↦ let more = part_length g (e ∷ all_edges walks) (edges g) (one n d)
      (λ c i. (edges_are g c).1 (elim (in-cons i) [ inl q ↦ subst (Edge g) (sym q) p | inr j ↦ steps_edges s j ])) in absurd (omega arith)
]

pub edges-count : {g : Graph} {walks : List (List Leg)} → Steps g walks → Distinct (all_edges walks) → ((e : ℕ) → Edge g e → In e (all_edges walks))
    → length (all_edges walks) ≡ length (edges g)
edges-count {g} {walks} s d f =
    let at_most = part_length g (all_edges walks) (edges g) d (λ e i. (edges_are g e).1 (steps_edges s i)) in
    let at_least_lem = part_length g (edges g) (all_edges walks) (ordered_distinct (ordered_edges g)) (λ e i. f e ((edges_are g e).0 i)) in
    omega arith

-- The theorem.

module _ (g : Graph) (list : List ℕ) where
  -- walks that run, and whose rows the list has
  built : (walks : List (List Leg)) → Runs g [] walks → length list ≡ 3 * length (edges g) → rows_of list ≡ rows_from 0 walks → Builds g list
  unfolding flat
  built walks runs h same = record {
    walks = reverse walks;
    numbers = numbers;
    steps = steps;
    every = all_edges_lem steps r.once (omega (arith, ap length numbers, rows-length (reverse walks)));
    once = r.once;
    branches = c.1;
  }
    where
      numbers : list ≡ rows (reverse walks)
      numbers = sym (flat_rows (length (edges g)) list h) ∙ ap flat same ∙ flat_steps [] walks

      r : Ran g (reverse walks)
      r = ran runs (few (omega arith) (λ m i. absurd (not_in i))) no_member

      c : (3 ≤ length (reverse walks)) × ((v : ℕ) → Vertex g v → Branch g (all_edges (reverse walks)) v)
      c = (closing g (reverse walks)).0 r.closes

      many_steps : Kept g (reverse walks) → Steps g (reverse walks)
      many_steps (few h s) = absurd (omega (arith, c.0))
      many_steps (many s) = s

      steps : Steps g (reverse walks)
      steps = many_steps r.kept

  pub firm_builds : judge_firm g list ≡ passed → Builds g list
  unfolding judge_firm
  firm_builds h =
      let p = (passed_when (eqb (length list) (3 * length (edges g))) (judge_rows g [] [] 0 (rows_of list)) 9 0 (λ z. omega arith)).0 h in
      let q = (rows_pass g (rows_of list)).0 p.1 in
      built q.0 q.1 (eqb→eq (length list) (3 * length (edges g)) p.0) q.2

  pub builds_firm : Builds g list → judge_firm g list ≡ passed
  unfolding judge_firm flat
  builds_firm b = rw (eq-eqb (length list) (3 * length (edges g)) count) ((rows_pass g (rows_of list)).1 (reverse b.walks, runs, same))
    where
      count : length list ≡ 3 * length (edges g)
      count = omega (arith, ap length b.numbers, rows-length b.walks, edges-count b.steps b.once b.every)

      runs : Runs g [] (reverse b.walks)
      runs = unwind (steps_fine b.steps b.once) (end ((closing g b.walks).1 (steps_length b.steps, b.branches)))

      same : rows_of list ≡ rows_from 0 (reverse b.walks)
      same = ap rows_of (b.numbers ∙ ap rows (sym (reverse-reverse b.walks)) ∙ sym (flat_steps [] (reverse b.walks))) ∙ rows_flat (rows_from 0 (reverse b.walks))

  -- 01: the check passes a firm verdict exactly when its record builds the plan by Mader's steps
  pub firm_is : (judge_firm g list ≡ passed) ↔ Builds g list
  firm_is = (firm_builds, builds_firm)
