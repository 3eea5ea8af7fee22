-- The inner vertices of a step, row by row: each is new where no built edge ends at it and the walk has not been there before.
use mathlib.Core.Path.{◌≡◌, refl, sym, ap, subst}
use mathlib.Core.Logic.{inl, inr, ⊎_swap, ◌↔◌}
use mathlib.Core.List.Memᴰ
use mathlib.Core.List.Memᴰ.{append_cases as in-cases}
use mathlib.Core.List.Memᴰ.{append_left as in_left}
use mathlib.Core.List.Memᴰ.{append_right as in_right}
use mathlib.Core.List.Memᴰ.{cases_cons as in-cons}
use mathlib.Core.List.Memᴰ.{eq_of_singleton}
use mathlib.Core.List.Memᴰ.{head as first}
use mathlib.Core.List.Memᴰ.{not-nil as not_in}
use mathlib.Core.List.Memᴰ.{tail as later}
use mathlib.Core.List.{List, [], ◌∷◌, ◌++◌, Memᴰ as In}
use Prim.Native.Nat.{ℕ, ◌≤◌}
use native.Mathlib.Omega.{arith}
use lib.ListN.{length}
use Rattle.connectivity.specs.Lists.{Distinct, no_member, one}
use Rattle.connectivity.specs.Graph.{Graph}
use Rattle.connectivity.specs.Walk.{Leg, Walk, last, then, Between, froms, inner, all_inner, all_edges, Built}
use Rattle.connectivity.proofs.Distinct.{head_distinct, tail_distinct, left_distinct, apart_distinct, join_distinct}
use Rattle.connectivity.proofs.Degree.{from_first, froms_cases}
use Rattle.connectivity.proofs.Stage.{AllBetween, all_degree, all_inner_lem}
use Rattle.connectivity.proofs.Legs.{leg}
use Rattle.connectivity.proofs.Count.{inner_built}

-- no vertex is left twice, and no inner one is built before
pub record Fresh (g : Graph) (built : List ℕ) (legs : List Leg) : Type 0 where
  pub once : Distinct (froms legs)
  pub new : (v : ℕ) → In v (inner legs) → Built g built v → ⊥

-- the first vertex and the inner ones
pub froms-distinct : {g : Graph} {u w : ℕ} {legs : List Leg} → Walk g u legs w → (In u (inner legs) → ⊥) → Distinct (inner legs) → Distinct (froms legs)
froms-distinct (last e j) n d = one n d
froms-distinct (then e j k) n d = one n d

pub first_apart : {g : Graph} {u w : ℕ} {legs : List Leg} → Walk g u legs w → Distinct (froms legs) → In u (inner legs) → ⊥
first_apart (last e j) d = head_distinct d
first_apart (then e j k) d = head_distinct d

inner-distinct : {g : Graph} {u w : ℕ} {legs : List Leg} → Walk g u legs w → Distinct (froms legs) → Distinct (inner legs)
inner-distinct (last e j) d = tail_distinct d
inner-distinct (then e j k) d = tail_distinct d

inner_from : (legs : List Leg) {v : ℕ} → In v (inner legs) → In v (froms legs)
inner_from [] i = i
inner_from (l ∷ legs) i = later i

-- 14: a later step, which begins on a built vertex
pub ear_fresh : {g : Graph} {built : List ℕ} {u w : ℕ} {legs : List Leg} → Walk g u legs w → Built g built u
    → (Distinct (inner legs) × ((v : ℕ) → In v (inner legs) → Built g built v → ⊥)) ↔ Fresh g built legs
ear_fresh {u = u} k b = (
  (λ p. record { once = froms-distinct k (λ i. p.1 u i b) p.0; new = p.1 }),
  (λ f. (inner-distinct k f.once, f.new)),
)

-- 13: step 0
pub path_fresh : {g : Graph} {a b : ℕ} {legs : List Leg} → Walk g a legs b
    → Distinct (a ∷ b ∷ inner legs) ↔ (Fresh g [] legs × (In b (froms legs) → ⊥))
path_fresh {g} {a} {b} {legs} k = (there, back)
  where
    there : Distinct (a ∷ b ∷ inner legs) → Fresh g [] legs × (In b (froms legs) → ⊥)
    there d = (
      record { once = froms-distinct k (λ i. head_distinct d (later i)) (tail_distinct (tail_distinct d)); new = λ v i h. omega (arith, h) },
      (λ i. elim (froms_cases k i) [ inl p ↦ head_distinct d (first (sym p)) | inr j ↦ head_distinct (tail_distinct d) j ]),
    )

    back : Fresh g [] legs × (In b (froms legs) → ⊥) → Distinct (a ∷ b ∷ inner legs)
    back (f, n) =
        one {x = a} (λ i. elim (in-cons {b = b} {l = inner legs} i) [ inl p ↦ n (Memᴰ.cast (sym p) (from_first k)) | inr j ↦ first_apart k f.once j ])
        (one {x = b} (λ i. n (inner_from legs i)) (inner-distinct k f.once))

-- 13: steps 1 and 2, beside the paths between a and b before them
pub paths_fresh : {g : Graph} {a b : ℕ} {legs : List Leg} (walks : List (List Leg)) → 1 ≤ length walks → AllBetween g a walks b → Between g a legs b
    → Distinct (a ∷ b ∷ all_inner walks) → Distinct (a ∷ b ∷ all_inner (legs ∷ walks)) ↔ Fresh g (all_edges walks) legs
paths_fresh {g} {a} {b} {legs} walks some before k whole = (there, back)
  where
    at_a : Built g (all_edges walks) a
    at_a = omega (arith, some, all_degree walks before)

    at_b : Built g (all_edges walks) b
    at_b = omega (arith, some, all_degree {g = g} {a = b} {b = a} walks (λ l i. ⊎_swap (before l i)))

    there : Distinct (a ∷ b ∷ (inner legs ++ all_inner walks)) → Fresh g (all_edges walks) legs
    there d = record {
      once = elim k [
        | inl w ↦ froms-distinct w (λ i. head_distinct d (later (in_left (all_inner walks) i))) distinct
        | inr w ↦ froms-distinct w (λ i. head_distinct (tail_distinct d) (in_left (all_inner walks) i)) distinct
      ];
      new = λ v i h. apart_distinct (inner legs) (tail_distinct (tail_distinct d)) i
          (all_inner_lem walks v before
          (λ p. head_distinct d (later (in_left (all_inner walks) (Memᴰ.cast (sym p) i))))
          (λ p. head_distinct (tail_distinct d) (in_left (all_inner walks) (Memᴰ.cast (sym p) i)))
          h);
    }
      where
        distinct : Distinct (inner legs)
        distinct = left_distinct (inner legs) (all_inner walks) (tail_distinct (tail_distinct d))

    back : Fresh g (all_edges walks) legs → Distinct (a ∷ b ∷ (inner legs ++ all_inner walks))
    back f =
        one {x = a} (λ i. elim (in-cons {b = b} {l = inner legs ++ all_inner walks} i) [
          | inl p ↦ head_distinct whole (first p)
          | inr j ↦ elim (in-cases (inner legs) {t = all_inner walks} j) [ inl m ↦ f.new a m at_a | inr m ↦ head_distinct whole (later m) ]
        ])
        (one {x = b} (λ i. elim (in-cases (inner legs) {t = all_inner walks} i) [ inl m ↦ f.new b m at_b | inr m ↦ head_distinct (tail_distinct whole) m ])
        (join_distinct (inner legs) (elim k [ inl w ↦ inner-distinct w f.once | inr w ↦ inner-distinct w f.once ])
        (tail_distinct (tail_distinct whole)) (λ v i j. f.new v i (inner_built walks v before j))))

-- One row more.

pub froms_snoc : (legs : List Leg) (l : Leg) → froms (legs ++ (l ∷ [])) ≡ froms legs ++ (l.from ∷ [])
froms_snoc [] l = refl
froms_snoc (m ∷ legs) l = ap (λ (r : List ℕ). m.from ∷ r) (froms_snoc legs l)

inner_snoc : {g : Graph} {u w : ℕ} {legs : List Leg} → Walk g u legs w → (l : Leg) → inner (legs ++ (l ∷ [])) ≡ inner legs ++ (l.from ∷ [])
inner_snoc (last e j) l = refl
inner_snoc (then {legs = legs} e j k) l = froms_snoc legs l

-- a row that leaves from where the walk has come to
pub fresh_snoc : {g : Graph} {built : List ℕ} {u v : ℕ} {legs : List Leg} (e : ℕ) → Walk g u legs v
    → Fresh g built (legs ++ (leg e v ∷ [])) ↔ (Fresh g built legs × (In v (froms legs) → ⊥) × (Built g built v → ⊥))
fresh_snoc {g} {built} {u} {v} {legs} e k = (there, back)
  where
    l : Leg
    l = leg e v

    there : Fresh g built (legs ++ (l ∷ [])) → Fresh g built legs × (In v (froms legs) → ⊥) × (Built g built v → ⊥)
    there f = (
      record { once = left_distinct (froms legs) (v ∷ []) once; new = λ x i. f.new x (rw (inner_snoc k l) (in_left (v ∷ []) i)) },
      (λ i. apart_distinct (froms legs) once i (first refl)),
      f.new v (rw (inner_snoc k l) (in_right (inner legs) (first refl))),
    )
      where
        once : Distinct (froms legs ++ (v ∷ []))
        once = subst Distinct (froms_snoc legs l) f.once

    back : Fresh g built legs × (In v (froms legs) → ⊥) × (Built g built v → ⊥) → Fresh g built (legs ++ (l ∷ []))
    back (f, n, m) = record {
      once = subst Distinct (sym (froms_snoc legs l)) (join_distinct (froms legs) f.once (one not_in no_member) (λ x i j. n (Memᴰ.cast (sym (eq_of_singleton j)) i)));
      new = λ x i. elim (in-cases (inner legs) (subst (In x) (inner_snoc k l) i)) [ inl j ↦ f.new x j | inr j ↦ λ h. m (rw (sym (eq_of_singleton j)) h) ];
    }
