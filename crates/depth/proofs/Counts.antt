-- The refusals by counts and lengths.
use mathlib.Core.Path.{◌≡◌, sym, ap, ◌∙◌}
use mathlib.Core.Bool.{Bool, cond}
use Prim.Native.Nat.{ℕ, ◌/◌, ◌%◌, ◌≤◌, ◌<◌}
use native.Mathlib.Omega.{arith}
use native.Mathlib.Decide.{ℕ_discrete, dec_lt}
use lib.Dec.{T}
use lib.ListN.{length}
use borrow.Author.Tests.{lt-ltb, le-ltb, eq-eqb, ne_eqb}
use Rattle.connectivity.specs.Plan.{Plan, Limits}
use Rattle.connectivity.specs.Admission.{Answer, answer, passed, Admitted}
use Rattle.connectivity.proofs.Lists.{Decides, decides_le, decides_to, decides_and, T-dec, T_true, T_false}
use Rattle.connectivity.proofs.Admission.{passed_then, failed_then}
use Rattle.depth.specs.Depth.{counted, enough, refused}
use Rattle.depth.specs.Parts.{Least}

module _ (most : Limits) (p : Plan) where
  pub odd : (length p.ends % 2 ≡ 0 → ⊥) → counted most p ≡ answer 1 0
  unfolding counted
  odd h = rw (ne_eqb (length p.ends % 2) 0 h)

  module _ (even : length p.ends % 2 ≡ 0) where
    pub too_few : p.vertices < 2 → counted most p ≡ answer 2 0
    unfolding counted
    too_few h = rw (eq-eqb (length p.ends % 2) 0 even, lt-ltb p.vertices 2 h)

    module _ (two : 2 ≤ p.vertices) where
      pub too_many : most.vertices < p.vertices → counted most p ≡ answer 2 0
      unfolding counted
      too_many h = rw (eq-eqb (length p.ends % 2) 0 even, le-ltb p.vertices 2 two, lt-ltb most.vertices p.vertices h)

      module _ (few : p.vertices ≤ most.vertices) where
        pub too_long : most.edges < length p.ends / 2 → counted most p ≡ answer 3 0
        unfolding counted
        too_long h = rw (eq-eqb (length p.ends % 2) 0 even, le-ltb p.vertices 2 two, le-ltb most.vertices p.vertices few, lt-ltb most.edges (length p.ends / 2) h)

        pub counts_fit : length p.ends / 2 ≤ most.edges → counted most p ≡ passed
        unfolding counted
        counts_fit h = rw (eq-eqb (length p.ends % 2) 0 even, le-ltb p.vertices 2 two, le-ltb most.vertices p.vertices few, le-ltb most.edges (length p.ends / 2) h)

  pub admitted_fits : Admitted most p → counted most p ≡ passed
  admitted_fits a = counts_fit a.even a.two a.vertices a.edges

  abbrev number : Answer → ℕ
  number a = a.number

  -- what 0 says
  pub within : (counted most p).number ≡ 0 → (p.vertices ≤ most.vertices) × (length p.ends / 2 ≤ most.edges)
  within z = elim (ℕ_discrete (length p.ends % 2) 0) [
    | no h ↦ absurd (omega (arith, ap number (odd h)))
    | yes even ↦ elim (dec_lt p.vertices 2) [
      | yes h ↦ absurd (omega (arith, ap number (too_few even h)))
      | no two ↦ elim (dec_lt most.vertices p.vertices) [
        | yes h ↦ absurd (omega (arith, ap number (too_many even (omega arith) h)))
        | no few ↦ elim (dec_lt most.edges (length p.ends / 2)) [
          | yes h ↦ absurd (omega (arith, ap number (too_long even (omega arith) (omega arith) h)))
          | no short ↦ (omega arith, omega arith)
        ]
      ]
    ]
  ]

  -- every refusal has the place 0
  pub counted_place : (counted most p).place ≡ 0
  counted_place = elim (ℕ_discrete (length p.ends % 2) 0) [
    | no h ↦ ap place (odd h)
    | yes even ↦ elim (dec_lt p.vertices 2) [
      | yes h ↦ ap place (too_few even h)
      | no two ↦ elim (dec_lt most.vertices p.vertices) [
        | yes h ↦ ap place (too_many even (omega arith) h)
        | no few ↦ elim (dec_lt most.edges (length p.ends / 2)) [
          | yes h ↦ ap place (too_long even (omega arith) (omega arith) h)
          | no short ↦ ap place (counts_fit even (omega arith) (omega arith) (omega arith))
        ]
      ]
    ]
  ]
    where
      place : Answer → ℕ
      place a = a.place

  module _ (room : Bool) where
    pub refused-counts : ((counted most p).number ≡ 0 → ⊥) → refused most p room ≡ counted most p
    unfolding refused
    refused-counts h = failed_then (counted most p) (cond room passed (answer 6 0)) h

    module _ (fits : (counted most p).number ≡ 0) where
      fitting : refused most p room ≡ cond room passed (answer 6 0)
      unfolding refused
      fitting = passed_then (counted most p) (cond room passed (answer 6 0)) fits

      pub refused_short_lem : (T room → ⊥) → refused most p room ≡ answer 6 0
      refused_short_lem h = fitting ∙ rw (T_false room h)

      pub refused_not : T room → refused most p room ≡ passed
      refused_not h = fitting ∙ rw (T_true room h)

    -- the number alone tells the answer
    pub accepted : (refused most p room).number ≡ 0 → ((counted most p).number ≡ 0) × T room
    accepted z = elim (ℕ_discrete (counted most p).number 0) [
      | no h ↦ absurd (h (ap number (sym (refused-counts h)) ∙ z))
      | yes q ↦ elim (T-dec room) [ yes t ↦ (q, t) | no h ↦ absurd (omega (arith, ap number (refused_short_lem q h))) ]
    ]

    pub refused_at : refused most p room ≡ answer (refused most p room).number 0
    refused_at = elim (ℕ_discrete (counted most p).number 0) [
      | no h ↦ rw (refused-counts h) (ap (answer (counted most p).number) counted_place)
      | yes q ↦ elim (T-dec room) [ yes t ↦ rw (refused_not q t) | no h ↦ rw (refused_short_lem q h) ]
    ]

module _ (p : Plan) (incident begins dead first order cursor : ℕ) where
  abbrev pub Enough : Type 0
  Enough = (length p.ends ≤ incident) × ((p.vertices ≤ begins) × ((length p.ends / 2 ≤ dead) × ((p.vertices ≤ first) × ((p.vertices ≤ order) × (p.vertices ≤ cursor)))))

  pub enough_is : Decides (enough p incident begins dead first order cursor) Enough
  enough_is = decides_and (decides_le (length p.ends) incident) (decides_and (decides_le p.vertices begins)
      (decides_and (decides_le (length p.ends / 2) dead) (decides_and (decides_le p.vertices first) (decides_and (decides_le p.vertices order) (decides_le p.vertices cursor)))))

-- by the shortest of the tables by vertex
module _ (p : Plan) (incident dead places : ℕ) where
  pub enough_places : Decides (enough p incident places dead places places places) ((length p.ends ≤ incident) × (length p.ends / 2 ≤ dead) × (p.vertices ≤ places))
  enough_places = decides_to (enough_is p incident places dead places places places) (λ h. (h.0, h.1.1.0, h.1.0)) (λ h. (h.0, (h.2, (h.1, (h.2, (h.2, h.2))))))

  pub enough_least : {begins first order cursor : ℕ} → Least begins first order cursor places → enough p incident places dead places places places ≡ enough p incident begins dead first order cursor
  enough_least {begins} {first} {order} {cursor} l =
      let one = enough_places in
      let all = enough_is p incident begins dead first order cursor in
      elim (T-dec (enough p incident begins dead first order cursor)) [
        | yes t ↦ let h = all.holds t in
            T_true _ (one.test (h.0, h.1.1.0, l.most p.vertices h.1.0 h.1.1.1.0 h.1.1.1.1.0 h.1.1.1.1.1)) ∙ sym (T_true _ t)
        | no n ↦ T_false _ (λ t. let h = one.holds t in n (all.test (h.0, (omega (arith, h.2, l.first), (h.1, (omega (arith, h.2, l.second), (omega (arith, h.2, l.third), omega (arith, h.2, l.fourth)))))))) ∙ sym (T_false _ n)
      ]
