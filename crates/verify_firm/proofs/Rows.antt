-- Where the rows of the steps stand in the list: each leg has its row, and the rows of a step stand together.
use mathlib.Core.Path.{◌≡◌, refl, sym, ap, subst, ◌∙◌}
use mathlib.Core.Logic.{inl, inr}
use mathlib.Core.List.Memᴰ.{cases_cons as in-cons}
use mathlib.Core.List.Memᴰ.{head as first}
use mathlib.Core.List.Memᴰ.{not-nil as not_in}
use mathlib.Core.List.Memᴰ.{tail as later}
use mathlib.Core.List.{List, [], ◌∷◌, ◌++◌, Memᴰ as In}
use Prim.Native.Nat.{ℕ, suc, ◌+◌, ◌≤◌, ◌<◌}
use native.Mathlib.Omega.{arith}
use native.Mathlib.Decide.{ℕ_discrete, dec_lt}
use lib.ListN.{length}
use Rattle.connectivity.specs.Walk.{Leg, froms, inner}
use Rattle.connectivity.specs.Judge.{leg_of}
use Rattle.connectivity.proofs.Stretch.{Place, now, next}
use Rattle.verify_firm.specs.Marks.{step_at, edge_at, from_at, row_at, GoesOn, Lies, no_row, one, Laid, nothing, more}

pub record RowOf (list : List ℕ) (s n m k e v : ℕ) : Type 0 where
  pub row : ℕ
  pub at : row ≡ n + k
  pub below : row < m
  pub step : step_at list row ≡ s
  pub edge : edge_at list row ≡ e
  pub from : from_at list row ≡ v

pub record Placed (list : List ℕ) (s : ℕ) (legs : List Leg) (n i : ℕ) : Type 0 where
  pub place : ℕ
  pub at : i ≡ n + place
  pub here : Place legs place (edge_at list i) (from_at list i)
  pub step : step_at list i ≡ s

-- the step of row i, with every row that has its number
pub record Home (list : List ℕ) (done : List (List Leg)) (n i : ℕ) : Type 0 where
  pub legs : List Leg
  pub member : In legs done
  pub base : ℕ
  pub top : ℕ
  pub lies : Lies list (step_at list i) base legs top
  pub within : top ≤ n
  pub all : (j : ℕ) → j < n → step_at list j ≡ step_at list i → (base ≤ j) × (j < top)

-- the rows of one of the steps
pub record Span (list : List ℕ) (legs : List Leg) (n : ℕ) : Type 0 where
  pub step : ℕ
  pub base : ℕ
  pub top : ℕ
  pub lies : Lies list step base legs top
  pub within : top ≤ n

module _ {list : List ℕ} {s : ℕ} where
  pub lies_le : {n m : ℕ} {legs : List Leg} → Lies list s n legs m → n ≤ m
  lies_le no_row = omega arith
  lies_le (one p l) = omega (arith, lies_le l)

  -- one row more
  pub lies_snoc : {n m : ℕ} {legs : List Leg} → Lies list s n legs m → step_at list m ≡ s → Lies list s n (legs ++ (leg_of (row_at list m) ∷ [])) (suc m)
  lies_snoc no_row p = one p no_row
  lies_snoc (one q l) p = one q (lies_snoc l p)

  -- the leg at place k stands k rows after the first
  pub place_row : {n m k e v : ℕ} {legs : List Leg} → Lies list s n legs m → Place legs k e v → RowOf list s n m k e v
  place_row {k = k} {e = e} {v = v} (no_row {n = n}) x5 = elim x5 [ ]
  place_row {n} (one p l) now = record { row = n; at = omega arith; below = omega (arith, lies_le l); step = p; edge = refl; from = refl }
  place_row (one p l) (next q) = let r = place_row l q in record { row = r.row; at = omega (arith, r.at); below = r.below; step = r.step; edge = r.edge; from = r.from }

  -- and the other way
  pub row_place : {n m : ℕ} {legs : List Leg} (i : ℕ) → Lies list s n legs m → n ≤ i → i < m → Placed list s legs n i
  row_place i no_row a b = absurd (omega arith)
  row_place {n} i (one {legs = legs} p l) a b = elim (ℕ_discrete n i) [
    | yes e ↦ subst (Placed list s (leg_of (row_at list n) ∷ legs) n) e (record { place = 0; at = omega arith; here = now; step = p })
    | no h ↦ let r = row_place i l (omega (arith, h)) b in
        record { place = suc r.place; at = omega (arith, r.at); here = next r.here; step = r.step }
  ]

module _ {list : List ℕ} where
  pub laid_length : {n : ℕ} {done : List (List Leg)} → Laid list done n → length done ≤ n
  laid_length nothing = omega arith
  laid_length (more d k l) = omega (arith, k, laid_length d)

  pub laid_step : {n : ℕ} {done : List (List Leg)} (i : ℕ) → Laid list done n → i < n → step_at list i < length done
  laid_step i nothing h = absurd (omega arith)
  laid_step i (more {n = n} d k l) h = elim (dec_lt i n) [
    | yes b ↦ omega (arith, laid_step i d b)
    | no b ↦ omega (arith, (row_place i l (omega (arith, b)) h).step)
  ]

  pub home : {n : ℕ} {done : List (List Leg)} (i : ℕ) → Laid list done n → i < n → Home list done n i
  home i nothing h = absurd (omega arith)
  home i (more {n = n} {m = m} {legs = legs} d k l) h = elim (dec_lt i n) [
    | yes b ↦ let r = home i d b in record {
      legs = r.legs;
      member = later r.member;
      base = r.base;
      top = r.top;
      lies = r.lies;
      within = omega (arith, r.within);
      all = λ j c p. elim (dec_lt j n) [
        | yes q ↦ r.all j q p
        | no q ↦ absurd (omega (arith, laid_step i d b, (row_place j l (omega (arith, q)) c).step))
      ];
    }
    | no b ↦
        let p = (row_place i l (omega (arith, b)) h).step in
        record {
          legs = legs;
          member = first refl;
          base = n;
          top = m;
          lies = subst (λ (t : ℕ). Lies list t n legs m) (sym p) l;
          within = omega arith;
          all = λ j c q. elim (dec_lt j n) [
            | yes r ↦ absurd (omega (arith, laid_step j d r))
            | no r ↦ (omega (arith, r), c)
          ];
        }
  ]

  pub span : {n : ℕ} {done : List (List Leg)} {legs : List Leg} → Laid list done n → In legs done → Span list legs n
  span nothing i = absurd (not_in i)
  span {legs = legs} (more {n = n} {m = m} {done = done} {legs = latest} d k l) i = elim (in-cons i) [
    | inl p ↦ record { step = length done; base = n; top = m; lies = subst (λ (t : List Leg). Lies list (length done) n t m) (sym p) l; within = omega arith }
    | inr j ↦ let r = span d j in record { step = r.step; base = r.base; top = r.top; lies = r.lies; within = omega (arith, r.within) }
  ]

-- an inner vertex of a step has a row that goes on with it
pub record InnerRow (list : List ℕ) (s n m x : ℕ) : Type 0 where
  pub before : ℕ
  pub from_first : n ≤ before
  pub below : suc before < m
  pub on : GoesOn list before
  pub step : step_at list (suc before) ≡ s
  pub is : from_at list (suc before) ≡ x

from_place : {x : ℕ} (legs : List Leg) → In x (froms legs) → (k : ℕ) × (e : ℕ) × Place legs k e x
from_place [] i = absurd (not_in i)
from_place (l ∷ legs) i = elim (in-cons i) [
  | inl p ↦ rw p (0, l.edge, now)
  | inr j ↦ let q = from_place legs j in (suc q.0, q.1, next q.2)
]

pub inner-row : {list : List ℕ} {s n m x : ℕ} {legs : List Leg} → Lies list s n legs m → In x (inner legs) → InnerRow list s n m x
inner-row no_row i = absurd (not_in i)
inner-row {list} {s} {n} {m} {x} (one {legs = legs} p l) i =
    let q = from_place legs i in
    let r = place_row (one p l) (next q.2) in
    let b = row_place (n + q.0) (one p l) (omega arith) (omega (arith, r.at, r.below)) in
    let same : r.row ≡ suc (n + q.0) = omega (arith, r.at) in
    record {
      before = n + q.0;
      from_first = omega arith;
      below = omega (arith, r.at, r.below);
      on = b.step ∙ sym r.step ∙ ap (step_at list) same;
      step = sym (ap (step_at list) same) ∙ r.step;
      is = sym (ap (from_at list) same) ∙ r.from;
    }
