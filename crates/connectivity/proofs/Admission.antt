-- `admission` answers 0 and 0 exactly for the plans that are admitted.
use mathlib.Core.Path.{◌≡◌, refl, ap, ◌∙◌}
use mathlib.Core.Logic.{◌⊎◌, inl, inr, ◌↔◌}
use mathlib.Core.Bool.{Bool, true, false, cond, ◌&&◌, ◌||◌}
use mathlib.Core.List.Memᴰ.{cases_cons as in-cons}
use mathlib.Core.List.Memᴰ.{head as first}
use mathlib.Core.List.Memᴰ.{not-nil as not_in}
use mathlib.Core.List.Memᴰ.{tail as later}
use mathlib.Core.List.{List, [], ◌∷◌, Memᴰ as In}
use Prim.Native.Nat.{ℕ, zero, suc, ◌+◌, ◌*◌, ◌/◌, ◌%◌, ◌≤◌, ◌<◌}
use native.Mathlib.Omega.{arith}
use native.Mathlib.Decide.{ℕ_discrete}
use lib.Dec.{T, eqb, ltb, ltb→lt, lt→ltb, leb, leb→le, le→leb}
use lib.ListN.{length, get_or}
use borrow.Author.Tests.{eqb-true, eqb-false, ltb-false, eq-eqb, ne_eqb, lt-ltb, le-ltb}
use Rattle.connectivity.specs.Lists.{Ordered, nil, cons}
use Rattle.connectivity.specs.Plan.{Plan, plan, Limits}
use Rattle.connectivity.specs.Admission.{Answer, answer, passed, EndsFit, kept_vertices, Admitted, and_then, edge_number, ends_answer, excluded_answer, kept_answer, admission}
use Rattle.connectivity.proofs.Lists.{and_both, both_and, true-T}
use Rattle.connectivity.proofs.Order.{before_rest, after_first}

-- two answers, one after the other, are success where both are
pub both_passed : (x y : Answer) → and_then x y ≡ passed → (x.number ≡ 0) × (y ≡ passed)
unfolding and_then
both_passed x y p = go (eqb x.number 0) refl p
  where
    go : (t : Bool) → eqb x.number 0 ≡ t → cond t y x ≡ passed → (x.number ≡ 0) × (y ≡ passed)
    go true q p = (eqb-true x.number 0 q, p)
    go false q p = absurd (eqb-false x.number 0 q (ap (λ (a : Answer). a.number) p))

pub passed_then : (x y : Answer) → x.number ≡ 0 → and_then x y ≡ y
unfolding and_then
passed_then x y p = rw (eq-eqb x.number 0 p)

pub failed_then : (x y : Answer) → (x.number ≡ 0 → ⊥) → and_then x y ≡ x
unfolding and_then
failed_then x y n = rw (ne_eqb x.number 0 n)

-- an answer that depends on a test, else a rejection
pub passed_when : (t : Bool) (x : Answer) (n p : ℕ) → (n ≡ 0 → ⊥) → (cond t x (answer n p) ≡ passed) ↔ (T t × (x ≡ passed))
passed_when true x n p h = (λ q. (tt, q), λ q. q.1)
passed_when false x n p h = (λ q. absurd (h (ap (λ (a : Answer). a.number) q)), λ q. absurd q.0)

not_passed : {n p : ℕ} → (n ≡ 0 → ⊥) → answer n p ≡ passed → ⊥
not_passed h q = h (ap (λ (a : Answer). a.number) q)

edge_number_lem : (n a b : ℕ) → (edge_number n a b ≡ 0) ↔ ((a < n) × (b < n) × (a ≡ b → ⊥))
unfolding edge_number
edge_number_lem n a b = (to (ltb a n && ltb b n) refl (eqb a b) refl, from)
  where
    to : (t : Bool) → (ltb a n && ltb b n) ≡ t → (s : Bool) → eqb a b ≡ s → ◌≡◌ {A = ℕ} (cond t (cond s 5 0) 4) 0 → (a < n) × (b < n) × (a ≡ b → ⊥)
    to false t s q p = absurd (omega arith)
    to true t true q p = absurd (omega arith)
    to true t false q p = let r = and_both (ltb a n) (ltb b n) (true-T t) in (ltb→lt a n r.0, ltb→lt b n r.1, eqb-false a b q)

    from : (a < n) × (b < n) × (a ≡ b → ⊥) → edge_number n a b ≡ 0
    from f = rw (lt-ltb a n f.0, lt-ltb b n f.1, ne_eqb a b f.2)

-- the edges behind the first
module _ (n a b : ℕ) (ends x : List ℕ) where
  even_next : (e : ℕ) → get_or (a ∷ (b ∷ ends)) (2 * suc e) 0 ≡ get_or ends (2 * e) 0
  even_next e = let p : 2 * suc e ≡ suc (suc (2 * e)) = omega arith in rw p

  odd_next : (e : ℕ) → get_or (a ∷ (b ∷ ends)) (2 * suc e + 1) 0 ≡ get_or ends (2 * e + 1) 0
  odd_next e = let p : 2 * suc e + 1 ≡ suc (suc (2 * e + 1)) = omega arith in rw p

  fit_next : (e : ℕ) → EndsFit (plan n ends x) e → EndsFit (plan n (a ∷ (b ∷ ends)) x) (suc e)
  fit_next e f = record {
    left = rw (even_next e) f.left;
    right = rw (odd_next e) f.right;
    different = rw (even_next e, odd_next e) f.different;
  }

  next_fit : (e : ℕ) → EndsFit (plan n (a ∷ (b ∷ ends)) x) (suc e) → EndsFit (plan n ends x) e
  next_fit e f = record {
    left = rw (even_next e) at f.left;
    right = rw (odd_next e) at f.right;
    different = rw (even_next e, odd_next e) at f.different;
  }

fits : (n k : ℕ) (ends x : List ℕ) → ends_answer n k ends ≡ passed → (e : ℕ) → e < length ends / 2 → EndsFit (plan n ends x) e
unfolding ends_answer
fits n k [] x p e h = absurd (omega arith)
fits n k (a ∷ []) x p e h = absurd (omega arith)
fits n k (a ∷ (b ∷ ends)) x p zero h = let f = (edge_number_lem n a b).0 (both_passed _ _ p).0 in record { left = f.0; right = f.1; different = f.2 }
fits n k (a ∷ (b ∷ ends)) x p (suc e) h = fit_next n a b ends x e (fits n (suc k) ends x (both_passed _ _ p).1 e (omega arith))

fitting : (n k : ℕ) (ends x : List ℕ) → ((e : ℕ) → e < length ends / 2 → EndsFit (plan n ends x) e) → ends_answer n k ends ≡ passed
unfolding ends_answer
fitting n k [] x f = refl
fitting n k (a ∷ []) x f = refl
fitting n k (a ∷ (b ∷ ends)) x f = let p = f 0 (omega arith) in
    passed_then _ _ ((edge_number_lem n a b).1 (p.left, p.right, p.different))
    ∙ fitting n (suc k) ends x (λ e h. next_fit n a b ends x e (f (suc e) (omega arith)))

-- an answer is success, or its number is not 0
abbrev pub Told : Answer → Type 0
Told a = (a ≡ passed) ⊎ (a.number ≡ 0 → ⊥)

pub cond_both : {A : Type 0} (P : A → Type 0) (t : Bool) {x y : A} → P x → P y → P (cond t x y)
cond_both P true p q = p
cond_both P false p q = q

then_told : (x y : Answer) → Told y → Told (and_then x y)
then_told x y t = elim (ℕ_discrete x.number 0) [ yes p ↦ rw (passed_then x y p) t | no n ↦ inr (rw (failed_then x y n) n) ]

pub ends_told : (n k : ℕ) (ends : List ℕ) → Told (ends_answer n k ends)
unfolding ends_answer
ends_told n k [] = inl refl
ends_told n k (a ∷ []) = inl refl
ends_told n k (a ∷ (b ∷ ends)) = then_told (answer (edge_number n a b) k) (ends_answer n (suc k) ends) (ends_told n (suc k) ends)

pub excluded_told : (n k low : ℕ) (list : List ℕ) → Told (excluded_answer n k low list)
unfolding excluded_answer
excluded_told n k low [] = inl refl
excluded_told n k low (v ∷ rest) = cond_both Told (leb low v && ltb v n) (excluded_told n (suc k) (suc v) rest) (inr (λ z. omega arith))

kept_told : (p : Plan) → Told (kept_answer p)
unfolding kept_answer
kept_told p = cond_both Told (ltb (kept_vertices p) 2) (inr (λ z. omega arith)) (inl refl)

-- success changes nothing
pub then_passed : {a : Answer} → Told a → and_then a passed ≡ a
then_passed {a} (inl p) = rw p (passed_then passed passed refl)
then_passed {a} (inr h) = failed_then a passed h

pub told_zero : {a : Answer} → Told a → a.number ≡ 0 → a ≡ passed
told_zero (inl p) z = p
told_zero (inr h) z = absurd (h z)

-- the excluded vertices: below n, at least `low`, ascending
pub record Rising (n low : ℕ) (list : List ℕ) : Type 0 where
  pub inside : (v : ℕ) → In v list → v < n
  pub least : (v : ℕ) → In v list → low ≤ v
  pub ascending : Ordered ◌<◌ list

rising_to : (n k low : ℕ) (list : List ℕ) → excluded_answer n k low list ≡ passed → Rising n low list
unfolding excluded_answer
rising_to n k low [] p = record { inside = λ v i. absurd (not_in i); least = λ v i. absurd (not_in i); ascending = nil }
rising_to n k low (x ∷ rest) p =
    let q = (passed_when (leb low x && ltb x n) (excluded_answer n (suc k) (suc x) rest) 18 k (λ z. omega arith)).0 p in
    let t = and_both (leb low x) (ltb x n) q.0 in
    let r = rising_to n (suc k) (suc x) rest q.1 in
    record {
      inside = λ v i. elim (in-cons i) [ inl e ↦ omega (arith, e, ltb→lt x n t.1) | inr j ↦ r.inside v j ];
      least = λ v i. elim (in-cons i) [ inl e ↦ omega (arith, e, leb→le low x t.0) | inr j ↦ omega (arith, leb→le low x t.0, r.least v j) ];
      ascending = cons {x = x} {l = rest} (λ y j. omega (arith, r.least y j)) r.ascending;
    }

to_rising : (n k low : ℕ) (list : List ℕ) → Rising n low list → excluded_answer n k low list ≡ passed
unfolding excluded_answer
to_rising n k low [] r = refl
to_rising n k low (x ∷ rest) r =
    (passed_when (leb low x && ltb x n) (excluded_answer n (suc k) (suc x) rest) 18 k (λ z. omega arith)).1 (
      both_and (leb low x) (ltb x n) (le→leb low x (r.least x (first refl))) (lt→ltb x n (r.inside x (first refl))),
      to_rising n (suc k) (suc x) rest (record {
        inside = λ v i. r.inside v (later i);
        least = λ v i. before_rest r.ascending v i;
        ascending = after_first r.ascending;
      }),
    )

pub rising_is : (n k low : ℕ) (list : List ℕ) → (excluded_answer n k low list ≡ passed) ↔ Rising n low list
rising_is n k low list = (rising_to n k low list, to_rising n k low list)

pub kept_two : (p : Plan) → (kept_answer p ≡ passed) ↔ (2 ≤ kept_vertices p)
unfolding kept_answer
kept_two p = (to (ltb (kept_vertices p) 2) refl, λ h. rw (le-ltb (kept_vertices p) 2 h))
  where
    to : (t : Bool) → ltb (kept_vertices p) 2 ≡ t → cond t (answer 19 0) passed ≡ passed → 2 ≤ kept_vertices p
    to true q h = absurd (not_passed (λ z. omega arith) h)
    to false q h = ltb-false (kept_vertices p) 2 q

pub admission_is : (most : Limits) (p : Plan) → (admission most p ≡ passed) ↔ Admitted most p
unfolding admission
admission_is most p = (to (eqb (length p.ends % 2) 0) refl (ltb p.vertices 2) refl (ltb most.vertices p.vertices) refl (ltb most.edges (length p.ends / 2)) refl, from)
  where
    to : (a : Bool) → eqb (length p.ends % 2) 0 ≡ a → (b : Bool) → ltb p.vertices 2 ≡ b → (c : Bool) → ltb most.vertices p.vertices ≡ c
        → (d : Bool) → ltb most.edges (length p.ends / 2) ≡ d
        → cond a (cond (b || c) (answer 2 0) (cond d (answer 3 0) (and_then (ends_answer p.vertices 0 p.ends) (and_then (excluded_answer p.vertices 0 0 p.excluded) (kept_answer p))))) (answer 1 0) ≡ passed → Admitted most p
    to false o b q c r d s h = absurd (not_passed (λ z. omega arith) h)
    to true o true q c r d s h = absurd (not_passed (λ z. omega arith) h)
    to true o false q true r d s h = absurd (not_passed (λ z. omega arith) h)
    to true o false q false r true s h = absurd (not_passed (λ z. omega arith) h)
    to true o false q false r false s h =
        let x = both_passed (ends_answer p.vertices 0 p.ends) _ h in
        let y = both_passed (excluded_answer p.vertices 0 0 p.excluded) (kept_answer p) x.1 in
        let rising = (rising_is p.vertices 0 0 p.excluded).0 (told_zero (excluded_told p.vertices 0 0 p.excluded) y.0) in
        record {
          even = eqb-true (length p.ends % 2) 0 o;
          two = ltb-false p.vertices 2 q;
          vertices = ltb-false most.vertices p.vertices r;
          edges = ltb-false most.edges (length p.ends / 2) s;
          fit = fits p.vertices 0 p.ends p.excluded (told_zero (ends_told p.vertices 0 p.ends) x.0);
          inside = rising.inside;
          ascending = rising.ascending;
          remain = (kept_two p).0 y.1;
        }

    from : Admitted most p → admission most p ≡ passed
    from a = rw (eq-eqb (length p.ends % 2) 0 a.even, le-ltb p.vertices 2 a.two, le-ltb most.vertices p.vertices a.vertices, le-ltb most.edges (length p.ends / 2) a.edges)
        (ap (λ (x : Answer). and_then x (and_then (excluded_answer p.vertices 0 0 p.excluded) (kept_answer p))) (fitting p.vertices 0 p.ends p.excluded a.fit)
        ∙ passed_then passed _ refl
        ∙ ap (λ (x : Answer). and_then x (kept_answer p)) ((rising_is p.vertices 0 0 p.excluded).1 (record { inside = a.inside; least = λ v i. omega arith; ascending = a.ascending }))
        ∙ passed_then passed _ refl
        ∙ (kept_two p).1 a.remain)

pub admission-told : (most : Limits) (p : Plan) → Told (admission most p)
unfolding admission
admission-told most p = cond_both Told (eqb (length p.ends % 2) 0)
    (cond_both Told (ltb p.vertices 2 || ltb most.vertices p.vertices) (inr (λ z. omega arith))
    (cond_both Told (ltb most.edges (length p.ends / 2)) (inr (λ z. omega arith))
    (then_told (ends_answer p.vertices 0 p.ends) _ (then_told (excluded_answer p.vertices 0 0 p.excluded) (kept_answer p) (kept_told p)))))
    (inr (λ z. omega arith))

-- so the number alone tells whether the plan is admitted
pub admission_number : (most : Limits) (p : Plan) → ((admission most p).number ≡ 0) ↔ Admitted most p
admission_number most p = (
  λ z. elim (admission-told most p) [ inl q ↦ (admission_is most p).0 q | inr q ↦ absurd (q z) ],
  λ a. ap (λ (x : Answer). x.number) ((admission_is most p).1 a),
)
