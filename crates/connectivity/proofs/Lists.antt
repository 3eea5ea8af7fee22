-- The tests on lists and the facts that they decide, both ways.
use mathlib.Core.Path.{◌≡◌, refl, sym, ap, ◌∙◌, subst}
use mathlib.Core.Logic.{◌⊎◌, inl, inr, ◌↔◌}
use mathlib.Core.Bool.{Bool, true, false, not, cond, ◌&&◌, ◌||◌}
use mathlib.Core.List.Memᴰ.{head as first}
use mathlib.Core.List.Memᴰ.{not-nil as not_in}
use mathlib.Core.List.Memᴰ.{tail as later}
use mathlib.Core.List.{List, [], ◌∷◌, map, Memᴰ as In}
use Prim.Native.Nat.{ℕ, zero, suc, ◌+◌, ◌≤◌, ◌<◌}
use native.Mathlib.Omega.{arith}
use native.Mathlib.Decide.{ℕ_discrete}
use lib.Dec.{T, eqb, eqb→eq, eqb_refl, leb, leb→le, le→leb, T_not, not_T}
use lib.ListN.{length, get_or, set}
use lib.Seq.{get_or-set_same, get_or-set_other}
use borrow.Author.Tests.{eq-eqb, ne_eqb}
use Rattle.connectivity.specs.Lists.{Distinct, no_member, one, range, any, all, keep, mem, distinct, empty}

-- tests
pub and_both : (a b : Bool) → T (a && b) → T a × T b
and_both true b t = (tt, t)
and_both false b t = absurd t

pub both_and : (a b : Bool) → T a → T b → T (a && b)
both_and true b t u = u
both_and false b t u = absurd t

pub or_one : (a b : Bool) → T (a || b) → T a ⊎ T b
or_one true b t = inl tt
or_one false b t = inr t

pub or_left : (a b : Bool) → T a → T (a || b)
or_left true b t = tt
or_left false b t = absurd t

pub or_right : (a b : Bool) → T b → T (a || b)
or_right true b t = tt
or_right false b t = t

pub T-dec : (b : Bool) → Dec (T b)
T-dec true = yes tt
T-dec false = no (λ t. t)

pub T_true : (b : Bool) → T b → b ≡ true
T_true true t = refl
T_true false t = absurd t

pub T_false : (b : Bool) → (T b → ⊥) → b ≡ false
T_false true n = absurd (n tt)
T_false false n = refl

-- tests that hold of each other are the same
pub same_tests : (a b : Bool) → (T a → T b) → (T b → T a) → a ≡ b
same_tests a b f h = elim (T-dec a) [ yes t ↦ T_true a t ∙ sym (T_true b (f t)) | no n ↦ T_false a n ∙ sym (T_false b (λ t. n (h t))) ]

pub true-T : {b : Bool} → b ≡ true → T b
true-T p = subst T (sym p) tt

pub false-T : {b : Bool} → b ≡ false → T b → ⊥
false-T p t = subst T p t

pub eq-T : {m n : ℕ} → m ≡ n → T (eqb m n)
eq-T {m} p = subst (λ (k : ℕ). T (eqb m k)) p (eqb_refl m)

-- membership
pub mem_in : (x : ℕ) (l : List ℕ) → T (mem x l) → In x l
unfolding mem
mem_in x [] t = absurd t
mem_in x (y ∷ l) t = elim (or_one (eqb x y) (mem x l) t) [ inl h ↦ first (eqb→eq x y h) | inr h ↦ later (mem_in x l h) ]

pub in_mem : {x : ℕ} {l : List ℕ} → In x l → T (mem x l)
unfolding mem
in_mem {x} (first {x = y} {xs = l} p) = or_left (eqb x y) (mem x l) (eq-T p)
in_mem {x} (later {x = y} {xs = l} i) = or_right (eqb x y) (mem x l) (in_mem i)

pub in_dec : (x : ℕ) (l : List ℕ) → Dec (In x l)
in_dec x l = elim (T-dec (mem x l)) [ yes t ↦ yes (mem_in x l t) | no n ↦ no (λ i. n (in_mem i)) ]

pub not_mem : (x : ℕ) (l : List ℕ) → T (not (mem x l)) ↔ (In x l → ⊥)
not_mem x l = (λ t i. T_not (mem x l) t (in_mem i), λ n. not_T (mem x l) (λ t. n (mem_in x l t)))

pub distinct_is : (l : List ℕ) → T (distinct l) ↔ Distinct l
unfolding distinct
distinct_is l = (to l, from)
  where
    to : (l : List ℕ) → T (distinct l) → Distinct l
    to [] t = no_member
    to (x ∷ l) t = let p = and_both (not (mem x l)) (distinct l) t in one ((not_mem x l).0 p.0) (to l p.1)

    from : {l : List ℕ} → Distinct l → T (distinct l)
    from no_member = tt
    from (one {x = x} {l = l} n d) = both_and (not (mem x l)) (distinct l) ((not_mem x l).1 n) (from d)

-- any, all, keep, range, empty
pub any_is : (f : ℕ → Bool) (l : List ℕ) → T (any f l) ↔ ((x : ℕ) × In x l × T (f x))
unfolding any
any_is f l = (to l, λ p. from p.1 p.2)
  where
    to : (l : List ℕ) → T (any f l) → (x : ℕ) × In x l × T (f x)
    to [] t = absurd t
    to (y ∷ l) t = elim (or_one (f y) (any f l) t) [ inl h ↦ (y, first refl, h) | inr h ↦ let r = to l h in (r.0, later r.1, r.2) ]

    from : {x : ℕ} {l : List ℕ} → In x l → T (f x) → T (any f l)
    from {x} (first {x = y} {xs = l} p) t = or_left (f y) (any f l) (subst (λ (z : ℕ). T (f z)) p t)
    from {x} (later {x = y} {xs = l} i) t = or_right (f y) (any f l) (from i t)

pub all_is : (f : ℕ → Bool) (l : List ℕ) → T (all f l) ↔ ((x : ℕ) → In x l → T (f x))
unfolding all
all_is f l = (λ t x i. to t i, from l)
  where
    to : {x : ℕ} {l : List ℕ} → T (all f l) → In x l → T (f x)
    to {x} t (first {x = y} {xs = l} p) = subst (λ (z : ℕ). T (f z)) (sym p) (and_both (f y) (all f l) t).0
    to {x} t (later {x = y} {xs = l} i) = to (and_both (f y) (all f l) t).1 i

    from : (l : List ℕ) → ((x : ℕ) → In x l → T (f x)) → T (all f l)
    from [] h = tt
    from (y ∷ l) h = both_and (f y) (all f l) (h y (first refl)) (from l (λ x i. h x (later i)))

pub keep_is : (f : ℕ → Bool) (x : ℕ) (l : List ℕ) → In x (keep f l) ↔ (In x l × T (f x))
unfolding keep
keep_is f x l = (to l, λ p. from p.0 p.1)
  where
    to : (l : List ℕ) → In x (keep f l) → In x l × T (f x)
    to [] i = absurd (not_in i)
    to (y ∷ l) i = go (f y) refl i (to l)
      where
        go : (t : Bool) → f y ≡ t → In x (cond t (y ∷ keep f l) (keep f l)) → (In x (keep f l) → In x l × T (f x)) → In x (y ∷ l) × T (f x)
        go true q (first p) h = (first p, subst (λ (z : ℕ). T (f z)) (sym p) (true-T q))
        go true q (later j) h = let r = h j in (later r.0, r.1)
        go false q j h = let r = h j in (later r.0, r.1)

    from : {l : List ℕ} → In x l → T (f x) → In x (keep f l)
    from (first {x = y} {xs = l} p) t = rw (T_true (f y) (subst (λ (z : ℕ). T (f z)) p t)) (first p)
    from (later {x = y} {xs = l} i) t = go (f y) (from i t)
      where
        go : (b : Bool) → In x (keep f l) → In x (cond b (y ∷ keep f l) (keep f l))
        go true j = later j
        go false j = j

-- the members that pass a test and those that do not are as many as there are
pub keep-length : (f : ℕ → Bool) (l : List ℕ) → length (keep f l) + length (keep (λ x. not (f x)) l) ≡ length l
unfolding keep
keep-length f [] = refl
keep-length f (x ∷ l) = go (f x) (keep-length f l)
  where
    go : (t : Bool) → length (keep f l) + length (keep (λ x. not (f x)) l) ≡ length l
        → length (cond t (x ∷ keep f l) (keep f l)) + length (cond (not t) (x ∷ keep (λ x. not (f x)) l) (keep (λ x. not (f x)) l)) ≡ suc (length l)
    go true h = omega arith
    go false h = omega arith

pub range_is : (x i k : ℕ) → In x (range i k) ↔ ((i ≤ x) × (x < i + k))
unfolding range
range_is x i k = (to i k, λ p. from i k p.0 p.1)
  where
    to : (i k : ℕ) → In x (range i k) → (i ≤ x) × (x < i + k)
    to i zero j = absurd (not_in j)
    to i (suc k) (first p) = omega arith
    to i (suc k) (later j) = let r = to (suc i) k j in omega arith

    from : (i k : ℕ) → i ≤ x → x < i + k → In x (range i k)
    from i zero h l = absurd (omega arith)
    from i (suc k) h l = elim (ℕ_discrete x i) [ yes p ↦ first p | no n ↦ later (from (suc i) k (omega arith) (omega arith)) ]

pub length-range : (i k : ℕ) → length (range i k) ≡ k
unfolding range
length-range i zero = refl
length-range i (suc k) = ap suc (length-range (suc i) k)

-- a table that a function of the place tells
pub map_range : (f : ℕ → ℕ) (i k j : ℕ) → j < k → get_or (map f (range i k)) j 0 ≡ f (i + j)
unfolding range
map_range f i zero j l = absurd (omega arith)
map_range f i (suc k) zero l = let p : i ≡ i + 0 = omega arith in ap f p
map_range f i (suc k) (suc j) l = let p : suc i + j ≡ i + suc j = omega arith in map_range f (suc i) k j (omega arith) ∙ ap f p

-- an empty list has no member, and any other has one
pub empty-none : {x : ℕ} (l : List ℕ) → T (empty l) → In x l → ⊥
unfolding empty
empty-none [] t i = not_in i
empty-none (y ∷ l) t i = t

pub none-empty : (l : List ℕ) → ((x : ℕ) → In x l → ⊥) → T (empty l)
unfolding empty
none-empty [] n = tt
none-empty (x ∷ l) n = n x (first refl)

pub not_empty : (l : List ℕ) → (T (empty l) → ⊥) → 1 ≤ length l
unfolding empty
not_empty [] n = absurd (n tt)
not_empty (x ∷ l) n = omega arith

-- a test decides a fact: it is true exactly where the fact holds
pub record Decides (b : Bool) (P : Type 0) : Type 0 where
  pub holds : T b → P
  pub test : P → T b

pub decides : {P : Type 0} (b : Bool) → T b ↔ P → Decides b P
decides b e = record { holds = e.0; test = e.1 }

pub decides_eq : (m n : ℕ) → Decides (eqb m n) (m ≡ n)
decides_eq m n = record { holds = eqb→eq m n; test = eq-T }

pub decides_le : (m n : ℕ) → Decides (leb m n) (m ≤ n)
decides_le m n = decides (leb m n) (leb→le m n, le→leb m n)

module _ {a : Bool} {P : Type 0} (p : Decides a P) where
  pub decides_not : Decides (not a) (P → ⊥)
  decides_not = record { holds = λ t h. T_not a t (p.test h); test = λ n. not_T a (λ t. n (p.holds t)) }

  pub decides_to : {Q : Type 0} → (P → Q) → (Q → P) → Decides a Q
  decides_to f h = record { holds = λ t. f (p.holds t); test = λ q. p.test (h q) }

  module _ {b : Bool} {Q : Type 0} (q : Decides b Q) where
    pub decides_and : Decides (a && b) (P × Q)
    decides_and = record { holds = λ t. let r = and_both a b t in (p.holds r.0, q.holds r.1); test = λ r. both_and a b (p.test r.0) (q.test r.1) }

    pub decides_or : Decides (a || b) (P ⊎ Q)
    decides_or = record {
      holds = λ t. elim (or_one a b t) [ inl h ↦ inl (p.holds h) | inr h ↦ inr (q.holds h) ];
      test = λ r. elim r [ inl h ↦ or_left a b (p.test h) | inr h ↦ or_right a b (q.test h) ];
    }

pub decides_all : {f : ℕ → Bool} {P : ℕ → Type 0} → ((x : ℕ) → Decides (f x) (P x)) → (l : List ℕ) → Decides (all f l) ((x : ℕ) → In x l → P x)
decides_all {f} d l = record { holds = λ t x i. (d x).holds ((all_is f l).0 t x i); test = λ h. (all_is f l).1 (λ x i. (d x).test (h x i)) }

-- one entry of a table is raised
pub raised : (table : List ℕ) (i x v : ℕ) → i < length table → get_or (set table i (get_or table i 0 + x)) v 0 ≡ cond (eqb i v) x 0 + get_or table v 0
raised table i x v h = elim (ℕ_discrete i v) [
  | yes p ↦ rw (eq-eqb i v p, ← p) (omega (arith, get_or-set_same table i (get_or table i 0 + x) 0 h))
  | no p ↦ rw (ne_eqb i v p) (omega (arith, get_or-set_other table i v (get_or table i 0 + x) 0 (λ q. p (sym q))))
]
