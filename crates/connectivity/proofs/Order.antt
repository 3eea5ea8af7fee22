-- Ordered lists, and the order of sets of edges: of two different sets one stands before the other, and not both.
use mathlib.Core.Path.{◌≡◌, refl, sym, ap, ◌∙◌}
use mathlib.Core.Logic.{◌⊎◌, inl, inr}
use mathlib.Core.Bool.{Bool, true, false, cond}
use mathlib.Core.List.Memᴰ.{append_cases as in-cases}
use mathlib.Core.List.Memᴰ.{cases_cons as in-cons}
use mathlib.Core.List.Memᴰ.{head as first}
use mathlib.Core.List.Memᴰ.{not-nil as not_in}
use mathlib.Core.List.Memᴰ.{tail as later}
use mathlib.Core.List.{List, [], ◌∷◌, ◌++◌, Memᴰ as In}
use Prim.Native.Nat.{ℕ, zero, suc, ◌≤◌, ◌<◌}
use native.Mathlib.Omega.{arith}
use native.Mathlib.Decide.{ℕ_discrete, dec_lt}
use lib.ListN.{length, get_or}
use Rattle.connectivity.specs.Lists.{Ordered, nil, cons, range, keep}
use Rattle.connectivity.specs.Graph.{Graph, is_vertex, is_edge, vertices, edges}
use Rattle.connectivity.specs.Cut.{Lower, Before}
use Rattle.connectivity.proofs.Lists.{keep_is, range_is}

get_or_in : (l : List ℕ) (j : ℕ) → j < length l → In (get_or l j 0) l
get_or_in [] j h = absurd (omega arith)
get_or_in (x ∷ l) zero h = first refl
get_or_in (x ∷ l) (suc j) h = later (get_or_in l j (omega arith))

pub before_rest : {A : Type 0} {R : A → A → Type 0} {x : A} {l : List A} → Ordered R (x ∷ l) → (y : A) → In y l → R x y
before_rest (cons h o) = h

pub after_first : {A : Type 0} {R : A → A → Type 0} {x : A} {l : List A} → Ordered R (x ∷ l) → Ordered R l
after_first (cons h o) = o

-- an earlier member is lower
pub ordered_index : {l : List ℕ} → Ordered ◌<◌ l → (i j : ℕ) → i < j → j < length l → get_or l i 0 < get_or l j 0
ordered_index nil i j h b = absurd (omega arith)
ordered_index (cons {x = x} {l = l} f o) i zero h b = absurd (omega arith)
ordered_index (cons {x = x} {l = l} f o) zero (suc j) h b = f (get_or l j 0) (get_or_in l j (omega arith))
ordered_index (cons {x = x} {l = l} f o) (suc i) (suc j) h b = ordered_index o i j (omega arith) (omega arith)

-- two ascending lists with the same members are the same
pub ordered_same : (k l : List ℕ) → Ordered ◌<◌ k → Ordered ◌<◌ l → ((x : ℕ) → In x k → In x l) → ((x : ℕ) → In x l → In x k) → k ≡ l
ordered_same [] [] o p f g = refl
ordered_same [] (y ∷ l) o p f g = absurd (not_in (g y (first refl)))
ordered_same (x ∷ k) [] o p f g = absurd (not_in (f x (first refl)))
ordered_same (x ∷ k) (y ∷ l) o p f g =
    let low : y ≤ x = elim (in-cons (f x (first refl))) [ inl q ↦ omega arith | inr i ↦ omega (arith, before_rest p x i) ] in
    let high : x ≤ y = elim (in-cons (g y (first refl))) [ inl q ↦ omega arith | inr i ↦ omega (arith, before_rest o y i) ] in
    let same : x ≡ y = omega arith in
    let to : (z : ℕ) → In z k → In z l = λ z i. elim (in-cons (f z (later i))) [ inl q ↦ absurd (omega (arith, q, before_rest o z i)) | inr j ↦ j ] in
    let from : (z : ℕ) → In z l → In z k = λ z i. elim (in-cons (g z (later i))) [ inl q ↦ absurd (omega (arith, q, before_rest p z i)) | inr j ↦ j ] in
    ap (λ (h : ℕ). h ∷ k) same ∙ ap (λ (t : List ℕ). y ∷ t) (ordered_same k l (after_first o) (after_first p) to from)

pub ordered_range : (i k : ℕ) → Ordered ◌<◌ (range i k)
unfolding range
ordered_range i zero = nil
ordered_range i (suc k) = cons (λ y j. ((range_is y (suc i) k).0 j).0) (ordered_range (suc i) k)

pub ordered_keep : {R : ℕ → ℕ → Type 0} (f : ℕ → Bool) {l : List ℕ} → Ordered R l → Ordered R (keep f l)
unfolding keep
ordered_keep f nil = nil
ordered_keep {R} f (cons {x = x} {l = l} h o) = go (f x) (ordered_keep f o)
  where
    go : (t : Bool) → Ordered R (keep f l) → Ordered R (cond t (x ∷ keep f l) (keep f l))
    go true r = cons (λ y i. h y ((keep_is f y l).0 i).0) r
    go false r = r

pub ordered_append : {A : Type 0} {R : A → A → Type 0} {k l : List A} → Ordered R k → Ordered R l → ((x y : A) → In x k → In y l → R x y) → Ordered R (k ++ l)
ordered_append nil p f = p
ordered_append {l = l} (cons {x = x} {l = k} h o) p f =
    cons {x = x} (λ y i. elim (in-cases k {t = l} i) [ inl j ↦ h y j | inr j ↦ f x y (first refl) j ]) (ordered_append o p (λ x y i j. f x y (later i) j))

pub ordered_vertices : (g : Graph) → Ordered ◌<◌ (vertices g)
unfolding vertices
ordered_vertices g = ordered_keep (is_vertex g) (ordered_range 0 g.bound)

pub ordered_edges : (g : Graph) → Ordered ◌<◌ (edges g)
unfolding edges
ordered_edges g = ordered_keep (is_edge g) (ordered_range 0 g.size)

-- a list does not stand before itself, nor two before each other
lower_not : {k l : List ℕ} → Lower k l → Lower l k → ⊥
lower_not (Lower.here p) (Lower.here q) = omega arith
lower_not (Lower.here p) (Lower.next q r) = omega arith
lower_not (Lower.next p r) (Lower.here q) = omega arith
lower_not (Lower.next p r) (Lower.next q s) = lower_not r s

pub before_not : {k l : List ℕ} → Before k l → Before l k → ⊥
before_not (inl p) (inl q) = omega arith
before_not (inl p) (inr q) = omega (arith, q.0)
before_not (inr p) (inl q) = omega (arith, p.0)
before_not (inr p) (inr q) = lower_not p.1 q.1

lower_or : (k l : List ℕ) → length k ≡ length l → Lower k l ⊎ ((k ≡ l) ⊎ Lower l k)
lower_or [] [] h = inr (inl refl)
lower_or [] (d ∷ l) h = absurd (omega arith)
lower_or (e ∷ k) [] h = absurd (omega arith)
lower_or (e ∷ k) (d ∷ l) h = elim (dec_lt e d) [
  | yes p ↦ inl (Lower.here p)
  | no n ↦ elim (dec_lt d e) [
    | yes p ↦ inr (inr (Lower.here p))
    | no m ↦ let p : e ≡ d = omega arith in elim (lower_or k l (omega arith)) [
      | inl q ↦ inl (Lower.next p q)
      | inr q ↦ inr (elim q [ inl r ↦ inl (cc) | inr r ↦ inr (Lower.next (sym p) r) ])
    ]
  ]
]

pub before_or : (k l : List ℕ) → Before k l ⊎ ((k ≡ l) ⊎ Before l k)
before_or k l = elim (dec_lt (length k) (length l)) [
  | yes p ↦ inl (inl p)
  | no n ↦ elim (dec_lt (length l) (length k)) [
    | yes p ↦ inr (inr (inl p))
    | no m ↦ let p : length k ≡ length l = omega arith in elim (lower_or k l p) [
      | inl q ↦ inl (inr (p, q))
      | inr q ↦ inr (elim q [ inl r ↦ inl r | inr r ↦ inr (inr (sym p, r)) ])
    ]
  ]
]

-- a number put into an ascending list
pub record Inserted (c : ℕ) (l : List ℕ) : Type 0 where
  pub all : List ℕ
  pub ascending : Ordered ◌<◌ all
  pub size : length all ≤ suc (length l)
  pub has : (e : ℕ) → In e (c ∷ l) → In e all
  pub only : (e : ℕ) → In e all → In e (c ∷ l)

pub insert : (c : ℕ) {l : List ℕ} → Ordered ◌<◌ l → Inserted c l
insert c nil = record { all = c ∷ []; ascending = cons (λ y i. absurd (not_in i)) nil; size = omega arith; has = λ e i. i; only = λ e i. i }
insert c (cons {x = x} {l = l} h o) = elim (dec_lt c x) [
  | yes p ↦ record {
    all = c ∷ x ∷ l;
    ascending = cons {x = c} (λ y i. elim (in-cons {b = x} {l = l} i) [ inl q ↦ omega arith | inr j ↦ omega (arith, h y j) ]) (cons h o);
    size = omega arith;
    has = λ e i. i;
    only = λ e i. i;
  }
  | no n ↦ elim (ℕ_discrete c x) [
    | yes p ↦ record { all = x ∷ l; ascending = cons h o; size = omega arith; has = λ e i. elim (in-cons i) [ inl q ↦ first (q ∙ p) | inr j ↦ j ]; only = λ e i. later i }
    | no m ↦ let r = insert c o in record {
      all = x ∷ r.all;
      ascending = cons {x = x} (λ y i. elim (in-cons (r.only y i)) [ inl q ↦ omega arith | inr j ↦ h y j ]) r.ascending;
      size = omega (arith, r.size);
      has = λ e i. elim (in-cons i) [ inl q ↦ later (r.has e (first q)) | inr j ↦ elim (in-cons j) [ inl q ↦ first q | inr k ↦ later (r.has e (later k)) ] ];
      only = λ e i. elim (in-cons i) [ inl q ↦ later (first q) | inr j ↦ elim (in-cons (r.only e j)) [ inl q ↦ first q | inr k ↦ later (later k) ] ];
    }
  ]
]
