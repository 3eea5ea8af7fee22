-- `lowest_cut` finds the lowest cut of at most two edges, and finds none exactly where the graph is 3-edge-connected.
use mathlib.Core.Path.{◌≡◌, refl, sym, ap, ◌∙◌, subst}
use mathlib.Core.Logic.{◌⊎◌, inl, inr, ◌↔◌}
use mathlib.Core.Bool.{Bool}
use mathlib.Core.List.Memᴰ
use mathlib.Core.List.Memᴰ.{append_cases as in-cases}
use mathlib.Core.List.Memᴰ.{append_left as in_left}
use mathlib.Core.List.Memᴰ.{append_right as in_right}
use mathlib.Core.List.Memᴰ.{cases_cons as in-cons}
use mathlib.Core.List.Memᴰ.{eq_of_singleton}
use mathlib.Core.List.Memᴰ.{head as first}
use mathlib.Core.List.Memᴰ.{not-nil as not_in}
use mathlib.Core.List.Memᴰ.{tail as later}
use mathlib.Core.List.{List, [], ◌∷◌, ◌++◌, Memᴰ as In}
use mathlib.Core.Option.{Option, none, some}
use Prim.Native.Nat.{ℕ, ◌≤◌, ◌<◌}
use native.Mathlib.Omega.{arith}
use lib.Dec.{T}
use lib.ListN.{length}
use Rattle.connectivity.specs.Lists.{Ordered, nil, cons}
use Rattle.connectivity.specs.Graph.{Graph, Vertex, Edge, is_edge, edges}
use Rattle.connectivity.specs.Reach.{Connected, ThreeEdgeConnected}
use Rattle.connectivity.specs.Cut.{EdgeSet, Lower, Before, LowestCut, disconnects, singles, pairs_with, pairs, first_of, lowest_cut}
use Rattle.connectivity.proofs.Lists.{T-dec, T_true, T_false}
use Rattle.connectivity.proofs.Search.{is_edge_lem, edges_are}
use Rattle.connectivity.proofs.Disconnects.{disconnects_is, connected_is, connected_less}
use Rattle.connectivity.proofs.Order.{ordered_append, ordered_edges, before_rest, before_not, before_or, insert}

-- the sets of one and of two edges
pub singles_in : {e : ℕ} {l : List ℕ} → In e l → In (e ∷ []) (singles l)
unfolding singles
singles_in (first p) = first (ap (λ (x : ℕ). x ∷ []) p)
singles_in (later i) = later (singles_in i)

singles_are : {c : List ℕ} (l : List ℕ) → In c (singles l) → (e : ℕ) × (c ≡ e ∷ []) × In e l
unfolding singles
singles_are [] i = absurd (not_in i)
singles_are (e ∷ l) i = elim (in-cons i) [ inl p ↦ (e, p, first refl) | inr j ↦ let r = singles_are l j in (r.0, r.1, later r.2) ]

pairs_with_in : (e : ℕ) {d : ℕ} {l : List ℕ} → In d l → In (e ∷ d ∷ []) (pairs_with e l)
unfolding pairs_with
pairs_with_in e (first p) = first (ap (λ (x : ℕ). e ∷ x ∷ []) p)
pairs_with_in e (later i) = later (pairs_with_in e i)

pairs_with_are : {c : List ℕ} (e : ℕ) (l : List ℕ) → In c (pairs_with e l) → (d : ℕ) × (c ≡ e ∷ d ∷ []) × In d l
unfolding pairs_with
pairs_with_are e [] i = absurd (not_in i)
pairs_with_are e (d ∷ l) i = elim (in-cons i) [ inl p ↦ (d, p, first refl) | inr j ↦ let r = pairs_with_are e l j in (r.0, r.1, later r.2) ]

pairs_in : {e d : ℕ} {l : List ℕ} → Ordered ◌<◌ l → In e l → In d l → e < d → In (e ∷ d ∷ []) (pairs l)
unfolding pairs
pairs_in nil i j h = absurd (not_in i)
pairs_in {e} {d} (cons {x = x} {l = l} o p) i j h = go (in-cons i) (in-cons j) (λ q r. pairs_in p q r h)
  where
    go : (e ≡ x) ⊎ In e l → (d ≡ x) ⊎ In d l → (In e l → In d l → In (e ∷ d ∷ []) (pairs l)) → In (e ∷ d ∷ []) (pairs_with x l ++ pairs l)
    go (inl q) (inl r) f = absurd (omega arith)
    go (inl q) (inr r) f = in_left (pairs l) (subst (λ (y : ℕ). In (y ∷ d ∷ []) (pairs_with x l)) (sym q) (pairs_with_in x r))
    go (inr q) (inl r) f = absurd (omega (arith, o e q))
    go (inr q) (inr r) f = in_right (pairs_with x l) (f q r)

pairs_are : {c l : List ℕ} → Ordered ◌<◌ l → In c (pairs l) → (e : ℕ) × (d : ℕ) × (c ≡ e ∷ d ∷ []) × In e l × In d l × (e < d)
unfolding pairs
pairs_are nil i = absurd (not_in i)
pairs_are {c} (cons {x = x} {l = l} o p) i = elim (in-cases (pairs_with x l) i) [
  | inl j ↦ let r = pairs_with_are x l j in (x, r.0, r.1, first refl, later r.2, o r.0 r.2)
  | inr j ↦ let r = pairs_are p j in (r.0, r.1, r.2, later r.3, later r.4, r.5)
]

ordered_singles : {l : List ℕ} → Ordered ◌<◌ l → Ordered Before (singles l)
unfolding singles
ordered_singles nil = nil
ordered_singles (cons {x = x} {l = l} h o) = cons {x = x ∷ []} (λ c i. let r = singles_are l i in rw r.1 (inr (refl, Lower.here (h r.0 r.2)))) (ordered_singles o)

ordered_pairs_with : (e : ℕ) {l : List ℕ} → Ordered ◌<◌ l → Ordered Before (pairs_with e l)
unfolding pairs_with
ordered_pairs_with e nil = nil
ordered_pairs_with e (cons {x = x} {l = l} h o) = cons {x = e ∷ x ∷ []} (λ c i. let r = pairs_with_are e l i in rw r.1 (inr (refl, Lower.next refl (Lower.here (h r.0 r.2))))) (ordered_pairs_with e o)

ordered_pairs : {l : List ℕ} → Ordered ◌<◌ l → Ordered Before (pairs l)
unfolding pairs
ordered_pairs nil = nil
ordered_pairs (cons {x = x} {l = l} h o) = ordered_append (ordered_pairs_with x o) (ordered_pairs o)
    (λ c d i j. let r = pairs_with_are x l i in let s = pairs_are o j in rw (r.1, s.2) (inr (refl, Lower.here (h s.0 s.3))))

-- the sets that `lowest_cut` tries

abbrev tried : Graph → List (List ℕ)
tried g = [] ∷ (singles (edges g) ++ pairs (edges g))

ordered_tried : (g : Graph) → Ordered Before (tried g)
ordered_tried g = cons zero_first (ordered_append (ordered_singles o) (ordered_pairs o) (λ c d i j. let r = singles_are (edges g) i in let s = pairs_are o j in rw (r.1, s.2) (inl (omega arith))))
  where
    o : Ordered ◌<◌ (edges g)
    o = ordered_edges g

    zero_first : (c : List ℕ) → In c (singles (edges g) ++ pairs (edges g)) → Before [] c
    zero_first c i = elim (in-cases (singles (edges g)) i) [
      | inl j ↦ let r = singles_are (edges g) j in rw r.1 (inl (omega arith))
      | inr j ↦ let r = pairs_are o j in rw r.2 (inl (omega arith))
    ]

-- every set of at most two edges is tried
tried_all : (g : Graph) (c : List ℕ) → EdgeSet g c → length c ≤ 2 → In c (tried g)
tried_all g [] s h = first refl
tried_all g (e ∷ []) s h = later (in_left (pairs (edges g)) (singles_in ((edges_are g e).1 (s.members e (first refl)))))
tried_all g (e ∷ (d ∷ [])) s h = later (in_right (singles (edges g))
    (pairs_in (ordered_edges g) ((edges_are g e).1 (s.members e (first refl))) ((edges_are g d).1 (s.members d (later (first refl)))) (before_rest s.ascending d (first refl))))
tried_all g (e ∷ (d ∷ (f ∷ l))) s h = absurd (omega arith)

-- and nothing else
tried_are : (g : Graph) {c : List ℕ} → In c (tried g) → EdgeSet g c × (length c ≤ 2)
tried_are g {c} i = go (in-cons i)
  where
    go : (c ≡ []) ⊎ In c (singles (edges g) ++ pairs (edges g)) → EdgeSet g c × (length c ≤ 2)
    go (inl p) = rw p (record { ascending = nil; members = λ e i. absurd (not_in i) }, omega arith)
    go (inr j) = elim (in-cases (singles (edges g)) j) [
      | inl k ↦ let r = singles_are (edges g) k in rw r.1 (record { ascending = cons (λ y i. absurd (not_in i)) nil; members = λ e i. (edges_are g e).0 (Memᴰ.cast (eq_of_singleton i) r.2) }, omega arith)
      | inr k ↦ let r = pairs_are (ordered_edges g) k in rw r.2 (record { ascending = cons (λ y i. subst (◌<◌ r.0) (sym (eq_of_singleton i)) r.5) (cons (λ y i. absurd (not_in i)) nil); members = λ e i. (edges_are g e).0 (elim (in-cons i) [ inl p ↦ Memᴰ.cast p r.3 | inr j ↦ Memᴰ.cast (eq_of_singleton j) r.4 ]) }, omega arith)
    ]

-- the first of an ordered list that passes a test

first_cons : (f : List ℕ → Bool) (d : List ℕ) (l : List (List ℕ))
    → (T (f d) × (first_of f (d ∷ l) ≡ some d)) ⊎ ((T (f d) → ⊥) × (first_of f (d ∷ l) ≡ first_of f l))
unfolding first_of
first_cons f d l = elim (T-dec (f d)) [ yes t ↦ inl (t, rw (T_true (f d) t)) | no n ↦ inr (n, rw (T_false (f d) n)) ]

some_not_none : {c : List ℕ} → some c ≡ none → ⊥
some_not_none {c} p = let z : ◌≡◌ {A = ℕ} 0 1 = cc in omega arith

first_none : (f : List ℕ → Bool) (l : List (List ℕ)) → first_of f l ≡ none → (c : List ℕ) → In c l → T (f c) → ⊥
first_none f [] p c i t = not_in i
first_none f (d ∷ l) p c i t = elim (first_cons f d l) [
  | inl q ↦ some_not_none (sym q.1 ∙ p)
  | inr q ↦ elim (in-cons i) [ inl r ↦ q.0 (subst (λ (x : List ℕ). T (f x)) r t) | inr j ↦ first_none f l (sym q.1 ∙ p) c j t ]
]

first_some : (f : List ℕ → Bool) (l : List (List ℕ)) (c : List ℕ) → first_of f l ≡ some c → In c l × T (f c)
unfolding first_of
first_some f [] c p = absurd (some_not_none (sym p))
first_some f (d ∷ l) c p = elim (first_cons f d l) [
  | inl q ↦ let r : c ≡ d = cc in (first r, subst (λ (x : List ℕ). T (f x)) (sym r) q.0)
  | inr q ↦ let r = first_some f l c (sym q.1 ∙ p) in (later r.0, r.1)
]

first_lowest : (f : List ℕ → Bool) {l : List (List ℕ)} (c : List ℕ) → Ordered Before l → first_of f l ≡ some c → (d : List ℕ) → In d l → Before d c → T (f d) → ⊥
first_lowest f c nil p d i b t = not_in i
first_lowest f c (cons {x = x} {l = l} h o) p d i b t = elim (first_cons f x l) [
  | inl q ↦ let r : c ≡ x = cc in elim (in-cons i) [
    | inl s ↦ before_not (subst (Before d) (r ∙ sym s) b) (subst (Before d) (r ∙ sym s) b)
    | inr j ↦ before_not (h d j) (subst (Before d) r b)
  ]
  | inr q ↦ elim (in-cons i) [
    | inl s ↦ q.0 (subst (λ (y : List ℕ). T (f y)) s t)
    | inr j ↦ first_lowest f c o (sym q.1 ∙ p) d j b t
  ]
]

-- the lowest cut

pub lowest_cut_lem : {g : Graph} {cut : List ℕ} → lowest_cut g ≡ some cut → LowestCut g cut
unfolding lowest_cut
lowest_cut_lem {g} {cut} p = record {
  cut = record { set = s.0; small = s.1; parts = (disconnects_is g cut).0 r.1 };
  lowest = λ c e b. connected_is g c (first_lowest (disconnects g) cut (ordered_tried g) p c (tried_all g c e (shorter c b)) b);
}
  where
    r : In cut (tried g) × T (disconnects g cut)
    r = first_some (disconnects g) (tried g) cut p

    s : EdgeSet g cut × (length cut ≤ 2)
    s = tried_are g r.0

    shorter : (c : List ℕ) → Before c cut → length c ≤ 2
    shorter c (inl q) = omega (arith, s.1)
    shorter c (inr q) = omega (arith, s.1, q.0)

-- there is at most one
pub lowest_unique : {g : Graph} {c d : List ℕ} → LowestCut g c → LowestCut g d → c ≡ d
lowest_unique {g} {c} {d} p q = elim (before_or c d) [
  | inl b ↦ absurd (p.cut.parts (q.lowest c p.cut.set b))
  | inr r ↦ elim r [ inl e ↦ e | inr b ↦ absurd (q.cut.parts (p.lowest d q.cut.set b)) ]
]

-- the edges among some numbers, as a set
pub record Covering (g : Graph) (cut : List ℕ) : Type 0 where
  pub all : List ℕ
  pub set : EdgeSet g all
  pub size : length all ≤ length cut
  pub has : (e : ℕ) → Edge g e → In e cut → In e all

pub covering : (g : Graph) (cut : List ℕ) → Covering g cut
covering g [] = record { all = []; set = record { ascending = nil; members = λ e i. absurd (not_in i) }; size = omega arith; has = λ e p i. i }
covering g (c ∷ cut) = let s = covering g cut in elim (T-dec (is_edge g c)) [
  | yes t ↦ let r = insert c s.set.ascending in record {
    all = r.all;
    set = record { ascending = r.ascending; members = λ e i. elim (in-cons (r.only e i)) [ inl q ↦ subst (Edge g) (sym q) ((is_edge_lem g c).0 t) | inr j ↦ s.set.members e j ] };
    size = omega (arith, r.size, s.size);
    has = λ e p i. r.has e (elim (in-cons i) [ inl q ↦ first q | inr j ↦ later (s.has e p j) ]);
  }
  | no n ↦ record {
    all = s.all;
    set = s.set;
    size = omega (arith, s.size);
    has = λ e p i. elim (in-cons i) [ inl q ↦ absurd (n ((is_edge_lem g c).1 (subst (Edge g) q p))) | inr j ↦ s.has e p j ];
  }
]

-- where none is found, no two edges disconnect
pub no_cut : {g : Graph} → lowest_cut g ≡ none → (cut : List ℕ) → length cut ≤ 2 → Connected g cut
unfolding lowest_cut
no_cut {g} p cut h = let s = covering g cut in
    connected_less (connected_is g s.all (first_none (disconnects g) (tried g) p s.all (tried_all g s.all s.set (omega (arith, s.size))))) s.has

pub three_edge_connected : {g : Graph} (u v : ℕ) → Vertex g u → Vertex g v → (u ≡ v → ⊥) → (lowest_cut g ≡ none) ↔ ThreeEdgeConnected g
three_edge_connected {g} u v hu hv n = (λ p. record { two = (u, v, hu, hv, n); still = no_cut p }, λ t. go t (lowest_cut g) refl)
  where
    go : ThreeEdgeConnected g → (o : Option (List ℕ)) → lowest_cut g ≡ o → o ≡ none
    go t none p = refl
    go t (some cut) p = let c = lowest_cut_lem p in absurd (c.cut.parts (t.still cut c.cut.small))

-- the lowest cut is found
pub lowest_found : {g : Graph} {cut : List ℕ} → LowestCut g cut → lowest_cut g ≡ some cut
lowest_found {g} {cut} c = go (lowest_cut g) refl
  where
    go : (o : Option (List ℕ)) → lowest_cut g ≡ o → o ≡ some cut
    go none p = absurd (c.cut.parts (no_cut p cut c.cut.small))
    go (some d) p = ap some (lowest_unique (lowest_cut_lem p) c)
