-- Excluded vertices: how many are kept, 18 from one to the next, the first gap, and the marks of the edges that end there: of an admitted plan, an
-- edge is kept exactly where it has no mark, and the first gap is the lowest vertex.
use mathlib.Core.Path.{◌≡◌, refl, sym, ap, ◌∙◌, subst}
use mathlib.Core.Logic.{inl, inr, ◌↔◌}
use mathlib.Core.Bool.{Bool, true, false, cond, ◌&&◌, ◌||◌}
use mathlib.Core.List.Memᴰ.{cases_cons as in-cons}
use mathlib.Core.List.Memᴰ.{head as first}
use mathlib.Core.List.Memᴰ.{not-nil as not_in}
use mathlib.Core.List.Memᴰ.{tail as later}
use mathlib.Core.List.{List, [], ◌∷◌, Memᴰ as In}
use Prim.Native.Nat.{ℕ, suc, ◌+◌, ◌*◌, ◌/◌, ◌≤◌, ◌<◌}
use native.Mathlib.Omega.{arith}
use native.Mathlib.Decide.{ℕ_discrete, dec_lt}
use lib.Dec.{T, eqb, ltb, leb, lt→ltb}
use lib.ListN.{length, get_or, set, drop, length-set, get_or-eq_default}
use lib.Seq.{drop-cons, get_or-set_same, get_or-set_other}
use borrow.Author.Tests.{eq-eqb, ne_eqb, eqb-true, eqb-false, lt-ltb, le-ltb, le-leb, lt-leb}
use Rattle.std.specs.List.{list_any}
use Rattle.connectivity.specs.Lists.{Ordered, keep, range, mem}
use Rattle.connectivity.specs.Graph.{Vertex, Edge, is_vertex, is_edge, vertices, edges}
use Rattle.connectivity.specs.Plan.{Plan, graph, Limits}
use Rattle.connectivity.specs.Admission.{answer, kept_vertices, kept_edges, Admitted, excluded_answer}
use Rattle.connectivity.proofs.Lists.{and_both, both_and, or_one, or_left, or_right, T-dec, T_true, T_false, true-T, false-T, in_mem, mem_in, in_dec}
use Rattle.connectivity.proofs.Search.{is_edge_lem}
use Rattle.connectivity.proofs.Order.{before_rest, after_first}
use Rattle.connectivity.proofs.CutOff.{Lowest}
use Rattle.connectivity.proofs.Kept.{bound_is, vertex_is, edge_is, edge_size_lem, two_kept}
use Rattle.graph.specs.Marks.{rank}
use Rattle.graph.specs.Excluded.{first_gap, is_barred, is_covered, is_marked, is_open, Masked, MarkedAll, Barring}
use Rattle.graph.proofs.Rank.{keep-length, rank_most, rank_same}

-- How many vertices and edges are kept.

module _ (p : Plan) where
  pub kept_rank : rank (is_vertex (graph p)) p.vertices ≡ kept_vertices p
  unfolding vertices
  kept_rank = sym (ap (λ (n : ℕ). length (keep (is_vertex (graph p)) (range 0 n))) (bound_is p) ∙ keep-length (is_vertex (graph p)) p.vertices)

  edges-rank : rank (is_edge (graph p)) (length p.ends / 2) ≡ kept_edges p
  unfolding edges graph
  edges-rank = sym (keep-length (is_edge (graph p)) (length p.ends / 2))

  -- not more edges than the table has entries
  pub edges_few : kept_edges p ≤ length p.ends / 2
  edges_few = omega (arith, edges-rank, rank_most (is_edge (graph p)) (length p.ends / 2))

-- 18, from one to the next
module _ (n k low : ℕ) (list : List ℕ) (h : k < length list) where
  abbrev here : ℕ
  here = get_or list k 0

  excluded_step : excluded_answer n k low (drop k list) ≡ cond (leb low here && ltb here n) (excluded_answer n (suc k) (suc here) (drop (suc k) list)) (answer 18 k)
  unfolding excluded_answer
  excluded_step = rw (drop-cons list k 0 h)

  pub excluded_next : low ≤ here → here < n → excluded_answer n k low (drop k list) ≡ excluded_answer n (k + 1) (here + 1) (drop (k + 1) list)
  excluded_next l m =
      let p : suc k ≡ k + 1 = omega arith in
      let q : suc here ≡ here + 1 = omega arith in
      excluded_step ∙ rw (le-leb low here l, lt-ltb here n m, p, q)

  pub excluded_low : here < low → excluded_answer n k low (drop k list) ≡ answer 18 k
  excluded_low l = excluded_step ∙ rw (lt-leb low here l)

  pub excluded_high : n ≤ here → excluded_answer n k low (drop k list) ≡ answer 18 k
  excluded_high l = excluded_step ∙ go (leb low here)
    where
      go : (t : Bool) → cond (t && ltb here n) (excluded_answer n (suc k) (suc here) (drop (suc k) list)) (answer 18 k) ≡ answer 18 k
      go true = rw (le-ltb here n l)
      go false = refl

pub excluded_over : (n k low : ℕ) (rest : List ℕ) → length rest ≡ 0 → excluded_answer n k low rest ≡ answer 0 0
unfolding excluded_answer
excluded_over n k low [] h = refl
excluded_over n k low (v ∷ rest) h = absurd (omega arith)

-- the first gap, from one to the next
module _ (k : ℕ) (list : List ℕ) (h : k < length list) where
  gap_step : first_gap k (drop k list) ≡ cond (eqb (get_or list k 0) k) (first_gap (suc k) (drop (suc k) list)) k
  unfolding first_gap
  gap_step = rw (drop-cons list k 0 h)

  pub gap_next : get_or list k 0 ≡ k → first_gap k (drop k list) ≡ first_gap (k + 1) (drop (k + 1) list)
  gap_next q = let p : suc k ≡ k + 1 = omega arith in gap_step ∙ rw (eq-eqb (get_or list k 0) k q, p)

  pub gap_here : (get_or list k 0 ≡ k → ⊥) → first_gap k (drop k list) ≡ k
  gap_here n = gap_step ∙ rw (ne_eqb (get_or list k 0) k n)

pub gap_over : (k : ℕ) (rest : List ℕ) → length rest ≡ 0 → first_gap k rest ≡ k
unfolding first_gap
gap_over k [] h = refl
gap_over k (v ∷ rest) h = absurd (omega arith)

-- what is below the gap of an ascending list stands in it, and the gap does not
gap_full : (k : ℕ) (list : List ℕ) (v : ℕ) → k ≤ v → v < first_gap k list → In v list
unfolding first_gap
gap_full k [] v l h = absurd (omega arith)
gap_full k (x ∷ list) v l h = go (eqb x k) refl h (gap_full (suc k) list v)
  where
    go : (t : Bool) → eqb x k ≡ t → v < cond t (first_gap (suc k) list) k → (suc k ≤ v → v < first_gap (suc k) list → In v list) → In v (x ∷ list)
    go false q h f = absurd (omega arith)
    go true q h f = let same = eqb-true x k q in
        elim (ℕ_discrete v k) [ yes e ↦ first (e ∙ sym same) | no n ↦ later (f (omega arith) h) ]

gap_least : (k : ℕ) (list : List ℕ) → k ≤ first_gap k list
unfolding first_gap
gap_least k [] = omega arith
gap_least k (x ∷ list) = go (eqb x k) (gap_least (suc k) list)
  where
    go : (t : Bool) → suc k ≤ first_gap (suc k) list → k ≤ cond t (first_gap (suc k) list) k
    go true h = omega arith
    go false h = omega arith

gap_out : (k : ℕ) (list : List ℕ) → Ordered ◌<◌ list → ((v : ℕ) → In v list → k ≤ v) → In (first_gap k list) list → ⊥
unfolding first_gap
gap_out k [] o f i = not_in i
gap_out k (x ∷ list) o f i = go (eqb x k) refl i (gap_out (suc k) list (after_first o))
  where
    go : (t : Bool) → eqb x k ≡ t → In (cond t (first_gap (suc k) list) k) (x ∷ list) → (((v : ℕ) → In v list → suc k ≤ v) → In (first_gap (suc k) list) list → ⊥) → ⊥
    go true q i g = elim (in-cons i) [
      | inl p ↦ omega (arith, p, eqb-true x k q, gap_least (suc k) list)
      | inr j ↦ g (λ v m. omega (arith, eqb-true x k q, before_rest o v m)) j
    ]
    go false q i g = elim (in-cons i) [
      | inl p ↦ eqb-false x k q (sym p)
      | inr j ↦ omega (arith, f x (first refl), before_rest o k j)
    ]

module _ {most : Limits} {p : Plan} (a : Admitted most p) where
  -- it is the lowest vertex
  pub lowest_is : Lowest (graph p) (first_gap 0 p.excluded)
  lowest_is =
      let t = two_kept a in
      let out : first_gap 0 p.excluded ≤ t.low = elim (dec_lt t.low (first_gap 0 p.excluded)) [
        | yes l ↦ absurd (((vertex_is p t.low).0 t.lowest.vertex).1 (gap_full 0 p.excluded t.low (omega arith) l))
        | no h ↦ omega (arith, h)
      ] in
      record {
        vertex = (vertex_is p _).1 (omega (arith, out, ((vertex_is p t.low).0 t.lowest.vertex).0), gap_out 0 p.excluded a.ascending (λ v i. omega arith));
        least = λ v h. omega (arith, out, t.lowest.least v h);
      }

eqb-sym : (a b : ℕ) → eqb a b ≡ eqb b a
eqb-sym a b = elim (ℕ_discrete a b) [ yes q ↦ eq-eqb a b q ∙ sym (eq-eqb b a (sym q)) | no n ↦ ne_eqb a b n ∙ sym (ne_eqb b a (λ (q : b ≡ a). n (sym q))) ]

-- the library's test of a list
pub mem-any : (v : ℕ) (list : List ℕ) → list_any (λ y. eqb y v) list ≡ mem v list
unfolding mem
mem-any v [] = refl
mem-any v (x ∷ rest) = rw (eqb-sym x v) (ap (λ (t : Bool). eqb v x || t) (mem-any v rest))

-- The marks of the edges.

module _ (most : Limits) (excluded : List ℕ) where
  barred_none : (v : ℕ) → is_barred most [] v ≡ false
  unfolding is_barred mem
  barred_none v = go (ltb v most.vertices)
    where
      go : (t : Bool) → (t && false) ≡ false
      go true = refl
      go false = refl

  covered_none : (ends : List ℕ) (e : ℕ) → is_covered most ends [] e ≡ false
  unfolding is_covered
  covered_none ends e = rw (barred_none (get_or ends (2 * e) 0), barred_none (get_or ends (2 * e + 1) 0))

  pub barring : {marks₀ marks : List ℕ} → length marks₀ ≡ most.vertices → ((k : ℕ) → get_or marks₀ k 0 ≡ 0) → MarkedAll excluded marks₀ marks → Barring most excluded marks
  unfolding is_barred
  barring {marks₀} {marks} long zero m v = elim (dec_lt v most.vertices) [
    | no h ↦ rw (le-ltb v most.vertices (omega (arith, h)), get_or-eq_default marks 0 {n = v} (omega (arith, h, m.long)))
    | yes l ↦ rw (lt-ltb v most.vertices l) (elim (in_dec v excluded) [
      | yes i ↦ rw (T_true (mem v excluded) (in_mem i), m.named v (omega arith) i)
      | no n ↦ rw (T_false (mem v excluded) (λ t. n (mem_in v excluded t)), m.other v n ∙ zero v)
    ])
  ]

pub mask_none : (most : Limits) (ends excluded dead : List ℕ) → length excluded ≡ 0 → Masked most ends excluded dead dead
mask_none most ends [] dead h = record {
  long = refl;
  covered = λ e l m t. absurd (false-T (covered_none most [] ends e) t);
  spared = λ e n. refl;
  behind = λ e l. refl;
}
mask_none most ends (v ∷ excluded) dead h = absurd (omega arith)

-- after the first e edges
pub record Covering (most : Limits) (ends excluded dead₀ dead : List ℕ) (e : ℕ) : Type 0 where
  pub long : length dead ≡ length dead₀
  pub covered : (d : ℕ) → d < e → d < length dead₀ → T (is_covered most ends excluded d) → get_or dead d 0 ≡ 1
  pub spared : (d : ℕ) → (T (is_covered most ends excluded d) → ⊥) → get_or dead d 0 ≡ get_or dead₀ d 0
  pub behind : (d : ℕ) → e ≤ d → get_or dead d 0 ≡ get_or dead₀ d 0

module _ {most : Limits} {ends excluded : List ℕ} where
  pub covering_start : (dead : List ℕ) → Covering most ends excluded dead dead 0
  covering_start dead = record { long = refl; covered = λ d l. absurd (omega arith); spared = λ d n. refl; behind = λ d l. refl }

  module _ (barred : List ℕ) {dead₀ dead : List ℕ} {e : ℕ} (b : Barring most excluded barred) (c : Covering most ends excluded dead₀ dead e) where
    covered_is : is_covered most ends excluded e ≡ (is_marked barred (get_or ends (2 * e) 0) || is_marked barred (get_or ends (2 * e + 1) 0))
    unfolding is_covered
    covered_is = rw (b (get_or ends (2 * e) 0), b (get_or ends (2 * e + 1) 0))

    pub covering_step : Covering most ends excluded dead₀ (cond (is_marked barred (get_or ends (2 * e) 0) || is_marked barred (get_or ends (2 * e + 1) 0)) (set dead e 1) dead) (e + 1)
    covering_step = subst (λ (t : Bool). Covering most ends excluded dead₀ (cond t (set dead e 1) dead) (e + 1)) covered_is (go (is_covered most ends excluded e) refl)
      where
        go : (t : Bool) → is_covered most ends excluded e ≡ t → Covering most ends excluded dead₀ (cond t (set dead e 1) dead) (e + 1)
        go true q = record {
          long = length-set dead e 1 ∙ c.long;
          covered = λ d l m t. elim (ℕ_discrete d e) [
            | yes s ↦ rw s (get_or-set_same dead e 1 0 (omega (arith, s, m, c.long)))
            | no n ↦ get_or-set_other dead e d 1 0 n ∙ c.covered d (omega arith) m t
          ];
          spared = λ d n. get_or-set_other dead e d 1 0 (λ s. n (rw s (true-T q))) ∙ c.spared d n;
          behind = λ d l. get_or-set_other dead e d 1 0 (λ s. omega arith) ∙ c.behind d (omega arith);
        }
        go false q = record {
          long = c.long;
          covered = λ d l m t. elim (ℕ_discrete d e) [ yes s ↦ absurd (false-T q (subst (λ (x : ℕ). T (is_covered most ends excluded x)) s t)) | no n ↦ c.covered d (omega arith) m t ];
          spared = c.spared;
          behind = λ d l. c.behind d (omega arith);
        }

  pub covering_end : {dead₀ dead : List ℕ} {e : ℕ} → e ≡ length ends / 2 → Covering most ends excluded dead₀ dead e → Masked most ends excluded dead₀ dead
  covering_end q c = record { long = c.long; covered = λ d l m t. c.covered d (omega arith) m t; spared = c.spared; behind = λ d l. c.behind d (omega arith) }

-- of an admitted plan an edge is kept exactly where it has no mark
module _ {most : Limits} {p : Plan} (a : Admitted most p) where
  barred_is : (v : ℕ) → v < p.vertices → T (is_barred most p.excluded v) ↔ In v p.excluded
  unfolding is_barred
  barred_is v l = (
    λ t. mem_in v p.excluded (and_both (ltb v most.vertices) (mem v p.excluded) t).1,
    λ i. both_and (ltb v most.vertices) (mem v p.excluded) (lt→ltb v most.vertices (omega (arith, a.vertices))) (in_mem i),
  )

  open_vertex : (v : ℕ) → v < p.vertices → (T (is_barred most p.excluded v) → ⊥) → Vertex (graph p) v
  open_vertex v l n = (vertex_is p v).1 (l, λ i. n ((barred_is v l).1 i))

  pub open_edge : (e : ℕ) → e < length p.ends / 2 → (T (is_covered most p.ends p.excluded e) → ⊥) ↔ Edge (graph p) e
  unfolding is_covered
  open_edge e l =
      let f = a.fit e l in
      let x = get_or p.ends (2 * e) 0 in
      let y = get_or p.ends (2 * e + 1) 0 in (
        λ n. (edge_is p e).1 (
          l,
          open_vertex x f.left (λ t. n (or_left (is_barred most p.excluded x) (is_barred most p.excluded y) t)),
          open_vertex y f.right (λ t. n (or_right (is_barred most p.excluded x) (is_barred most p.excluded y) t)),
        ),
        λ k t. let d = (edge_is p e).0 k in
            elim (or_one (is_barred most p.excluded x) (is_barred most p.excluded y) t) [
              | inl u ↦ ((vertex_is p x).0 d.1).1 ((barred_is x f.left).0 u)
              | inr u ↦ ((vertex_is p y).0 d.2).1 ((barred_is y f.right).0 u)
            ],
      )

  module _ {dead₀ dead : List ℕ} (m : Masked most p.ends p.excluded dead₀ dead) where
    pub masked_out : (e : ℕ) → e < length p.ends / 2 → e < length dead₀ → (Edge (graph p) e → ⊥) → get_or dead e 0 ≡ 1
    masked_out e l h n = elim (T-dec (is_covered most p.ends p.excluded e)) [ yes t ↦ m.covered e l h t | no k ↦ absurd (n ((open_edge e l).0 k)) ]

    pub masked_in : (e : ℕ) → Edge (graph p) e → get_or dead e 0 ≡ get_or dead₀ e 0
    masked_in e k = m.spared e ((open_edge e (edge_size_lem p k)).1 k)

    -- where nothing was marked before
    module _ (long : length p.ends / 2 ≤ length dead₀) (zero : (e : ℕ) → get_or dead₀ e 0 ≡ 0) where
      pub masked_edge : (e : ℕ) → e < length p.ends / 2 → (get_or dead e 0 ≡ 0) ↔ Edge (graph p) e
      masked_edge e l = (
        λ z. elim (T-dec (is_edge (graph p) e)) [ yes t ↦ (is_edge_lem (graph p) e).0 t | no n ↦ absurd (omega (arith, z, masked_out e l (omega arith) (λ k. n ((is_edge_lem (graph p) e).1 k)))) ],
        λ k. masked_in e k ∙ zero e,
      )

      pub open_is : (e : ℕ) → e < length p.ends / 2 → is_open dead e ≡ is_edge (graph p) e
      open_is e l = elim (T-dec (is_edge (graph p) e)) [
        | yes t ↦ rw (T_true (is_edge (graph p) e) t, (masked_edge e l).1 ((is_edge_lem (graph p) e).0 t))
        | no n ↦ rw (T_false (is_edge (graph p) e) n, masked_out e l (omega arith) (λ k. n ((is_edge_lem (graph p) e).1 k)))
      ]

      pub kept_edges_lem : rank (is_open dead) (length p.ends / 2) ≡ kept_edges p
      kept_edges_lem = rank_same (is_open dead) (is_edge (graph p)) (length p.ends / 2) open_is ∙ edges-rank p
