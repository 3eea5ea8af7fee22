-- What the graph of a plan has: the numbers below the count that are not excluded, and the entries of the table between them. An admitted plan
-- keeps two vertices at least. Without excluded vertices nothing changes.
use mathlib.Core.Path.{◌≡◌, refl, sym, ap, ◌∙◌}
use mathlib.Core.Logic.{◌⊎◌, inl, inr, ◌↔◌}
use mathlib.Core.Bool.{Bool, true, false, not, cond, ◌||◌}
use mathlib.Core.List.Memᴰ.{cases_cons as in-cons}
use mathlib.Core.List.Memᴰ.{head as first}
use mathlib.Core.List.Memᴰ.{not-nil as not_in}
use mathlib.Core.List.Memᴰ.{tail as later}
use mathlib.Core.List.{List, [], ◌∷◌, Memᴰ as In}
use Prim.Native.Nat.{ℕ, ◌+◌, ◌*◌, ◌/◌, ◌%◌, ◌≤◌, ◌<◌}
use native.Mathlib.Omega.{arith}
use lib.Dec.{T, T_not, not_T, eqb, ltb}
use lib.ListN.{length, get_or}
use borrow.Author.Tests.{ltb-false}
use Rattle.connectivity.specs.Lists.{Ordered, nil, range, keep, mem}
use Rattle.connectivity.specs.Graph.{Vertex, Edge, is_vertex, is_edge, vertices, edges}
use Rattle.connectivity.specs.Plan.{Plan, entire, graph, Limits}
use Rattle.connectivity.specs.Admission.{answer, passed, and_then, kept_vertices, Admitted, ends_answer, excluded_answer, kept_answer, admission}
use Rattle.connectivity.proofs.Lists.{T_true, in_dec, not_mem, keep_is, keep-length, range_is, length-range}
use Rattle.connectivity.proofs.Search.{is_vertex_lem, is_edge_lem, vertices_are}
use Rattle.connectivity.proofs.Order.{before_rest, ordered_same, ordered_range, ordered_keep, ordered_vertices}
use Rattle.connectivity.proofs.CutOff.{Lowest}
use Rattle.connectivity.proofs.Admission.{Rising, passed_then, kept_two, ends_told, then_passed}

module _ (p : Plan) where
  -- a vertex is a number below the count that is not excluded
  pub vertex_is : (v : ℕ) → Vertex (graph p) v ↔ ((v < p.vertices) × (In v p.excluded → ⊥))
  unfolding graph
  vertex_is v = (λ h. (h.below, (not_mem v p.excluded).0 h.kept), λ h. record { below = h.0; kept = (not_mem v p.excluded).1 h.1 })

  pub vertex_size : {v : ℕ} → Vertex (graph p) v → v < p.vertices
  vertex_size {v} h = ((vertex_is v).0 h).0

  pub vertex_or : (v : ℕ) → v < p.vertices → Vertex (graph p) v ⊎ In v p.excluded
  vertex_or v h = elim (in_dec v p.excluded) [ yes i ↦ inr i | no n ↦ inl ((vertex_is v).1 (h, n)) ]

  -- an edge is an entry of the table, and both its ends are vertices
  pub edge_size_lem : {e : ℕ} → Edge (graph p) e → e < length p.ends / 2
  unfolding graph
  edge_size_lem k = k.below

  pub edge_is : (e : ℕ) → Edge (graph p) e ↔ ((e < length p.ends / 2) × Vertex (graph p) (get_or p.ends (2 * e) 0) × Vertex (graph p) (get_or p.ends (2 * e + 1) 0))
  unfolding graph
  edge_is e = (λ k. (k.below, k.left, k.right), λ k. record { below = k.0; left = k.1; right = k.2 })

  pub bound_is : (graph p).bound ≡ p.vertices
  unfolding graph
  bound_is = refl

-- The vertices that are kept.

module _ (p : Plan) (r : Rising p.vertices 0 p.excluded) where
  -- kept and excluded make up all
  dropped : keep (λ v. not (is_vertex (graph p) v)) (range 0 p.vertices) ≡ p.excluded
  dropped = ordered_same _ p.excluded (ordered_keep (λ v. not (is_vertex (graph p) v)) (ordered_range 0 p.vertices)) r.ascending to from
    where
      to : (v : ℕ) → In v (keep (λ v. not (is_vertex (graph p) v)) (range 0 p.vertices)) → In v p.excluded
      to v i =
          let k = (keep_is (λ v. not (is_vertex (graph p) v)) v (range 0 p.vertices)).0 i in
          elim (vertex_or p v (omega (arith, ((range_is v 0 p.vertices).0 k.0).1))) [
            | inl h ↦ absurd (T_not (is_vertex (graph p) v) k.1 ((is_vertex_lem (graph p) v).1 h))
            | inr j ↦ j
          ]

      from : (v : ℕ) → In v p.excluded → In v (keep (λ v. not (is_vertex (graph p) v)) (range 0 p.vertices))
      from v i = (keep_is (λ v. not (is_vertex (graph p) v)) v (range 0 p.vertices)).1 (
        (range_is v 0 p.vertices).1 (omega arith, omega (arith, r.inside v i)),
        not_T (is_vertex (graph p) v) (λ t. ((vertex_is p v).0 ((is_vertex_lem (graph p) v).0 t)).1 i),
      )

  pub kept_count : kept_vertices p + length p.excluded ≡ p.vertices
  unfolding vertices
  kept_count = ap (λ (l : List ℕ). kept_vertices p + length l) (sym dropped) ∙ ap (λ (n : ℕ). length (keep (is_vertex (graph p)) (range 0 n)) + length (keep (λ v. not (is_vertex (graph p) v)) (range 0 p.vertices))) (bound_is p)
      ∙ keep-length (is_vertex (graph p)) (range 0 p.vertices) ∙ length-range 0 p.vertices

module _ {most : Limits} {p : Plan} (a : Admitted most p) where
  pub admitted_count : kept_vertices p + length p.excluded ≡ p.vertices
  admitted_count = kept_count p (record { inside = a.inside; least = λ v i. omega arith; ascending = a.ascending })

  -- the lowest vertex, and another one
  pub record Two : Type 0 where
    pub low : ℕ
    pub other : ℕ
    pub lowest : Lowest (graph p) low
    pub vertex : Vertex (graph p) other
    pub above : low < other

  pub two_kept : Two
  two_kept = go (vertices (graph p)) (ordered_vertices (graph p)) (vertices_are (graph p)) a.remain
    where
      go : (l : List ℕ) → Ordered ◌<◌ l → ((v : ℕ) → In v l ↔ Vertex (graph p) v) → 2 ≤ length l → Two
      go [] o f h = absurd (omega arith)
      go (u ∷ []) o f h = absurd (omega arith)
      go (u ∷ (v ∷ l)) o f h = record {
        low = u;
        other = v;
        lowest = record { vertex = (f u).0 (first refl); least = λ w k. elim (in-cons ((f w).1 k)) [ inl q ↦ omega (arith, q) | inr i ↦ omega (arith, before_rest o w i) ] };
        vertex = (f v).0 (later (first refl));
        above = before_rest o v (first refl);
      }

-- Without excluded vertices.

module _ (n : ℕ) (ends : List ℕ) where
  -- everything is kept
  pub entire-graph : graph (entire n ends)
      ≡ record { bound = n; kept = λ v. true; size = length ends / 2; left = λ e. get_or ends (2 * e) 0; right = λ e. get_or ends (2 * e + 1) 0 }
  unfolding graph mem
  entire-graph = refl

  pub entire_vertex : (v : ℕ) → v < n → Vertex (graph (entire n ends)) v
  entire_vertex v h = (vertex_is (entire n ends) v).1 (h, λ i. not_in i)

  keep_all : (f : ℕ → Bool) (l : List ℕ) → ((x : ℕ) → In x l → T (f x)) → keep f l ≡ l
  unfolding keep
  keep_all f [] h = refl
  keep_all f (x ∷ l) h = rw (T_true (f x) (h x (first refl))) (ap (λ (m : List ℕ). x ∷ m) (keep_all f l (λ y i. h y (later i))))

  pub entire-vertices : vertices (graph (entire n ends)) ≡ range 0 n
  unfolding vertices
  entire-vertices = ap (λ (b : ℕ). keep (is_vertex (graph (entire n ends))) (range 0 b)) (bound_is (entire n ends))
      ∙ keep_all (is_vertex (graph (entire n ends))) (range 0 n) (λ v i. (is_vertex_lem (graph (entire n ends)) v).1 (entire_vertex v (omega (arith, ((range_is v 0 n).0 i).1))))

  entire_rest : 2 ≤ n → and_then (ends_answer n 0 ends) (and_then (excluded_answer n 0 0 []) (kept_answer (entire n ends))) ≡ ends_answer n 0 ends
  unfolding excluded_answer
  entire_rest h = ap (and_then (ends_answer n 0 ends)) (passed_then passed _ refl ∙ (kept_two (entire n ends)).1 (omega (arith, h, ap length entire-vertices, length-range 0 n)))
      ∙ then_passed (ends_told n 0 ends)

  -- and the plan's own refusals are 1 to 5
  pub entire-admission : (most : Limits) → admission most (entire n ends)
      ≡ cond (eqb (length ends % 2) 0)
      (cond (ltb n 2 || ltb most.vertices n) (answer 2 0) (cond (ltb most.edges (length ends / 2)) (answer 3 0) (ends_answer n 0 ends)))
      (answer 1 0)
  unfolding admission
  entire-admission most = go (ltb n 2) refl
    where
      go : (b : Bool) → ltb n 2 ≡ b
          → cond (eqb (length ends % 2) 0) (cond (b || ltb most.vertices n) (answer 2 0) (cond (ltb most.edges (length ends / 2)) (answer 3 0)
          (and_then (ends_answer n 0 ends) (and_then (excluded_answer n 0 0 []) (kept_answer (entire n ends)))))) (answer 1 0)
          ≡ cond (eqb (length ends % 2) 0) (cond (b || ltb most.vertices n) (answer 2 0) (cond (ltb most.edges (length ends / 2)) (answer 3 0) (ends_answer n 0 ends))) (answer 1 0)
      go true q = refl
      go false q = rw (entire_rest (ltb-false n 2 q))

module _ {most : Limits} {p : Plan} (a : Admitted most p) where
  -- a plan is admitted without its excluded vertices, too
  pub admitted_entire : Admitted most (entire p.vertices p.ends)
  admitted_entire = record {
    even = a.even;
    two = a.two;
    vertices = a.vertices;
    edges = a.edges;
    fit = λ e h. let f = a.fit e h in record { left = f.left; right = f.right; different = f.different };
    inside = λ v i. absurd (not_in i);
    ascending = nil;
    remain = omega (arith, a.two, ap length (entire-vertices p.vertices p.ends), length-range 0 p.vertices);
  }

module _ {most : Limits} {n : ℕ} {ends : List ℕ} (a : Admitted most (entire n ends)) where
  pub entire_edge : (e : ℕ) → e < length ends / 2 → Edge (graph (entire n ends)) e
  entire_edge e h = (edge_is (entire n ends) e).1 (h, entire_vertex n ends _ (a.fit e h).left, entire_vertex n ends _ (a.fit e h).right)

  pub entire-edges : edges (graph (entire n ends)) ≡ range 0 (length ends / 2)
  unfolding edges graph
  entire-edges = keep_all n ends (is_edge (graph (entire n ends))) (range 0 (length ends / 2))
      (λ e i. (is_edge_lem (graph (entire n ends)) e).1 (entire_edge e (omega (arith, ((range_is e 0 (length ends / 2)).0 i).1))))
