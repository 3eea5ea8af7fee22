-- A search from a vertex that has seen all that is kept, and behind it the excluded vertices, each as a root, are a spanning forest.
use mathlib.Core.Path.{◌≡◌, sym, ap, ◌∙◌, subst}
use mathlib.Core.Logic.{inl, inr}
use mathlib.Core.List.{List, Memᴰ as In}
use Prim.Native.Nat.{ℕ, ◌+◌, ◌-◌, ◌/◌, ◌≤◌, ◌<◌}
use native.Mathlib.Omega.{arith}
use native.Mathlib.Decide.{ℕ_discrete, dec_lt}
use lib.ListN.{length, get_or}
use Rattle.connectivity.specs.Plan.{Plan, graph, Limits}
use Rattle.connectivity.specs.Graph.{Graph, Vertex}
use Rattle.connectivity.specs.Admission.{kept_vertices}
use Rattle.connectivity.proofs.Order.{ordered_index}
use Rattle.connectivity.proofs.Reach.{joins_sym, joins_vertex}
use Rattle.connectivity.proofs.Kept.{vertex_is, vertex_or, admitted_count}
use Rattle.graph.specs.Marks.{read}
use Rattle.graph.proofs.Marking.{in_index, index_in}
use Rattle.incidence.specs.Tables.{Tabled}
use Rattle.depth.specs.Depth.{root_mark, Crossing, Found, Cutting}
use Rattle.depth.specs.Forest.{Rooted, Border, Forest, Appended}
use Rattle.depth.proofs.Above.{no_root}
use Rattle.depth.proofs.Left.{seen_vertex, all_marked, count_most}

module _ {most : Limits} {p : Plan} {incident begins dead cut : List ℕ} {root : ℕ} {first₀ order₀ cursor₀ first₁ order₁ cursor : List ℕ} {count : ℕ} (t : Tabled most p incident begins)
    (few : length p.ends / 2 < root_mark) (f : Found (Crossing p incident begins dead) p.vertices root 0 first₀ order₀ cursor₀ first₁ order₁ cursor count) (c : Cutting p cut (read dead))
    (clear : (v : ℕ) → v < p.vertices → get_or first₀ v 0 ≡ 0) (start : Vertex (graph p) root) (whole : kept_vertices p ≤ count)
    {first order : List ℕ} (a : Appended p.excluded count first₁ order₁ first order) where
  abbrev g : Graph
  g = graph p

  abbrev n : ℕ
  n = p.vertices

  abbrev mark : ℕ → ℕ
  mark = read first

  abbrev at : ℕ → ℕ
  at = read order

  -- as many as there are
  total : count + length p.excluded ≡ n
  total = omega (arith, whole, count_most t f c clear start, admitted_count t.admitted)

  -- a place before `count` has a vertex, with the mark of the search
  pub near_is : (k : ℕ) → k < count → at k ≡ get_or order₁ k 0
  near_is k l = a.before k l

  near : (k : ℕ) → k < count → Vertex g (at k)
  near k l = let i = f.tree.valid k (omega arith) l in subst (Vertex g) (sym (near_is k l)) (seen_vertex t f c clear start (get_or order₁ k 0) i.below i.marked)

  pub vertex_mark : (v : ℕ) → Vertex g v → mark v ≡ get_or first₁ v 0
  vertex_mark v h = a.others v ((vertex_is p v).0 h).1

  near_mark : (k : ℕ) → k < count → mark (at k) ≡ get_or first₁ (get_or order₁ k 0) 0
  near_mark k l = vertex_mark (at k) (near k l) ∙ ap (read first₁) (near_is k l)

  -- one from there on has an excluded vertex
  far_is : (k : ℕ) → count ≤ k → k < n → at k ≡ get_or p.excluded (k - count) 0
  far_is k l h = let q : count + (k - count) ≡ k = omega arith in ap at (sym q) ∙ a.behind (k - count) (omega (arith, total))

  pub far_in : (k : ℕ) → count ≤ k → k < n → In (at k) p.excluded
  far_in k l h = index_in p.excluded (k - count) (omega (arith, total)) (sym (far_is k l h))

  apart : (j k : ℕ) → Vertex g (at j) → In (at k) p.excluded → at j ≡ at k → ⊥
  apart j k h i q = ((vertex_is p (at j)).0 h).1 (subst (λ (x : ℕ). In x p.excluded) (sym q) i)

  listed : (v : ℕ) → v < n → (k : ℕ) × (k < n) × (at k ≡ v)
  listed v l = elim (vertex_or p v l) [
    | inl h ↦ let s = f.tree.listed v (record { below = l; fresh = clear v l; marked = all_marked t f c clear start whole v h }) in
        (s.place, omega (arith, s.high, total), near_is s.place s.high ∙ s.there)
    | inr i ↦ let s = in_index i in (count + s.0, omega (arith, s.1, total), a.behind s.0 s.1 ∙ s.2)
  ]

  once : (j k : ℕ) → j < k → k < n → at j ≡ at k → ⊥
  once j k l h q = elim (dec_lt k count) [
    | yes b ↦ f.tree.once j k (omega arith) l b (sym (near_is j (omega arith)) ∙ q ∙ near_is k b)
    | no b ↦ elim (dec_lt j count) [
      | yes d ↦ apart j k (near j d) (far_in k (omega arith) h) q
      | no d ↦ omega (arith, ordered_index t.admitted.ascending (j - count) (k - count) (omega arith) (omega (arith, total)), far_is j (omega arith) (omega arith), far_is k (omega arith) h, q)
    ]
  ]

  rooted : (k : ℕ) → k < n → Rooted g mark at k
  rooted k l = elim (dec_lt k count) [
    | no b ↦ inl (a.roots (at k) (far_in k (omega arith) l))
    | yes b ↦ elim (ℕ_discrete k 0) [
      | yes z ↦ inl (near_mark k b ∙ ap (λ (x : ℕ). read first₁ (read order₁ x)) z ∙ ap (read first₁) f.tree.top ∙ f.tree.top_mark)
      | no z ↦
          let s = f.tree.hangs k (omega arith) b in
          let j = s.stands.place in
          inr (j, s.stands.high, rw (near_mark k b, near_is k b, near_is j (omega (arith, s.stands.high)), s.stands.there) s.up.by.joins)
    ]
  ]

  border : (k : ℕ) → k < n → mark (at k) ≡ root_mark → Border g at n k
  border k l q e i j x y z w = elim (dec_lt k count) [
    | no b ↦ ((vertex_is p (at j)).0 (joins_vertex (joins_sym w))).1 (far_in j (omega arith) z)
    | yes b ↦ let s = f.tree.hangs k (omega arith) b in no_root f.tree few s.from (get_or order₁ k 0) s.up (sym (near_mark k b) ∙ q)
  ]

  pub appended_forest : Forest g n mark at
  appended_forest = record {
    valid = λ k l. elim (dec_lt k count) [
      | yes b ↦ rw (near_is k b) (f.tree.valid k (omega arith) b).below
      | no b ↦ t.admitted.inside (at k) (far_in k (omega arith) l)
    ];
    listed = listed;
    once = once;
    marked = λ k l z. elim (dec_lt k count) [
      | yes b ↦ (f.tree.valid k (omega arith) b).marked (sym (near_mark k b) ∙ z)
      | no b ↦ omega (arith, a.roots (at k) (far_in k (omega arith) l), z)
    ];
    tree = rooted;
    border = border;
  }
