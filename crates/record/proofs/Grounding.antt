-- What a search of a 3-edge-connected plan that has seen all that is kept leaves, with the excluded vertices behind it: each number once in the
-- order, and, by the numbers along it, a depth-first tree.
use Rattle.std.proofs.Common.{◌≡◌, ℕ, ◌-◌, ◌/◌, ◌<◌, ◌≤◌, List, [], length, sym, refl, ap, ◌∙◌, subst, inl, inr, arith}
use mathlib.Core.List.Memᴰ.{not-nil as not_in}
use mathlib.Core.List.{Memᴰ as In}
use native.Mathlib.Decide.{ℕ_discrete, dec_lt}
use Rattle.connectivity.specs.Plan.{Plan, graph, Limits}
use Rattle.connectivity.specs.Graph.{Graph, Vertex, Joins}
use Rattle.connectivity.specs.Reach.{ThreeEdgeConnected}
use Rattle.connectivity.specs.Admission.{kept_vertices, Admitted}
use Rattle.connectivity.proofs.Reach.{joins_sym, joins_vertex}
use Rattle.connectivity.proofs.Legs.{far_is}
use Rattle.connectivity.proofs.Kept.{vertex_is, vertex_size}
use Rattle.graph.specs.Marks.{read}
use Rattle.incidence.specs.Tables.{Tabled}
use Rattle.depth.specs.Depth as d
use Rattle.depth.specs.Depth.{root_mark, Crossing, EnteredBy, Up, Found, Cutting}
use Rattle.depth.specs.Forest.{Forest, Appended}
use Rattle.depth.proofs.Left.{seen_vertex, all_marked, count_most}
use Rattle.depth.proofs.Above.{between, edge_above, no_root}
use Rattle.depth.proofs.Appending.{near_is, vertex_mark, appended_forest}
use Rattle.tree.specs.Tree as t
use Rattle.tree.specs.Tree.{Pointers, Child, Tree}
use Rattle.numbers.specs.Standing.{Rooted, Ordering, Numbered, Listed, Together, DepthFirst, tree_of}

module _ {most : Limits} (room : most.edges < root_mark) {p : Plan} {incident begins dead : List ℕ} {root : ℕ} {first₀ order₀ cursor₀ first₁ order₁ cursor : List ℕ} {count : ℕ}
    (tabled : Tabled most p incident begins) (three : ThreeEdgeConnected (graph p)) (cutting : Cutting p [] (read dead))
    (clear : (v : ℕ) → v < p.vertices → read first₀ v ≡ 0) (start : Vertex (graph p) root)
    (f : Found (Crossing p incident begins dead) p.vertices root 0 first₀ order₀ cursor₀ first₁ order₁ cursor count) (whole : kept_vertices p ≤ count)
    {first order : List ℕ} (behind : Appended p.excluded count first₁ order₁ first order) where
  abbrev g : Graph
  g = graph p

  abbrev n : ℕ
  n = p.vertices

  abbrev a : Admitted most p
  a = tabled.admitted

  abbrev up : ℕ → ℕ → Type 0
  up = Up (Crossing p incident begins dead) n (read first₀) (read first₁)

  few : length p.ends / 2 < root_mark
  few = omega (arith, a.edges, room)

  -- All vertices are entered, and the others stand behind them.

  entered : (v : ℕ) → Vertex g v → EnteredBy n first₀ first₁ v
  entered v h = let l = vertex_size p h in record { below = l; fresh = clear v l; marked = all_marked tabled f cutting clear start whole v h }

  count_is : count ≡ kept_vertices p
  count_is = omega (arith, whole, count_most tabled f cutting clear start)

  some : 0 < count
  some = f.tree.some

  forest : Forest g n (read first) (read order)
  forest = appended_forest tabled few f cutting clear start whole behind

  at_is : (k : ℕ) → k < count → read order k ≡ read order₁ k
  at_is k l = near_is tabled few f cutting clear start whole behind k l

  mark_is : (v : ℕ) → Vertex g v → read first v ≡ read first₁ v
  mark_is v h = vertex_mark tabled few f cutting clear start whole behind v h

  at_vertex : (k : ℕ) → k < count → Vertex g (read order k)
  at_vertex k l = let i = f.tree.valid k (omega arith) l in subst (Vertex g) (sym (at_is k l)) (seen_vertex tabled f cutting clear start (read order₁ k) i.below i.marked)

  root_is : read order 0 ≡ root
  root_is = at_is 0 some ∙ f.tree.top

  root_mark_lem : read first (read order 0) ≡ root_mark
  root_mark_lem = mark_is (read order 0) (at_vertex 0 some) ∙ ap (read first₁) root_is ∙ f.tree.top_mark

  pub ordering : Ordering n order
  ordering = record { valid = forest.valid; once = forest.once }

  module _ {number : List ℕ} (numbered : Numbered n order number) where
    abbrev tree : Pointers
    tree = tree_of p (read order 0) first (read number)

    -- The number of each is its place.

    number_of : (v k : ℕ) → k < n → read order k ≡ v → read number v ≡ k
    number_of v k l q = subst (λ (x : ℕ). read number x ≡ k) q (numbered.numbers k l)

    -- that of a vertex
    place_of : (v : ℕ) → Vertex g v → (k : ℕ) × (k < count) × (read order k ≡ v) × (read number v ≡ k)
    place_of v h =
        let s = f.tree.listed v (entered v h) in
        let q : read order s.place ≡ v = at_is s.place s.high ∙ s.there in
        (s.place, s.high, q, number_of v s.place (omega (arith, s.high, f.room)) q)

    fallen : (v : ℕ) → In v p.excluded → kept_vertices p ≤ read number v
    fallen v i =
        let (k, l, q) = forest.listed v (a.inside v i) in
        elim (dec_lt k count) [
          | yes h ↦ absurd (((vertex_is p v).0 (subst (Vertex g) q (at_vertex k h))).1 i)
          | no h ↦ omega (arith, h, count_is, number_of v k l q)
        ]

    listing : n ≤ length order → n ≤ length number → Listed p (read order 0) order number
    listing x y = record {
      at = λ k l. (forest.valid k l, numbered.numbers k l);
      placed = λ v l. let (k, h, q) = forest.listed v l in let r = number_of v k h q in (omega (arith, h, r), ap (read order) r ∙ q);
      kept = λ v h. let s = place_of v h in omega (arith, s.1, s.3, count_is);
      fallen = fallen;
      top = refl;
      order_long = x;
      number_long = y;
    }

    -- First edges lead up.

    -- every vertex but the root was entered from one before it
    rise : (v : ℕ) → Child g tree v → (w : ℕ) × up w v × (read number w < read number v)
    rise v c =
        let s = place_of v c.vertex in
        elim (ℕ_discrete s.0 0) [
          | yes q ↦ absurd (c.other (sym s.2 ∙ ap (read order) q))
          | no ne ↦
              let h = f.tree.hangs s.0 (omega arith) s.1 in
              let l : h.stands.place < count = omega (arith, h.stands.high, s.1) in
              let q = number_of h.from h.stands.place (omega (arith, l, f.room)) (at_is h.stands.place l ∙ h.stands.there) in
              (h.from, subst (up h.from) (sym (at_is s.0 s.1) ∙ s.2) h.up, omega (arith, q, s.3, h.stands.high))
        ]

    up_vertex : {w v : ℕ} → up w v → Vertex g v
    up_vertex o = joins_vertex (joins_sym o.by.joins)

    up_joins : {w v : ℕ} → up w v → Joins g (read first v - 1) v w
    up_joins {w} {v} o = subst (λ (x : ℕ). Joins g (x - 1) v w) (sym (mark_is v (up_vertex o))) (joins_sym o.by.joins)

    up_child : {w v : ℕ} → up w v → Child g tree v
    up_child {w} {v} o = record { vertex = up_vertex o; other = λ q. no_root f.tree few w v o (ap (read first₁) (q ∙ root_is) ∙ f.tree.top_mark) }

    up_is : {w v : ℕ} → up w v → tree.parent v ≡ w
    up_is o = far_is (up_joins o)

    -- the two ways to say that one is above another

    to_above : {u v : ℕ} → d.Above up u v → t.Above g tree u v
    to_above d.same = t.same
    to_above {u} (d.over o b) = t.higher (up_child o) (subst (t.Above g tree u) (sym (up_is o)) (to_above b))

    from_above : {u v : ℕ} → t.Above g tree u v → d.Above up u v
    from_above t.same = d.same
    from_above {u} (t.higher {v = v} c b) = let r = rise v c in d.over r.1 (subst (d.Above up u) (up_is r.1) (from_above b))

    -- The tree.

    is_tree : Tree g tree
    is_tree = record {
      start = at_vertex 0 some;
      joins = λ v c. let r = rise v c in subst (Joins g (read first v - 1) v) (sym (up_is r.1)) (up_joins r.1);
      falls = λ v c. let r = rise v c in omega (arith, r.2, ap (read number) (up_is r.1));
      upright = λ e u v j. elim (edge_above f.tree tabled e u v (cutting.kept e j.edge (λ i. not_in i)) j (entered u (joins_vertex j)) (entered v (joins_vertex (joins_sym j)))) [
        | inl b ↦ inl (to_above b)
        | inr b ↦ inr (to_above b)
      ];
    }

    rooted : n ≤ length first → Rooted most p (read order 0) first (read number)
    rooted x = record {
      admitted = a;
      tree = is_tree;
      marked = λ v c. omega (arith, mark_is v c.vertex, (entered v c.vertex).marked);
      few = λ v h. let s = place_of v h in omega (arith, s.1, s.3, f.room);
      long = x;
    }

    below : {u w : ℕ} → t.Above g tree u w → Vertex g u → Vertex g w
    below t.same h = h
    below (t.higher c b) h = c.vertex

    -- what is below a vertex stands together in the order
    together : Together g tree
    together u v w x y b l h =
        let (i, i-near, i-at, i-is) = place_of u x in
        let (j, j-near, j-at, j-is) = place_of v y in
        let (k, k-near, k_at, k-is) = place_of w (below b x) in
        to_above (subst (d.Above up u) (sym (at_is j j-near) ∙ j-at) (subst (λ (z : ℕ). d.Above up z (read order₁ j)) (sym (at_is i i-near) ∙ i-at)
        (between (Crossing p incident begins dead) (λ e i j z c k. sym (far_is (joins_sym c.joins)) ∙ far_is (joins_sym k.joins)) n root 0 (read first₀) (read first₁) (read order₁) count f.tree
        i j (omega arith) (omega (arith, i-is, j-is)) k (omega (arith, j-is, k-is)) k-near
        (subst (d.Above up (read order₁ i)) (sym k_at ∙ at_is k k-near) (subst (λ (z : ℕ). d.Above up z w) (sym i-at ∙ at_is i i-near) (from_above b))))))

    -- the marks of the root and of the excluded vertices name no edge
    pub depth_first : n ≤ length first → n ≤ length order → n ≤ length number → DepthFirst most p first order number
    depth_first x y z = record {
      rooted = rooted x;
      three = three;
      listing = listing y z;
      together = together;
      rootless = omega (arith, few, root_mark_lem);
      alone = λ v i. omega (arith, few, behind.roots v i);
    }
