-- What `next_edge` comes to gives an edge that a Mader-path begins with: out of a link that has an inside; else, where every built vertex is a branch, over
-- the first edge that is not built at a vertex of the order.
use Rattle.std.proofs.Common.{◌≡◌, ℕ, suc, ◌+◌, ◌-◌, ◌*◌, ◌/◌, ◌<◌, ◌≤◌, ◌⊎◌, List, length, sym, refl, subst, inl, inr, arith}
use mathlib.Core.List.{Memᴰ as In}
use native.Mathlib.Decide.{ℕ_discrete, dec_le, dec_lt}
use Rattle.connectivity.specs.Plan.{plan, entire, graph, Limits}
use Rattle.connectivity.specs.Graph.{Graph, Edge, Joins}
use Rattle.connectivity.specs.Walk.{Leg, all_edges, Built, Branch}
use Rattle.connectivity.proofs.Lists.{in_dec}
use Rattle.connectivity.proofs.Reach.{joins_sym, joins_vertex}
use Rattle.connectivity.proofs.Degree.{hits_from, in_degree}
use Rattle.connectivity.proofs.Build.{edges-count}
use Rattle.connectivity.proofs.Kept.{vertex_size, bound_is}
use Rattle.tree.specs.Tree.{Pointers, Back, Climb, Tree}
use Rattle.tree.specs.Filed.{Tips}
use Rattle.tree.specs.Links.{gone, tipped}
use Rattle.tree.proofs.Above.{child_or_root, parent_vertex}
use Rattle.tree.proofs.Inside.{climb_built}
use Rattle.tree.proofs.Step.{over_back, step_at_lem, branch_mader}
use Rattle.tree.proofs.Stuck.{exit_passes}
use Rattle.tree.proofs.Shelving.{filed_built}
use Rattle.tree.proofs.NewLink.{links_most}
use Rattle.graph.specs.Marks.{read}
use Rattle.graph.proofs.Joined.{joins_below, joins_edge}
use Rattle.numbers.specs.Standing.{tree_of}
use Rattle.record.specs.Linking.{top_of, bottom_of}
use Rattle.record.specs.Leaving.{Leaving, Exit}
use Rattle.record.specs.Cursors.{NextLink, Ahead, Opening, Opened}
use Rattle.record.specs.Recording.{Chosen, Behind, Nexting}
use Rattle.record.proofs.Listing.{edge_joins, over_edge}

-- over an edge at a vertex, where every climb makes a Mader-path
module _ {most : Limits} {ends incident begins first order number last places below tips over : List ℕ} {next empty at slot : ℕ}
    (c : Nexting most ends incident begins first order number last places below tips over next empty at slot) where
  abbrev pub g : Graph
  g = graph (plan c.n ends c.excluded)

  abbrev pub t : Pointers
  t = tree_of (plan c.n ends c.excluded) (read order 0) first (read number)

  abbrev pub built : List ℕ
  built = all_edges c.walks

  tree : Tree g t
  tree = c.ground.rooted.tree

  pub tips_room : 2 * next ≤ length tips
  tips_room = omega (arith, links_most c.holds.links, bound_is (plan c.n ends c.excluded), c.holds.roomy.tips_long)

  pub next_large : empty ≤ next
  next_large = c.behind.most

  new_edge : {e : ℕ} → 1 ≤ read over e → In e built → ⊥
  new_edge {e} h i = omega (arith, h, c.holds.uses.on e i)

  built_edge : {e : ℕ} → Edge g e → read over e ≡ 0 → In e built
  built_edge {e} h z = elim (in_dec e built) [ yes i ↦ i | no n ↦ absurd (omega (arith, z, c.holds.uses.off e n, c.ground.beneath.some e h)) ]

  -- what is listed at a vertex of the order is behind the cursor, and built, or ahead
  behind_or : (i k : ℕ) → i < c.n → read begins (read order i) ≤ k → k < read begins (read order i + 1)
      → read over (read incident k) ≡ 0 ⊎ Ahead (read order) (read begins) at slot c.n i k
  behind_or i k h a b = elim (dec_lt i at) [
    | yes w ↦ inl (c.behind.passed i k w a b)
    | no w ↦ elim (dec_lt k slot) [
      | no u ↦ inr (record { least = omega (arith, w); most = h; from = a; to = b; after = λ p. omega (arith, u) })
      | yes u ↦ elim (ℕ_discrete i at) [
        | yes p ↦ inl (c.behind.before k (subst (λ (x : ℕ). read begins (read order x) ≤ k) p a) u)
        | no p ↦ inr (record { least = omega (arith, w); most = h; from = a; to = b; after = λ q. absurd (p q) })
      ]
    ]
  ]

  -- The links.

  module _ {m : ℕ} (l : NextLink (top_of tips) next empty m) where
    no_inside : (k : ℕ) → empty ≤ k → k < m → (y : ℕ) → read places y ≡ k → ⊥
    no_inside k a b = elim (c.holds.links.each k (omega (arith, a, c.behind.least)) (omega (arith, b, l.most))) [
      | gone z n ↦ n
      | tipped u v p q s ↦ absurd (omega (arith, p, l.gone k a b))
    ]

    pub links_behind : {at' slot' : ℕ} → at' < c.n → read begins (read order at') ≤ slot' → slot' ≤ read begins (read order at' + 1)
        → ((i k : ℕ) → i < at' → read begins (read order i) ≤ k → k < read begins (read order i + 1) → read over (read incident k) ≡ 0)
        → ((k : ℕ) → read begins (read order at') ≤ k → k < slot' → read over (read incident k) ≡ 0)
        → Behind c.n (read incident) (read begins) (read order) (read places) (read over) next m at' slot'
    links_behind a b d p q = record {
      least = omega (arith, c.behind.least, l.least);
      most = l.most;
      gone = λ k h u. elim (dec_lt k empty) [ yes w ↦ c.behind.gone k h w | no w ↦ no_inside k (omega (arith, w)) u ];
      at_below = a;
      from = b;
      to = d;
      passed = p;
      before = q;
    }

    -- the other cursor where it was
    pub links_same : Behind c.n (read incident) (read begins) (read order) (read places) (read over) next m at slot
    links_same = links_behind c.behind.at_below c.behind.from c.behind.to c.behind.passed c.behind.before

    -- one has an inside
    module _ (some : m < next) where
      tips_of : (a : ℕ) × (b : ℕ) × (top_of tips m ≡ suc a) × (bottom_of tips m ≡ suc b) × Tips g t (read places) m a b
      tips_of = elim (c.holds.links.each m (omega (arith, c.behind.least, l.least)) some) [
        | gone z n ↦ absurd (omega (arith, z, l.some some))
        | tipped a b p q s ↦ (a, b, p, q, s)
      ]

      pub has_top : 1 ≤ top_of tips m
      has_top = l.some some

      pub has_bottom : 1 ≤ bottom_of tips m
      has_bottom = let r = tips_of in omega (arith, r.3)

      pub tips_at : Tips g t (read places) m (top_of tips m - 1) (bottom_of tips m - 1)
      tips_at =
          let (a, b, p, q, s) = tips_of in
          let u : a ≡ top_of tips m - 1 = omega (arith, p) in
          let v : b ≡ bottom_of tips m - 1 = omega (arith, q) in
          subst (λ (x : ℕ). Tips g t (read places) m x (bottom_of tips m - 1)) u (subst (λ (x : ℕ). Tips g t (read places) m a x) v s)

      abbrev pub leaving : Leaving most ends incident begins first number last places below over (top_of tips m - 1) (bottom_of tips m - 1)
      leaving = record {
        n = c.n;
        excluded = c.excluded;
        root = read order 0;
        whole = c.whole;
        ground = c.ground;
        walks = c.walks;
        state = c.holds.state;
        uses = c.holds.uses;
        link = m;
        large = omega (arith, c.behind.least, l.least);
        tips = tips_at;
        places_long = c.holds.roomy.places_long;
        below_long = c.holds.roomy.below_long;
        over_long = c.holds.over_long;
      }

      pub exit_chosen : {f : ℕ} → Exit g t built (λ e. c.whole e - 1) (read places) (read below) m (bottom_of tips m - 1) f → Chosen g t built f
      exit_chosen {f} x = subst (Chosen g t built) (sym x.is_over) (record {
        upper = x.upper;
        lower = x.lower;
        back = back;
        new = (step_at_lem tree c.holds.state.along.held c.ground.beneath.overs x.joins x.new back some_climb.2
            (c.holds.state.filed.built x.at (omega (arith, x.inside, c.behind.least, l.least)))).new;
        path = λ legs y k. exit_passes tree c.holds.state.along.held c.ground.beneath.overs c.holds.state.filed c.holds.state.belows tips_at
            (omega (arith, c.behind.least, l.least)) x.inside x.joins x.new back k x.out;
      })
        where
          back : Back g t (c.whole x.edge - 1) x.upper x.lower
          back = subst (λ (d : ℕ). Back g t d x.upper x.lower) x.is_over x.back

          some_climb : (legs : List Leg) × (y : ℕ) × Climb g t (Built g built) x.lower legs y
          some_climb = climb_built tree c.holds.state.along.held (joins_vertex (joins_sym x.back.joins))

    -- none has: every built vertex is a branch
    module _ (full : next ≤ m) where
      all_branches : (v : ℕ) → Built g built v → Branch g built v
      all_branches v b = elim (dec_le 2 (read places v)) [
        | yes h ↦ absurd (elim (dec_lt (read places v) empty) [
          | yes w ↦ c.behind.gone (read places v) h w v refl
          | no w ↦ no_inside (read places v) (omega (arith, w)) (omega (arith, c.holds.links.below v, full, l.most)) v refl
        ])
        | no h ↦ c.holds.state.filed.branch v (omega (arith, h, filed_built c.holds.state.filed {v = v} b))
      ]

      -- an edge is left, and it is ahead
      pub some_left : ((i k : ℕ) → Ahead (read order) (read begins) at slot c.n i k → read over (read incident k) ≡ 0) → ⊥
      some_left f = omega (arith, c.left, edges-count c.holds.state.along.steps c.holds.state.along.once each)
        where
          each : (e : ℕ) → Edge g e → In e built
          each e h =
              let v = g.left e in
              let j : Joins g e v (g.right e) = record { edge = h; ends = inl (refl, refl) } in
              let below : v < c.n = joins_below (plan c.n ends c.excluded) (joins_sym j) in
              let (k, a, b, p) = c.ground.grouped.place e v (g.right e) j in
              let (q, r) = c.listing.placed v below in
              let s = subst (λ (x : ℕ). read begins x ≤ k) (sym r) a in
              let u = subst (λ (x : ℕ). k < read begins (x + 1)) (sym r) b in
              built_edge h (subst (λ (x : ℕ). read over x ≡ 0) p (elim (behind_or (read number v) k q s u) [ inl w ↦ w | inr w ↦ f (read number v) k w ]))

      abbrev pub opening : Opening most incident begins order over at slot
      opening = record {
        p = plan c.n ends c.excluded;
        admitted = c.ground.rooted.admitted;
        grouped = c.ground.grouped;
        valid = λ k h. (c.listing.at k h).0;
        order_long = c.listing.order_long;
        over_long = c.holds.over_long;
        at_below = c.behind.at_below;
        slot_from = c.behind.from;
        slot_to = c.behind.to;
        some = some_left;
      }

      module _ {at' slot' : ℕ} (o : Opened (read incident) (read begins) (read order) (read over) at slot c.n at' slot') where
        passed : (i k : ℕ) → i < at' → read begins (read order i) ≤ k → k < read begins (read order i + 1) → read over (read incident k) ≡ 0
        passed i k h a b = elim (behind_or i k (omega (arith, h, o.here.most)) a b) [ inl w ↦ w | inr w ↦ o.passed i k w h ]

        before : (k : ℕ) → read begins (read order at') ≤ k → k < slot' → read over (read incident k) ≡ 0
        before k a b = elim (behind_or at' k o.here.most a (omega (arith, b, o.here.to))) [ inl w ↦ w | inr w ↦ o.before k w b ]

        pub opened_behind : Behind c.n (read incident) (read begins) (read order) (read places) (read over) next m at' slot'
        opened_behind = links_behind o.here.most o.here.from (omega (arith, o.here.to)) passed before

        at_vertex : read order at' < c.n
        at_vertex = (c.listing.at at' o.here.most).0

        slot_listed : (u : ℕ) × Joins (graph (entire c.n ends)) (read incident slot') (read order at') u
        slot_listed = c.ground.grouped.joins (read order at') slot' at_vertex o.here.from o.here.to

        slot_below : read incident slot' < length ends / 2
        slot_below = joins_edge (entire c.n ends) slot_listed.1

        as_first : read over (read incident slot') ≡ c.whole (read incident slot')
        as_first = c.holds.uses.off (read incident slot') (new_edge o.new)

        -- it is not built, and so an edge
        pub slot_joins : (u : ℕ) × Joins g (read incident slot') (read order at') u
        slot_joins = let (u, j) = slot_listed in (u, edge_joins (plan c.n ends c.excluded) j (over_edge (plan c.n ends c.excluded) c.ground.beneath slot_below (omega (arith, o.new, as_first))))

        -- the edges of its parent are built, and so its first edge is
        at_built : Built g built (read order at')
        at_built = elim (child_or_root t (joins_vertex slot_joins.1)) [
          | inl p ↦ subst (Built g built) (sym p) (omega (arith, c.holds.state.along.held.rooted))
          | inr h ↦
              let v = read order at' in
              let up = parent_vertex tree h in
              let (q, r) = c.listing.placed (t.parent v) (vertex_size (plan c.n ends c.excluded) up) in
              let (k, a, b, p) = c.ground.grouped.place (t.first v) (t.parent v) v (joins_sym (tree.joins v h)) in
              let less : read number (t.parent v) < at' = omega (arith, tree.falls v h, (c.listing.at at' o.here.most).1) in
              let mark = passed (read number (t.parent v)) k less (subst (λ (x : ℕ). read begins x ≤ k) (sym r) a) (subst (λ (x : ℕ). k < read begins (x + 1)) (sym r) b) in
              in_degree g v (built_edge (tree.joins v h).edge (subst (λ (x : ℕ). read over x ≡ 0) p mark)) (hits_from (tree.joins v h))
        ]

        pub slot_room : slot' < length incident
        slot_room = omega (arith, o.here.to, c.ground.grouped.inside (read order at') at_vertex, c.ground.grouped.long)

        pub over_room : read incident slot' < length over
        over_room = omega (arith, slot_below, c.holds.over_long)

        pub slot_small : read incident slot' < most.edges
        slot_small = omega (arith, slot_below, c.ground.rooted.admitted.edges)

        pub opened_chosen : Chosen g t built (read over (read incident slot') - 1)
        opened_chosen =
            let (u, j) = slot_joins in
            let n = new_edge o.new in
            let (s, w, b) = over_back tree c.ground.beneath.overs j in
            let (rest, y, k) = climb_built tree c.holds.state.along.held (joins_vertex (joins_sym b.joins)) in
            subst (λ (d : ℕ). Chosen g t built (d - 1)) (sym as_first) (record {
              upper = s;
              lower = w;
              back = b;
              new = (step_at_lem tree c.holds.state.along.held c.ground.beneath.overs j n b k at_built).new;
              path = λ legs x i. branch_mader tree c.holds.state.along.held c.ground.beneath.overs j n b i all_branches at_built;
            })
