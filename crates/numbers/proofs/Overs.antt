-- The highest edge from below each vertex: each vertex has the highest of its own, and from the last to the first each hands its highest to its parent.
use mathlib.Core.Path.{◌≡◌, refl, sym, subst, ◌∙◌}
use mathlib.Core.Logic.{inl, inr}
use Prim.Native.Nat.{ℕ, ◌+◌, ◌-◌, ◌≤◌, ◌<◌}
use native.Mathlib.Omega.{arith}
use native.Mathlib.Decide.{ℕ_discrete}
use Rattle.connectivity.specs.Graph.{Graph, Vertex, Edge, Joins}
use Rattle.connectivity.specs.Reach.{ThreeEdgeConnected}
use Rattle.connectivity.proofs.Reach.{joins_sym}
use Rattle.tree.specs.Tree.{Pointers, Child, same, higher, Tree, Back, Passing, Highest, Overs}
use Rattle.tree.proofs.Above.{above_rank, first_once, back_once, tree_cases}
use Rattle.tree.proofs.Passing.{Near, near_cases, child_near, highest_near, one_passing}

-- one place of a table gets another number
pub record Put (table table' : ℕ → ℕ) (k x : ℕ) : Type 0 where
  pub here : table' k ≡ x
  pub away : (j : ℕ) → (j ≡ k → ⊥) → table' j ≡ table j

-- the higher one of two edges, by the numbers of their upper ends; each is given as one more, the first also as 0 for none
pub data Higher (level : ℕ → ℕ) (a b r : ℕ) : Type 0 where
  next : r ≡ b → (1 ≤ a → level (b - 1) ≤ level (a - 1)) → Higher level a b r
  stays : r ≡ a → 1 ≤ a → level (a - 1) ≤ level (b - 1) → Higher level a b r

-- 0, or one more than an edge near c
pub data Entry (g : Graph) (t : Pointers) (c x : ℕ) : Type 0 where
  none : x ≡ 0 → Entry g t c x
  some : (f s w : ℕ) → x ≡ f + 1 → Near g t c f s w → Entry g t c x

-- nothing stands at an entry that is no edge
abbrev pub NoEdge : Graph → (ℕ → ℕ) → Type 0
NoEdge g over = (e : ℕ) → e < g.size → (Edge g e → ⊥) → over e ≡ 0

-- the edges that the code compares by the number of their upper end
abbrev pub Levels : Graph → Pointers → (ℕ → ℕ) → Type 0
Levels g t level = (f s w : ℕ) → Back g t f s w → level f ≡ t.rank s

-- of two edges, each given as one more, the first is there and its upper end not lower
abbrev pub NotLower : (ℕ → ℕ) → ℕ → ℕ → Type 0
NotLower level x y = (1 ≤ x) × (level (x - 1) ≤ level (y - 1))

-- the higher of two edges is not lower than either
higher_new : {level : ℕ → ℕ} {a b r : ℕ} → Higher level a b r → 1 ≤ b → NotLower level r b
higher_new {level} {b = b} (next p f) h = subst (λ (x : ℕ). NotLower level x b) (sym p) (h, omega arith)
higher_new {level} {b = b} (stays p k m) h = subst (λ (x : ℕ). NotLower level x b) (sym p) (k, m)

higher_old : {level : ℕ → ℕ} {a b r : ℕ} → Higher level a b r → 1 ≤ b → 1 ≤ a → NotLower level r a
higher_old {level} {a} (next p f) h k = subst (λ (x : ℕ). NotLower level x a) (sym p) (h, f k)
higher_old {level} {a} (stays p _ m) h k = subst (λ (x : ℕ). NotLower level x a) (sym p) (k, omega arith)

-- so it is not lower than what the first was not lower than
higher_still : {level : ℕ → ℕ} {a b r : ℕ} (y : ℕ) → Higher level a b r → 1 ≤ b → NotLower level a y → NotLower level r y
higher_still y best h (x, m) = let (a, k) = higher_old best h x in (a, omega arith)

back_one : (e : ℕ) → e + 1 - 1 ≡ e
back_one e = omega arith

-- The edges, one after the other.

-- those before k stand for themselves, and none of them is higher than what their lower end has
pub record Owned (g : Graph) (t : Pointers) (level : ℕ → ℕ) (k : ℕ) (over : ℕ → ℕ) : Type 0 where
  pub entry : (c : ℕ) → Child g t c → Entry g t c (over (t.first c))
  pub itself : (e s w : ℕ) → Back g t e s w → e < k → over e ≡ e + 1
  pub own : (e s w : ℕ) → Back g t e s w → e < k → NotLower level (over (t.first w)) (e + 1)
  pub none : NoEdge g over

module _ {g : Graph} {t : Pointers} {level : ℕ → ℕ} (tree : Tree g t) where
  pub owned_start : {over : ℕ → ℕ} → ((e : ℕ) → e < g.size → over e ≡ 0) → Owned g t level 0 over
  owned_start blank = record {
    entry = λ c h. none (blank (t.first c) (tree.joins c h).edge.below);
    itself = λ e s w b l. absurd (omega arith);
    own = λ e s w b l. absurd (omega arith);
    none = λ e l n. blank e l;
  }

  module _ {k : ℕ} {over : ℕ → ℕ} (o : Owned g t level k over) where
    -- an edge of the tree, or none
    pub owned_other : ((s w : ℕ) → Back g t k s w → ⊥) → Owned g t level (k + 1) over
    owned_other f = record {
      entry = o.entry;
      itself = λ e s w b l. o.itself e s w b (before e s w b l);
      own = λ e s w b l. o.own e s w b (before e s w b l);
      none = o.none;
    }
      where
        before : (e s w : ℕ) → Back g t e s w → e < k + 1 → e < k
        before e s w b l = elim (ℕ_discrete e k) [ yes q ↦ absurd (f s w (subst (λ (x : ℕ). Back g t x s w) q b)) | no n ↦ omega arith ]

    -- one that is not
    module _ {s w r : ℕ} {mid over' : ℕ → ℕ} (h : Child g t w) (b : Back g t k s w) (put : Put over mid k (k + 1)) (put' : Put mid over' (t.first w) r)
        (best' : Higher level (mid (t.first w)) (k + 1) r) where
      -- the entry of another vertex stays, and that of w until it gets the new edge
      mid_same : {c : ℕ} → Child g t c → mid (t.first c) ≡ over (t.first c)
      mid_same {c} hc = put.away (t.first c) (λ q. b.off c hc (sym q))

      others : {c : ℕ} → Child g t c → (c ≡ w → ⊥) → over' (t.first c) ≡ over (t.first c)
      others {c} hc n = put'.away (t.first c) (λ q. n (first_once tree hc h q)) ∙ mid_same hc

      best : Higher level (over (t.first w)) (k + 1) r
      best = subst (λ (x : ℕ). Higher level x (k + 1) r) (mid_same h) best'

      entry : (c : ℕ) → Child g t c → Entry g t c (over' (t.first c))
      entry c hc = elim (ℕ_discrete c w) [
        | yes q ↦ subst (λ (u : ℕ). Entry g t u (over' (t.first u))) (sym q) (subst (Entry g t w) (sym put'.here) (elim best [
          | next p f ↦ some k s w p (record { back = b; below = same; above = b.above })
          | stays p a m ↦ subst (Entry g t w) (sym p) (o.entry w h)
        ]))
        | no q ↦ subst (Entry g t c) (sym (others hc q)) (o.entry c hc)
      ]

      itself : (e y z : ℕ) → Back g t e y z → e < k + 1 → over' e ≡ e + 1
      itself e y z d l = put'.away e (d.off w h) ∙ elim (ℕ_discrete e k) [
        | yes q ↦ subst (λ (x : ℕ). mid x ≡ x + 1) (sym q) put.here
        | no n ↦ put.away e n ∙ o.itself e y z d (omega arith)
      ]

      at_w : (e y : ℕ) → Back g t e y w → e < k + 1 → NotLower level r (e + 1)
      at_w e y d l = elim (ℕ_discrete e k) [
        | yes q ↦ subst (λ (x : ℕ). NotLower level r (x + 1)) (sym q) (higher_new best (omega arith))
        | no n ↦ higher_still (e + 1) best (omega arith) (o.own e y w d (omega arith))
      ]

      own : (e y z : ℕ) → Child g t z → Back g t e y z → e < k + 1 → NotLower level (over' (t.first z)) (e + 1)
      own e y z hz d l = elim (ℕ_discrete z w) [
        | yes q ↦ subst (λ (u : ℕ). NotLower level (over' (t.first u)) (e + 1)) (sym q)
            (subst (λ (x : ℕ). NotLower level x (e + 1)) (sym put'.here) (at_w e y (subst (Back g t e y) q d) l))
        | no q ↦ elim (ℕ_discrete e k) [
          | yes p ↦ absurd (q (back_once tree b (subst (λ (x : ℕ). Back g t x y z) p d)).1)
          | no n ↦ subst (λ (x : ℕ). NotLower level x (e + 1)) (sym (others hz q)) (o.own e y z d (omega arith))
        ]
      ]

      pub owned_step : ((e y z : ℕ) → Back g t e y z → Child g t z) → Owned g t level (k + 1) over'
      owned_step child = record {
        entry = entry;
        itself = itself;
        own = λ e y z d l. own e y z (child e y z d) d l;
        none = λ e l n. put'.away e (λ q. n (subst (Edge g) (sym q) (tree.joins w h).edge)) ∙ put.away e (λ q. n (subst (Edge g) (sym q) b.joins.edge)) ∙ o.none e l n;
      }

-- The vertices, from the last to the first.

-- those with numbers from k on have their highest edge, and have handed it up
pub record Sofar (g : Graph) (t : Pointers) (level : ℕ → ℕ) (k : ℕ) (over : ℕ → ℕ) : Type 0 where
  pub entry : (c : ℕ) → Child g t c → Entry g t c (over (t.first c))
  pub itself : (e s w : ℕ) → Back g t e s w → over e ≡ e + 1
  pub own : (e s w : ℕ) → Back g t e s w → NotLower level (over (t.first w)) (e + 1)
  pub done : (c : ℕ) → Child g t c → k ≤ t.rank c → (1 ≤ over (t.first c)) × Highest g t c (over (t.first c) - 1)
  pub handed : (d : ℕ) → Child g t d → Child g t (t.parent d) → k ≤ t.rank d
      → NotLower level (over (t.first (t.parent d))) (over (t.first d))
  pub none : NoEdge g over

-- the upper end of the highest edge past the first edge of c is at most that of any other
highest_level : {g : Graph} {t : Pointers} {level : ℕ → ℕ} {c f d s w : ℕ} → Tree g t → Levels g t level → Highest g t c f → Passing g t c d s w → level f ≤ t.rank s
highest_level {f = f} {d = d} {s = s} {w = w} tree levels h p =
    omega (arith, levels f h.upper h.lower h.passing.back, above_rank tree (h.highest d s w p))

-- only v has the number k, so what has at least that and is not v has more
pub larger : {g : Graph} (t : Pointers) {k v c : ℕ} → ((u : ℕ) → Vertex g u → t.rank u ≡ k → u ≡ v) → Vertex g c → k ≤ t.rank c → (c ≡ v → ⊥) → k + 1 ≤ t.rank c
larger t {k} {v} {c} only h b n = elim (ℕ_discrete (t.rank c) k) [ yes q ↦ absurd (n (only c h q)) | no q ↦ omega arith ]

module _ {g : Graph} {t : Pointers} {level : ℕ → ℕ} (tree : Tree g t) (three : ThreeEdgeConnected g) (levels : Levels g t level) where
  pub overs_start : {n m : ℕ} {over : ℕ → ℕ} → ((v : ℕ) → Vertex g v → t.rank v < n) → ((e : ℕ) → Edge g e → e < m) → Owned g t level m over → Sofar g t level n over
  overs_start few small o = record {
    entry = o.entry;
    itself = λ e s w b. o.itself e s w b (small e b.joins.edge);
    own = λ e s w b. o.own e s w b (small e b.joins.edge);
    done = λ c h l. absurd (omega (arith, few c h.vertex));
    handed = λ d h q l. absurd (omega (arith, few d h.vertex));
    none = o.none;
  }

  -- no vertex has the number k
  pub overs_skip : {k : ℕ} {over : ℕ → ℕ} → ((c : ℕ) → Vertex g c → t.rank c ≡ k → ⊥) → Sofar g t level (k + 1) over → Sofar g t level k over
  overs_skip out l = record {
    entry = l.entry;
    itself = l.itself;
    own = l.own;
    done = λ c h b. l.done c h (omega (arith, out c h.vertex));
    handed = λ d h q b. l.handed d h q (omega (arith, out d h.vertex));
    none = l.none;
  }

  -- The vertex v, with number k, has its highest edge, and hands it to its parent.
  module _ {k v : ℕ} {over : ℕ → ℕ} (only : (c : ℕ) → Vertex g c → t.rank c ≡ k → c ≡ v) (h : Child g t v) (p : t.rank v ≡ k)
      (l : Sofar g t level (k + 1) over) where
    -- an edge near v stands in its entry, or one that is at least as high
    at_most : {d y z : ℕ} → Near g t v d y z → (1 ≤ over (t.first v)) × (level (over (t.first v) - 1) ≤ t.rank y)
    at_most {d} {y} {z} q = elim (near_cases q) [
      | inl r ↦ let b : Back g t d y v = subst (Back g t d y) r q.back in
          let (a, m) = l.own d y v b in (a, omega (arith, levels d y v b, subst (λ (x : ℕ). level (over (t.first v) - 1) ≤ level x) (back_one d) m))
      | inr (c, hc, r, a) ↦ below c hc r a
    ]
      where
        below : (c : ℕ) → Child g t c → t.parent c ≡ v → Passing g t c d y z → (1 ≤ over (t.first v)) × (level (over (t.first v) - 1) ≤ t.rank y)
        below c hc r a =
            let low : k + 1 ≤ t.rank c = omega (arith, subst (λ (u : ℕ). t.rank u < t.rank c) r (tree.falls c hc)) in
            let (_, high) = l.done c hc low in
            let (x, m) = subst (λ (u : ℕ). NotLower level (over (t.first u)) (over (t.first c))) r (l.handed c hc (subst (Child g t) (sym r) h) low) in
            (x, omega (arith, highest_level tree levels high a))

    near : {d y z : ℕ} → Passing g t v d y z → Near g t v d y z
    near q = record { back = q.back; below = q.below; above = higher h q.above }

    mine : (1 ≤ over (t.first v)) × Highest g t v (over (t.first v) - 1)
    mine = elim (l.entry v h) [
      | none q ↦ absurd (one_passing tree three h (λ d y z r. omega (arith, (at_most (near r)).0)))
      | some f s w q r ↦ (
        omega arith,
        subst (Highest g t v) (omega arith) (highest_near tree three h r
            (λ d y z b. omega (arith, levels f s w r.back, subst (λ (x : ℕ). level x ≤ t.rank y) (one_less q) (at_most b).1))),
      )
    ]
      where
        one_less : {x f : ℕ} → x ≡ f + 1 → x - 1 ≡ f
        one_less q = omega arith

    now_done : (c : ℕ) → Child g t c → k ≤ t.rank c → (1 ≤ over (t.first c)) × Highest g t c (over (t.first c) - 1)
    now_done c hc b = elim (ℕ_discrete c v) [
      | yes q ↦ subst (λ (u : ℕ). (1 ≤ over (t.first u)) × Highest g t u (over (t.first u) - 1)) (sym q) mine
      | no q ↦ l.done c hc (larger t only hc.vertex b q)
    ]

    -- it has none to hand on, where that is the root
    pub overs_root : t.parent v ≡ t.root → Sofar g t level k over
    overs_root q = record {
      entry = l.entry;
      itself = l.itself;
      own = l.own;
      done = now_done;
      handed = λ d hd hp b. l.handed d hd hp (larger t only hd.vertex b (λ r. hp.other (subst (λ (u : ℕ). t.parent u ≡ t.root) (sym r) q)));
      none = l.none;
    }

    pub overs_some : 1 ≤ over (t.first v)
    overs_some = mine.0

    pub overs_handed : {over' : ℕ → ℕ} {r : ℕ} → ((e s w : ℕ) → Back g t e s w → Child g t w) → Child g t (t.parent v) → Put over over' (t.first (t.parent v)) r
        → Higher level (over (t.first (t.parent v))) (over (t.first v)) r → Sofar g t level k over'
    overs_handed {over'} {r} child hp put best = record {
      entry = λ c hc. elim (ℕ_discrete c (t.parent v)) [
        | yes q ↦ subst (λ (u : ℕ). Entry g t u (over' (t.first u))) (sym q) (subst (Entry g t (t.parent v)) (sym put.here) new)
        | no q ↦ subst (Entry g t c) (sym (others hc q)) (l.entry c hc)
      ];
      itself = λ e s w b. put.away e (b.off (t.parent v) hp) ∙ l.itself e s w b;
      own = λ e s w b. improved (child e s w b) (e + 1) (l.own e s w b);
      done = λ c hc b. subst (λ (x : ℕ). (1 ≤ x) × Highest g t c (x - 1)) (sym (others hc (apart b))) (now_done c hc b);
      handed = handed;
      none = λ e b n. put.away e (λ q. n (subst (Edge g) (sym q) (tree.joins (t.parent v) hp).edge)) ∙ l.none e b n;
    }
      where
        apart : {c : ℕ} → k ≤ t.rank c → c ≡ t.parent v → ⊥
        apart b q = omega (arith, tree.falls v h, subst (λ (u : ℕ). k ≤ t.rank u) q b)

        others : {c : ℕ} → Child g t c → (c ≡ t.parent v → ⊥) → over' (t.first c) ≡ over (t.first c)
        others {c} hc n = put.away (t.first c) (λ q. n (first_once tree hc hp q))

        new : Entry g t (t.parent v) r
        new = elim best [
          | next q f ↦ let (a, high) = mine in some (over (t.first v) - 1) high.upper high.lower (omega arith) (child_near h refl high.passing)
          | stays q a m ↦ subst (Entry g t (t.parent v)) (sym q) (l.entry (t.parent v) hp)
        ]

        -- no entry gets lower
        improved : {c : ℕ} → Child g t c → (y : ℕ) → NotLower level (over (t.first c)) y → NotLower level (over' (t.first c)) y
        improved {c} hc y x = elim (ℕ_discrete c (t.parent v)) [
          | yes s ↦ subst (λ (u : ℕ). NotLower level (over' (t.first u)) y) (sym s)
              (subst (λ (z : ℕ). NotLower level z y) (sym put.here)
              (higher_still y best mine.0 (subst (λ (u : ℕ). NotLower level (over (t.first u)) y) s x)))
          | no s ↦ subst (λ (z : ℕ). NotLower level z y) (sym (others hc s)) x
        ]

        handed : (d : ℕ) → Child g t d → Child g t (t.parent d) → k ≤ t.rank d → NotLower level (over' (t.first (t.parent d))) (over' (t.first d))
        handed d hd hq b = subst (NotLower level (over' (t.first (t.parent d)))) (sym (others hd (apart b))) (elim (ℕ_discrete d v) [
          | yes q ↦ subst (λ (u : ℕ). NotLower level (over' (t.first (t.parent u))) (over (t.first u))) (sym q)
              (subst (λ (x : ℕ). NotLower level x (over (t.first v))) (sym put.here) (higher_new best mine.0))
          | no q ↦ improved hq (over (t.first d)) (l.handed d hd hq (larger t only hd.vertex b q))
        ])

  -- At the end every vertex but the root has its highest edge.
  back_of : {e u v : ℕ} → Joins g e u v → ((x : ℕ) → Child g t x → e ≡ t.first x → ⊥) → (s : ℕ) × (w : ℕ) × Back g t e s w
  back_of {e} {u} {v} j off = elim (tree.upright e u v j) [
    | inl a ↦ (u, v, record { joins = j; above = a; off = off })
    | inr a ↦ (v, u, record { joins = joins_sym j; above = a; off = off })
  ]

  edge_joins : {e : ℕ} → Edge g e → Joins g e (g.left e) (g.right e)
  edge_joins h = record { edge = h; ends = inl (refl, refl) }

  pub overs_end : {over : ℕ → ℕ} → Sofar g t level 1 over → Overs g t (λ e. over e - 1) × ((e : ℕ) → Edge g e → 1 ≤ over e)
  overs_end {over} l = (record { itself = λ e h off. omega (arith, at_back h off); highest = λ c hc. (at_child c hc).1 }, each)
    where
      at_child : (c : ℕ) → Child g t c → (1 ≤ over (t.first c)) × Highest g t c (over (t.first c) - 1)
      at_child c hc = l.done c hc (omega (arith, tree.falls c hc))

      at_back : {e : ℕ} → Edge g e → ((x : ℕ) → Child g t x → e ≡ t.first x → ⊥) → over e ≡ e + 1
      at_back {e} h off = let (s, w, b) = back_of (edge_joins h) off in l.itself e s w b

      each : (e : ℕ) → Edge g e → 1 ≤ over e
      each e h = elim (tree_cases tree (edge_joins h)) [
        | inl (inl (c, q)) ↦ subst (λ (d : ℕ). 1 ≤ over d) (sym q) (at_child (g.left e) c).0
        | inl (inr (c, q)) ↦ subst (λ (d : ℕ). 1 ≤ over d) (sym q) (at_child (g.right e) c).0
        | inr off ↦ omega (arith, at_back h off)
      ]
