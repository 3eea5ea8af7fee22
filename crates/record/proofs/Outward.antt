-- What the tables say while a way out of a link is sought: what is asked at each of its vertices, and what the answers tell.
use Rattle.std.proofs.Common.{◌≡◌, ℕ, zero, suc, ◌+◌, ◌-◌, ◌<◌, ◌≤◌, ◌⊎◌, List, length, sym, refl, ap, ◌∙◌, subst, inl, inr, arith}
use mathlib.Core.List.{Memᴰ as In}
use Rattle.connectivity.specs.Plan.{plan, entire, graph, Limits}
use Rattle.connectivity.specs.Graph.{Graph, Vertex, Joins}
use Rattle.connectivity.specs.Walk.{all_edges}
use Rattle.connectivity.proofs.Reach.{joins_sym, joins_vertex}
use Rattle.connectivity.proofs.Kept.{vertex_size}
use Rattle.tree.specs.Tree.{Pointers, Above, Tree, Preorder, Back}
use Rattle.tree.proofs.Above.{above_rank}
use Rattle.tree.proofs.Inside.{built_is_vertex}
use Rattle.tree.proofs.Step.{over_back}
use Rattle.tree.proofs.Stuck.{exit_there}
use Rattle.tree.proofs.Along.{along_stage}
use Rattle.graph.specs.Marks.{read}
use Rattle.graph.proofs.Joined.{joins_below, joins_edge}
use Rattle.graph.specs.Ends.{far_end}
use Rattle.record.specs.Ways.{upper_end, Rises, next_up}
use Rattle.numbers.specs.Standing.{tree_of}
use Rattle.record.specs.Leaving.{Leaving, Exit}
use Rattle.record.specs.Exits.{Ranging, Under, Leads, away, hangs, Passes, Testing, Reading, Looking, ExitAt}
use Rattle.record.proofs.Upper.{ended, back_upper, back_lower}
use Rattle.record.proofs.Climbing.{parent_is, child_rises}
use Rattle.record.proofs.Exits.{leads_not, leads_as}
use Rattle.record.proofs.Listing.{edge_joins, over_edge}
use Rattle.record.proofs.Narrowing.{Between, between_start, between_all, Down, between_down, Up, between_up}

-- no edge at y that is not built leads out
abbrev pub Stays : Graph → Pointers → List ℕ → (ℕ → ℕ) → (ℕ → ℕ) → (ℕ → ℕ) → ℕ → ℕ → ℕ → Type 0
Stays g t built over place below m bottom y = (e u s w : ℕ) → Joins g e y u → (In e built → ⊥) → Back g t (over e) s w
    → (place s ≡ m) × ((c : ℕ) → below bottom ≡ suc c → Above g t c w → ⊥)

-- The test by numbers is the test in the tree.

module _ {g : Graph} {t : Pointers} {last : ℕ → ℕ} {next from to : ℕ} (tree : Tree g t) (pre : Preorder g t last)
    (child : (c : ℕ) → next ≡ suc c → Vertex g c) (u : Under t.rank last next from to) {at m w : ℕ} where
  leads_out : Vertex g w → Leads at m (t.rank w) from to → (at ≡ m → ⊥) ⊎ ((c : ℕ) × (next ≡ suc c) × Above g t c w)
  leads_out v (away n) = inl n
  leads_out v (hangs a b) = go next refl
    where
      go : (k : ℕ) → next ≡ k → (at ≡ m → ⊥) ⊎ ((c : ℕ) × (next ≡ suc c) × Above g t c w)
      go zero p = absurd (omega (arith, u.none p, a, b))
      go (suc c) p = let (q, r) = u.some c p in inr (c, p, pre.below c w (child c p) v (omega (arith, q, a)) (omega (arith, r, b)))

  leads_not_out : (Leads at m (t.rank w) from to → ⊥) → (at ≡ m) × ((c : ℕ) → next ≡ suc c → Above g t c w → ⊥)
  leads_not_out n = let (p, l) = leads_not n in
      (p, λ c q i. let (x, y) = u.some c q in l (omega (arith, x, above_rank tree i)) (omega (arith, y, pre.within c w i (child c q))))

-- The tables.

module _ {most : Limits} {ends incident begins first number last places below over : List ℕ} {top bottom : ℕ}
    (c : Leaving most ends incident begins first number last places below over top bottom) where
  abbrev g : Graph
  g = graph (plan c.n ends c.excluded)

  abbrev t : Pointers
  t = tree_of (plan c.n ends c.excluded) c.root first (read number)

  abbrev built : List ℕ
  built = all_edges c.walks

  tree : Tree g t
  tree = c.ground.rooted.tree

  -- the vertices of the link

  vertex : {y : ℕ} → read places y ≡ c.link → Vertex g y
  vertex {y} p = built_is_vertex tree c.state.along.held (c.state.filed.built y (omega (arith, p, c.large)))

  pub inside_below : {y : ℕ} → read places y ≡ c.link → y < c.n
  inside_below {y} p = vertex_size (plan c.n ends c.excluded) (vertex p)

  child_vertex : (d : ℕ) → read below bottom ≡ suc d → Vertex g d
  child_vertex d p = (c.state.belows.child bottom d p).0.vertex

  -- what the calls ask

  pub ranging : Ranging number last below bottom
  ranging = record {
    room = omega (arith, inside_below c.tips.has_bottom, c.below_long);
    numbered = λ d p. omega (arith, c.ground.number_long, vertex_size (plan c.n ends c.excluded) (child_vertex d p));
    lasting = λ d p. omega (arith, c.ground.last_long, vertex_size (plan c.n ends c.excluded) (child_vertex d p));
  }

  pub sized : (y : ℕ) → read places y ≡ c.link → (y + 1 < length begins) × (read begins y ≤ read begins (y + 1))
  sized y p = (omega (arith, inside_below p, c.ground.grouped.room), c.ground.grouped.ascends y (inside_below p))

  upper_is : {f s w : ℕ} → Back g t f s w → upper_end ends number f ≡ s
  upper_is b = back_upper number c.ground.rooted b

  lower_is : {f s w : ℕ} → Back g t f s w → far_end ends f (upper_end ends number f) ≡ w
  lower_is {f} b = ap (far_end ends f) (upper_is b) ∙ back_lower number c.ground.rooted b

  testing : {f s w : ℕ} → Back g t f s w → Testing ends number places f
  testing {f} {s} {w} b = record {
    ended = ended number c.ground.rooted c.ground.number_long b.joins.edge;
    upper = omega (arith, upper_is b, joins_below (plan c.n ends c.excluded) (joins_sym b.joins), c.places_long);
    lower = omega (arith, lower_is b, joins_below (plan c.n ends c.excluded) b.joins, c.ground.number_long);
  }

  -- an edge that is not built stands in the table as at first
  new_edge : {e : ℕ} → 1 ≤ read over e → In e built → ⊥
  new_edge {e} h i = omega (arith, h, c.uses.on e i)

  as_first : {e : ℕ} → 1 ≤ read over e → read over e ≡ c.whole e
  as_first {e} h = c.uses.off e (new_edge h)

  -- and it is an edge of the graph
  leads_to : {e v u : ℕ} → Joins (graph (entire c.n ends)) e v u → 1 ≤ read over e → Joins g e v u
  leads_to j h = edge_joins (plan c.n ends c.excluded) j
      (over_edge (plan c.n ends c.excluded) c.ground.beneath (joins_edge (entire c.n ends) j) (omega (arith, h, as_first h)))

  reading : {e v u : ℕ} → Joins (graph (entire c.n ends)) e v u → Reading ends number places over e
  reading {e} {v} {u} j = record {
    long = omega (arith, joins_edge (entire c.n ends) j, c.over_long);
    test = λ h. let (s, w, b) = over_back tree c.ground.beneath.overs (leads_to j h) in subst (λ (x : ℕ). Testing ends number places (x - 1)) (sym (as_first h)) (testing b);
  }

  pub looking : {y : ℕ} → read places y ≡ c.link → Looking ends incident begins number places over y
  looking {y} p = let r = c.ground.grouped in record {
    room = (sized y p).0;
    inside = omega (arith, r.inside y (inside_below p), r.long);
    own = omega (arith, inside_below p, c.places_long);
    each = λ k h l. reading (r.joins y k (inside_below p) h l).1;
  }

  -- what the answer at a vertex of the link tells

  module _ {from to v r : ℕ} (u : Under (read number) (read last) (read below bottom) from to) (p : read places v ≡ c.link)
      (x : ExitAt ends incident begins number places over v from to r) where
    -- the test, in the tree's terms
    passes_leads : {f s w : ℕ} → Back g t f s w → Passes ends number places f (read places v) from to → Leads (read places s) c.link (read number w) from to
    passes_leads b = leads_as (ap (read places) (upper_is b)) p (ap (read number) (lower_is b))

    leads_passes : {f s w : ℕ} → Back g t f s w → Leads (read places s) c.link (read number w) from to → Passes ends number places f (read places v) from to
    leads_passes b = leads_as (sym (ap (read places) (upper_is b))) (sym p) (sym (ap (read number) (lower_is b)))

    pub stays_at : r ≡ 0 → Stays g t built (λ e. c.whole e - 1) (read places) (read below) c.link bottom v
    stays_at z e y s w j n b = let (k, h, l, q) = c.ground.grouped.place e v y j in
        leads_not_out tree c.ground.beneath.preorder child_vertex u (λ i. x.none z k
        (record { from = h; to = l; new = subst (λ (d : ℕ). 1 ≤ read over d) (sym q) (omega (arith, c.uses.off e n, c.ground.beneath.some e j.edge)) })
        (subst (λ (d : ℕ). Passes ends number places (d - 1) (read places v) from to) (sym (ap (read over) q ∙ c.uses.off e n)) (leads_passes b i)))

    pub leaves_at : (r ≡ 0 → ⊥) → Exit g t built (λ e. c.whole e - 1) (read places) (read below) c.link bottom (r - 1)
    leaves_at n =
        let (k, h, q, i) = x.some n in
        let (y, at) = c.ground.grouped.joins v k (inside_below p) h.from h.to in
        let j = leads_to at h.new in
        let (s, w, b) = over_back tree c.ground.beneath.overs j in
        let o = as_first h.new in
        let a : r - 1 ≡ c.whole (read incident k) - 1 = ap (λ (d : ℕ). d - 1) (q ∙ o) in
        record {
          at = v;
          edge = read incident k;
          to = y;
          upper = s;
          lower = w;
          inside = p;
          joins = j;
          new = new_edge h.new;
          is_over = a;
          back = subst (λ (d : ℕ). Back g t d s w) (sym a) b;
          out = leads_out tree c.ground.beneath.preorder child_vertex u (joins_vertex (joins_sym b.joins))
              (passes_leads b (subst (λ (d : ℕ). Passes ends number places (d - 1) (read places v) from to) o i));
        }

  -- The two ends.

  abbrev pub Still : ℕ → Type 0
  Still y = Stays g t built (λ e. c.whole e - 1) (read places) (read below) c.link bottom y

  abbrev pub Sought : ℕ → ℕ → Type 0
  Sought a b = Between g t (read places) c.link Still a b

  pub sought_start : Sought top bottom
  sought_start = between_start tree c.state.filed c.state.belows c.tips c.large _

  -- some vertex of the link has a way out
  sought_apart : {a b : ℕ} → Sought a b → Still a → a ≡ b → ⊥
  sought_apart r s e = exit_there tree c.state.along.held c.ground.beneath.overs c.state.filed c.state.belows c.tips c.large c.ground.three
      (along_stage c.state.along)
      (λ v d y f w p j n k. between_all tree c.state.filed c.state.belows c.tips c.large _ r e s v p d y f w j n k)

  abbrev pub Descended : ℕ → ℕ → Type 0
  Descended a b = Down g t (read places) (read below) c.link Still a b

  pub sought_down : {a b : ℕ} → Sought a b → Still a → Descended a b
  sought_down r s = between_down tree c.state.filed c.state.belows c.tips c.large _ r (sought_apart r s) s

  -- at the parent, as the code has it
  pub record Ascended (a b : ℕ) : Type 0 where
    pub rises : Rises ends first b
    pub next : Sought a (next_up ends first b)
    pub falls : read number (next_up ends first b) < read number b
    pub least : read number a ≤ read number (next_up ends first b)

  pub sought_up : {a b : ℕ} → Sought a b → Still b → Ascended a b
  sought_up {a} {b} r s = go (between_up tree c.state.filed c.state.belows c.tips c.large _ r
      (λ e. sought_apart r (λ d y f w j n k. s d y f w (subst (λ (x : ℕ). Joins g d x y) e j) n k) e) s)
    where
      go : Up g t (read places) c.link Still a b → Ascended a b
      go u = let p = parent_is c.ground.rooted u.child in record {
        rises = child_rises c.ground.rooted u.child;
        next = subst (Sought a) p u.next;
        falls = subst (λ (x : ℕ). read number x < read number b) p u.falls;
        least = subst (λ (x : ℕ). read number a ≤ read number x) p u.least;
      }
