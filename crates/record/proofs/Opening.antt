-- The first three walks are built one after the other.
use Rattle.std.proofs.Common.{◌≡◌, ℕ, suc, ◌+◌, ◌/◌, ◌<◌, ◌≤◌, ◌⊎◌, List, [], ◌∷◌, ◌++◌, length, set, sym, refl, ap, ◌∙◌, subst, inl, inr, arith, length-set, get_or-set_other, get_or-set_same}
use mathlib.Core.List.Memᴰ.{append_cases as in-cases}
use mathlib.Core.List.Memᴰ.{append_left as in_left}
use mathlib.Core.List.Memᴰ.{append_right as in_right}
use mathlib.Core.List.Memᴰ.{cases_cons as in-cons}
use mathlib.Core.List.Memᴰ.{head as first-in}
use mathlib.Core.List.Memᴰ.{not-nil as not_in}
use mathlib.Core.List.Memᴰ.{tail as later}
use mathlib.Core.List.{Memᴰ as In}
use native.Mathlib.Decide.{ℕ_discrete, dec_le}
use Rattle.connectivity.specs.Lists.{no_member}
use Rattle.connectivity.specs.Plan.{Plan, plan, graph, Limits}
use Rattle.connectivity.specs.Graph.{Graph}
use Rattle.connectivity.specs.Walk.{Leg, froms, edges_of}
use Rattle.connectivity.proofs.Lists.{in_dec}
use Rattle.tree.specs.Tree.{Pointers, Child, Above, Tree, Climb}
use Rattle.tree.specs.Filed.{Filed, Grown, Noted, Belows}
use Rattle.tree.specs.State.{State}
use Rattle.tree.specs.Links.{Links}
use Rattle.tree.proofs.Above.{UpClosed, same_suc, not_over, climb_as, climb_end, climb_new, climb_next, climb_on, climb_child}
use Rattle.tree.proofs.Begin.{climb_start}
use Rattle.tree.proofs.Splitting.{some_child, filed_grown, belows_grown}
use Rattle.tree.proofs.State.{belows_map, state_begin}
use Rattle.tree.proofs.Opening.{Ends, filed_ends, climb_one, climb_two, climb_three}
use Rattle.tree.proofs.Shelving.{filed_built, filed_branch, filed_own}
use Rattle.graph.specs.Marks.{read}
use Rattle.numbers.specs.Standing.{tree_of}
use Rattle.record.specs.Linking.{top_of, bottom_of, Roomy, Building, Walked, WalkedBy}
use Rattle.record.specs.Leaving.{Uses}
use Rattle.record.specs.Recording.{Holds}
use Rattle.record.specs.Opening.{Climbs, three_walks, Raw, WayAt}
use Rattle.record.proofs.Climbing.{climb_to_below}
use Rattle.record.proofs.ThreeRows.{x_child, x_below, root_below, parent_below, w_below, u_below, f_below, d_below, e_below}

-- The edges that are built.

uses_next : {g : Graph} {t : Pointers} {e next next' : ℕ} {legs : List Leg} {built : List ℕ} {whole place below over place' below' top' bottom' over' : ℕ → ℕ}
    → Uses built whole over → Walked g t e legs next place below over place' below' top' bottom' over' next' → Uses (e ∷ (edges_of legs ++ built)) whole over'
uses_next {e = e} {legs = legs} {built = built} {over = over} {over' = over'} h w = record {
  on = λ d i. elim (ℕ_discrete d e) [
    | yes p ↦ rw p w.over_edge
    | no n ↦ elim (in_dec d (edges_of legs)) [
      | yes j ↦ w.over_on d j
      | no m ↦ w.over_off d n m ∙ h.on d (old d n m i)
    ]
  ];
  off = λ d n. w.over_off d (λ p. n (first-in p)) (λ i. n (later (in_left built i))) ∙ h.off d (λ i. n (later (in_right (edges_of legs) i)));
}
  where
    old : (d : ℕ) → (d ≡ e → ⊥) → (In d (edges_of legs) → ⊥) → In d (e ∷ (edges_of legs ++ built)) → In d built
    old d n m i = elim (in-cons i) [ inl p ↦ absurd (n p) | inr j ↦ elim (in-cases (edges_of legs) j) [ inl k ↦ absurd (m k) | inr k ↦ k ] ]

-- What is built is closed upwards, from the first walk on.

up_grown : {g : Graph} {t : Pointers} {B : ℕ → Type 0} {v y : ℕ} {legs : List Leg} → Tree g t → UpClosed g t B → Climb g t B v legs y
    → UpClosed g t (λ z. B z ⊎ In z (froms legs))
up_grown tree f k z c (inl h) = inl (f z c h)
up_grown {B = B} tree f k z c (inr i) = elim (climb_next tree k i) [ inl j ↦ inr j | inr p ↦ inl (subst B (sym p) (climb_end k)) ]

-- After some of the walks: what is built, its places, the children noted below, the links, and the edges.
pub record Stands (p : Plan) (root : ℕ) (first : List ℕ) (rank whole : ℕ → ℕ) (x : ℕ) (B : ℕ → Type 0) (built places below tips over : List ℕ) (next : ℕ) : Type 0 where
  pub filed : Filed (graph p) (tree_of p root first rank) B (λ v. Ends (tree_of p root first rank) x v) (read places)
  pub belows : Belows (graph p) (tree_of p root first rank) B (read places) (read below)
  pub links : Links (graph p) (tree_of p root first rank) (read places) (top_of tips) (bottom_of tips) next
  pub uses : Uses built whole (read over)
  pub roomy : Roomy p.vertices below places tips
  pub over_long : length p.ends / 2 ≤ length over

module _ {most : Limits} {p : Plan} {root : ℕ} {first : List ℕ} {rank : ℕ → ℕ} {x f w d u : ℕ} (c : Climbs most p root first rank x f w d u) where
  abbrev g : Graph
  g = graph p

  abbrev t : Pointers
  t = tree_of p root first rank

  module _ {B : ℕ → Type 0} {whole : ℕ → ℕ} {built places below tips over : List ℕ} {next v y e : ℕ} {legs : List Leg}
      (s : Stands p root first rank whole x B built places below tips over next) (kb : (z : ℕ) → Ends t x z → B z)
      (k : Climb g t B v legs y) (ky : Ends t x y) (hv : v < p.vertices) (he : e < length p.ends / 2) where
    abbrev pub building : Building most p.ends first e v y next places below tips over
    building = record {
      n = p.vertices;
      excluded = p.excluded;
      root = root;
      rank = rank;
      filing = record {
        rooted = c.rooted;
        shelved = filed_own s.filed kb;
        belows = belows_map (λ z. filed_built s.filed) s.filed.built s.belows;
        links = s.links;
        roomy = s.roomy;
      };
      legs = legs;
      climb = climb_as k (filed_built s.filed (kb y ky)) (λ z i h. climb_new k i (s.filed.built z h));
      branch = filed_branch s.filed (kb y ky) ky;
      from = hv;
      to = climb_to_below c.rooted k hv;
      edge = he;
      over_long = s.over_long;
    }

    -- one walk more
    stands_grown : (places' below' tips' over' : List ℕ) (next' : ℕ)
        → WalkedBy most p.ends first e v y next places below tips over places' below' tips' over' next'
        → (Grown (read places) (read places') legs next → Noted t (read below) (read below') legs → Belows g t (λ z. B z ⊎ In z (froms legs)) (read places') (read below'))
        → Stands p root first rank whole x (λ z. B z ⊎ In z (froms legs)) (e ∷ (edges_of legs ++ built)) places' below' tips' over' next'
    stands_grown places' below' tips' over' next' b h = let m = (b.4 building).0 in record {
      filed = filed_grown c.rooted.tree s.filed kb k ky m.grown;
      belows = h m.grown m.noted;
      links = m.links;
      uses = uses_next s.uses m;
      roomy = record {
        below_long = omega (arith, b.1, s.roomy.below_long);
        places_long = omega (arith, b.0, s.roomy.places_long);
        tips_long = omega (arith, b.2, s.roomy.tips_long);
      };
      over_long = omega (arith, b.3, s.over_long);
    }

    stands_next : UpClosed g t B → (places' below' tips' over' : List ℕ) (next' : ℕ)
        → WalkedBy most p.ends first e v y next places below tips over places' below' tips' over' next'
        → Stands p root first rank whole x (λ z. B z ⊎ In z (froms legs)) (e ∷ (edges_of legs ++ built)) places' below' tips' over' next'
    stands_next up places' below' tips' over' next' b = stands_grown places' below' tips' over' next' b
        (λ grown noted. belows_grown c.rooted.tree s.filed kb k ky grown up s.belows noted)

-- All three.

module _ {most : Limits} {ends first : List ℕ} {root x e p f w d u : ℕ} (places below tips over : List ℕ) (c : Raw most ends first root x e p f w d u places below tips over) where
  abbrev b : Climbs most (plan c.n ends c.excluded) root first c.rank x f w d u
  b = c.climbs

  abbrev gr : Graph
  gr = graph (plan c.n ends c.excluded)

  abbrev tr : Pointers
  tr = tree_of (plan c.n ends c.excluded) root first c.rank

  pub root_fits : root < length places
  root_fits = omega (arith, root_below b, c.roomy.places_long)

  pub x_fits : x < length places
  x_fits = omega (arith, x_below b, c.roomy.places_long)

  pub p_below : p < c.n
  p_below = subst (λ (y : ℕ). y < c.n) (sym c.parent) (parent_below b)

  pub p_fits : p < length below
  p_fits = omega (arith, p_below, c.roomy.below_long)

  pub x_small : x < most.vertices
  x_small = omega (arith, x_below b, b.rooted.admitted.vertices)

  -- the root and x are branches, and x is noted below its parent
  abbrev places_0 : List ℕ
  places_0 = set (set places root 1) x 1

  abbrev below_0 : List ℕ
  below_0 = set below p (x + 1)

  one_at : (v : ℕ) → Ends tr x v → read places_0 v ≡ 1
  one_at v h = elim (ℕ_discrete v x) [
    | yes q ↦ rw q (get_or-set_same (set places root 1) x 1 0 (omega (arith, x_fits, length-set places root 1)))
    | no n ↦ elim h [
      | inl q ↦ get_or-set_other (set places root 1) x v 1 0 n ∙ rw q (get_or-set_same places root 1 0 root_fits)
      | inr q ↦ absurd (n q)
    ]
  ]

  zero_at_lem : (v : ℕ) → (Ends tr x v → ⊥) → read places_0 v ≡ 0
  zero_at_lem v n = get_or-set_other (set places root 1) x v 1 0 (λ q. n (inr q)) ∙ get_or-set_other places root v 1 0 (λ q. n (inl q)) ∙ c.places_blank v

  filed_0 : Filed gr tr (λ v. Ends tr x v) (λ v. Ends tr x v) (read places_0)
  filed_0 = filed_ends one_at zero_at_lem

  small : (v : ℕ) → 2 ≤ read places_0 v → ⊥
  small v h = filed_0.plain v h (filed_0.built v (omega (arith, h)))

  below_at : read below_0 (tr.parent x) ≡ suc x
  below_at = ap (read below_0) (sym c.parent) ∙ get_or-set_same below p (x + 1) 0 p_fits ∙ omega arith

  below_child : (v y : ℕ) → read below_0 v ≡ suc y → Child gr tr y × (tr.parent y ≡ v) × Ends tr x y
  below_child v y h = elim (ℕ_discrete v p) [
    | yes q ↦
        let e : x ≡ y = same_suc (sym below_at ∙ ap (read below_0) (sym c.parent ∙ sym q) ∙ h) in
        subst (λ (z : ℕ). Child gr tr z × (tr.parent z ≡ v) × Ends tr x z) e (x_child b, sym c.parent ∙ sym q, inr refl)
    | no n ↦ absurd (omega (arith, h, get_or-set_other below p v (x + 1) 0 n, c.below_blank v))
  ]

  stands_0 : Stands (plan c.n ends c.excluded) root first c.rank (read over) x (λ v. Ends tr x v) [] places_0 below_0 tips over 2
  stands_0 = record {
    filed = filed_0;
    belows = record { child = below_child; only = λ y h k l. absurd (small _ l) };
    links = record {
      each = λ m h l. absurd (omega (arith, h, l));
      below = λ y. elim (dec_le 2 (read places_0 y)) [ yes h ↦ absurd (small y h) | no n ↦ omega (arith, n) ];
      names = [];
      count = refl;
      once = no_member;
      vertex = λ o i. absurd (not_in i);
      namer = λ o i. absurd (not_in i);
    };
    uses = record { on = λ d i. absurd (not_in i); off = λ d n. refl };
    roomy = record {
      below_long = omega (arith, length-set below p (x + 1), c.roomy.below_long);
      places_long = omega (arith, length-set (set places root 1) x 1, length-set places root 1, c.roomy.places_long);
      tips_long = c.roomy.tips_long;
    };
    over_long = c.over_long;
  }

  -- From x up to the root.

  climb_1 : Climb gr tr (λ v. Ends tr x v) p b.high root
  climb_1 = subst (λ (y : ℕ). Climb gr tr (λ v. Ends tr x v) y b.high root) (sym c.parent)
      (climb_one b.rooted.tree b.child b.one b.other b.differ b.meets b.to_x b.up)

  edge_1 : e < length ends / 2
  edge_1 = subst (λ (y : ℕ). y < length ends / 2) (sym c.edge) (e_below b)

  belows_1 : {place noted : ℕ → ℕ} → Noted tr (read below_0) noted b.high → Belows gr tr (λ v. Ends tr x v ⊎ In v (froms b.high)) place noted
  belows_1 {place} {noted} n = record {
    child = λ v y h. elim (some_child tr v (froms b.high)) [
      | inl (z, i, q) ↦
          let e : z ≡ y = same_suc (sym (n.new z i) ∙ ap noted q ∙ h) in
          subst (λ (a : ℕ). Child gr tr a × (tr.parent a ≡ v) × (Ends tr x a ⊎ In a (froms b.high))) e (climb_child b.rooted.tree climb_1 i, q, inr i)
      | inr o ↦ let r = below_child v y (sym (n.away v o) ∙ h) in (r.0, r.1, inl r.2)
    ];
    only = λ y h k l. elim k [
      | inr i ↦ n.new y i
      | inl (inl q) ↦ absurd (h.other q)
      | inl (inr q) ↦ rw q (n.away (tr.parent x) (λ z i r. not_over b.rooted.tree (climb_child b.rooted.tree b.up i)
          (subst (Above gr tr z) (sym r) (climb_on b.rooted.tree b.up i))) ∙ below_at)
    ];
  }

  up_1 : UpClosed gr tr (λ v. Ends tr x v ⊎ In v (froms b.high))
  up_1 v h (inl (inl q)) = absurd (h.other q)
  up_1 v h (inl (inr q)) = rw q (elim (climb_start b.rooted.tree b.up) [ inl i ↦ inr i | inr r ↦ inl (inl r) ])
  up_1 v h (inr i) = elim (climb_next b.rooted.tree climb_1 i) [ inl j ↦ inr j | inr r ↦ inl (inl r) ]

  climb_2 : Climb gr tr (λ v. Ends tr x v ⊎ In v (froms b.high)) w b.low x
  climb_2 = climb_two b.rooted.tree b.child b.one b.other b.differ b.meets b.to_x b.up

  climb_3 : Climb gr tr (λ v. (Ends tr x v ⊎ In v (froms b.high)) ⊎ In v (froms b.low)) u b.side x
  climb_3 = climb_three b.rooted.tree b.child b.one b.other b.differ b.meets b.to_x b.up

  -- After k of the walks.
  pub data Stage (k : ℕ) (places' below' tips' over' : List ℕ) (next : ℕ) : Type 0 where
    none : k ≡ 0 → Stands (plan c.n ends c.excluded) root first c.rank (read over) x (λ v. Ends tr x v) [] places' below' tips' over' next
        → ((place noted : ℕ → ℕ) → Noted tr (read below') noted b.high → Belows gr tr (λ v. Ends tr x v ⊎ In v (froms b.high)) place noted)
        → Stage k places' below' tips' over' next
    one : k ≡ 1
        → Stands (plan c.n ends c.excluded) root first c.rank (read over) x (λ v. Ends tr x v ⊎ In v (froms b.high)) (e ∷ (edges_of b.high ++ [])) places' below' tips' over' next
        → Stage k places' below' tips' over' next
    two : k ≡ 2
        → Stands (plan c.n ends c.excluded) root first c.rank (read over) x (λ v. (Ends tr x v ⊎ In v (froms b.high)) ⊎ In v (froms b.low))
        (f ∷ (edges_of b.low ++ (e ∷ (edges_of b.high ++ [])))) places' below' tips' over' next
        → Stage k places' below' tips' over' next
    all : k ≡ 3 → Holds (plan c.n ends c.excluded) root first c.rank (read over) (three_walks root x f e d b.low b.high b.side) places' below' tips' over' next
        → Stage k places' below' tips' over' next

  pub stage_start : {places-1 below-1 : List ℕ} → places-1 ≡ places_0 → below-1 ≡ below_0 → Stage 0 places-1 below-1 tips over 2
  stage_start q r = rw (q, r) (none refl stands_0 (λ place noted. belows_1))

  module _ {k next edge v stop : ℕ} {places-1 below-1 tips-1 over-1 : List ℕ} (s : Stage k places-1 below-1 tips-1 over-1 next) (h : k < 3)
      (a : WayAt k root x e p f w d u edge v stop) where
    pub stage_building : Building most ends first edge v stop next places-1 below-1 tips-1 over-1
    stage_building = elim s [
      | none q m _ ↦ let (i, j, l) = a.one q in rw (i, j, l) (building b m (λ z h. h) climb_1 (inl refl) p_below edge_1)
      | one q m ↦ let (i, j, l) = a.two q in rw (i, j, l) (building b m (λ z h. inl h) climb_2 (inr refl) (w_below b) (f_below b))
      | two q m ↦ let (i, j, l) = a.three q in rw (i, j, l) (building b m (λ z h. inl (inl h)) climb_3 (inr refl) (u_below b) (d_below b))
      | all q _ ↦ absurd (omega (arith, q, h))
    ]

    pub stage_next : (places-2 below-2 tips-2 over-2 : List ℕ) (next-2 : ℕ)
        → WalkedBy most ends first edge v stop next places-1 below-1 tips-1 over-1 places-2 below-2 tips-2 over-2 next-2
        → Stage (k + 1) places-2 below-2 tips-2 over-2 next-2
    stage_next places-2 below-2 tips-2 over-2 next-2 o = elim s [
      | none q m g ↦
          let (i, j, l) = a.one q in
          one (omega (arith, q))
          (stands_grown b m (λ z h. h) climb_1 (inl refl) p_below edge_1 places-2 below-2 tips-2 over-2 next-2 (rw (i, j, l) at o) (λ grown noted. g _ _ noted))
      | one q m ↦
          let (i, j, l) = a.two q in
          two (omega (arith, q))
          (stands_next b m (λ z h. inl h) climb_2 (inr refl) (w_below b) (f_below b) up_1 places-2 below-2 tips-2 over-2 next-2 (rw (i, j, l) at o))
      | two q m ↦
          let (i, j, l) = a.three q in
          let r = stands_next b m (λ z h. inl (inl h)) climb_3 (inr refl) (u_below b) (d_below b) (up_grown b.rooted.tree up_1 climb_2)
          places-2 below-2 tips-2 over-2 next-2 (rw (i, j, l) at o) in
          all (omega (arith, q)) record {
            state = subst (λ (y : ℕ). State gr tr (three_walks root x f y d b.low b.high b.side) (read places-2) (read below-2)) (sym c.edge)
                (state_begin b.rooted.tree b.child b.one b.other b.differ b.meets b.to_x b.up r.filed r.belows);
            links = r.links;
            uses = r.uses;
            roomy = r.roomy;
            over_long = r.over_long;
          }
      | all q _ ↦ absurd (omega (arith, q, h))
    ]

  pub stage_end : {k next : ℕ} {places-1 below-1 tips-1 over-1 : List ℕ} → Stage k places-1 below-1 tips-1 over-1 next → 3 ≤ k
      → Holds (plan c.n ends c.excluded) root first c.rank (read over) (three_walks root x f e d b.low b.high b.side) places-1 below-1 tips-1 over-1 next
  stage_end (none q _ _) h = absurd (omega (arith, q, h))
  stage_end (one q _) h = absurd (omega (arith, q, h))
  stage_end (two q _) h = absurd (omega (arith, q, h))
  stage_end (all _ z) h = z
