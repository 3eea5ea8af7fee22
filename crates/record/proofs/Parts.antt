-- A vertex becomes a branch, in the tables: what `split` and `cut` read, and that what `split` writes is right.
use Rattle.std.proofs.Common.{◌≡◌, ℕ, suc, ◌+◌, ◌-◌, ◌*◌, ◌<◌, ◌≤◌, List, length, set, sym, refl, ◌∙◌, subst, inl, inr, arith, length-set, get_or-set_other, get_or-set_same}
use Rattle.connectivity.specs.Plan.{plan, graph, Limits}
use Rattle.connectivity.specs.Graph.{Graph, Vertex}
use Rattle.connectivity.specs.Walk.{Leg}
use Rattle.connectivity.proofs.Kept.{vertex_size, bound_is}
use Rattle.tree.specs.Tree.{Pointers, Child, Above, Climb}
use Rattle.tree.specs.Filed.{already}
use Rattle.tree.proofs.Above.{above_cases, parent_vertex, way_up}
use Rattle.tree.proofs.NewLink.{links_most}
use Rattle.tree.proofs.Parting.{Lone, Renamed, Stays, Becomes, Lying, Within, within, tips_vertices, not_top, not_bottom, part_room, part_whole, part_top, part_bottom, part_upper, part_lower}
use Rattle.graph.specs.Marks.{read}
use Rattle.record.specs.Ways.{next_up, Way, Marking, MarkedOn, MarkedUp}
use Rattle.numbers.specs.Standing.{tree_of}
use Rattle.record.specs.Linking.{top_of, bottom_of, with_tips, Splitting, Parted, PartedBy}
use Rattle.record.specs.Parting.{Cutting, CutAt, InsideCut, whole, off_top, off_bottom, off_upper, off_lower}
use Rattle.record.proofs.Climbing.{parent_is, child_rises, climb_way}
use Rattle.record.proofs.TwoTips.{tips_length, top_same, bottom_same, top_other, bottom_other}

-- Tables in which a number or the tips of one or two links are written.

lone_set : (places : List ℕ) (v : ℕ) → v < length places → Lone (read places) (read (set places v 1)) v
lone_set places v h = record { at = get_or-set_same places v 1 0 h; off = λ y n. get_or-set_other places v y 1 0 n }

module _ (tips : List ℕ) (own a b next : ℕ) where
  stays_top : Stays (top_of tips) (top_of (with_tips tips own a b)) next own
  stays_top = record { off = λ k h n. top_other tips own a b k n }

  stays_bottom : Stays (bottom_of tips) (bottom_of (with_tips tips own a b)) next own
  stays_bottom = record { off = λ k h n. bottom_other tips own a b k n }

  module _ (x y : ℕ) where
    tops_two : Stays (top_of tips) (top_of (with_tips (with_tips tips own a b) next x y)) next own
    tops_two = record { off = λ k h n. top_other (with_tips tips own a b) next x y k (λ p. omega (arith, p, h)) ∙ top_other tips own a b k n }

    bottoms_two : Stays (bottom_of tips) (bottom_of (with_tips (with_tips tips own a b) next x y)) next own
    bottoms_two = record { off = λ k h n. bottom_other (with_tips tips own a b) next x y k (λ p. omega (arith, p, h)) ∙ bottom_other tips own a b k n }

renamed : {place after : ℕ → ℕ} {legs : List Leg} {w m : ℕ} → MarkedOn legs w m place after → Renamed place after legs w m
renamed r = record { on = r.on; end = r.end; off = r.off }

strictly_above : {g : Graph} {t : Pointers} {u v : ℕ} → Above g t u v → (u ≡ v → ⊥) → Above g t u (t.parent v)
strictly_above a n = elim (above_cases a) [ inl p ↦ absurd (n p) | inr (c, h) ↦ h ]

parted_by : {g : Graph} {t : Pointers} {v next : ℕ} {place after top' bottom' : ℕ → ℕ} {next' : ℕ} → Becomes g t v place next after top' bottom' next'
    → Parted g t v next place after top' bottom' next'
parted_by b = record { marked = b.0; links = b.1; gone = b.2 }

marking_as : {most : Limits} {ends first : List ℕ} {a b x y size : ℕ} → a ≡ x → b ≡ y → Marking most ends first a b size → Marking most ends first x y size
marking_as {most} {ends} {first} {a} {y = y} {size} p q m =
    subst (λ (u : ℕ). Marking most ends first u y size) p (subst (λ (w : ℕ). Marking most ends first a w size) q m)

marked_as : {most : Limits} {ends first : List ℕ} (before after : List ℕ) {a b x y m : ℕ} → a ≡ x → b ≡ y → MarkedUp most ends first x y m before after → MarkedUp most ends first a b m before after
marked_as {most} {ends} {first} before after {a} {y = y} {m = m} p q k =
    subst (λ (w : ℕ). MarkedUp most ends first a w m before after) (sym q) (subst (λ (u : ℕ). MarkedUp most ends first u y m before after) (sym p) k)

-- What `cut` answers, of the vertex above that it has found.

pub cut_bottom : {v top bottom down : ℕ} (up r : ℕ) → r ≡ up → (v + 1 ≡ top → ⊥) → v + 1 ≡ bottom → CutAt v top bottom (up + 1) down top (r + 1) 0 0
cut_bottom {v} {top} {bottom} {down} up r e m q = subst (λ (x : ℕ). CutAt v top bottom (x + 1) down top (r + 1) 0 0) e (off_bottom m q)

pub cut_between : {v top bottom down : ℕ} (up r t b h l : ℕ) → r ≡ up → InsideCut top bottom (r + 1) down t b h l → (v + 1 ≡ top → ⊥) → (v + 1 ≡ bottom → ⊥)
    → CutAt v top bottom (up + 1) down t b h l
cut_between {v} {top} {bottom} {down} up r t b h l e k m o = subst (λ (x : ℕ). CutAt v top bottom (x + 1) down t b h l) e (k v m o)

-- What `split` reads.

module _ {most : Limits} {ends first below places tips : List ℕ} {v next : ℕ} (c : Splitting most ends first below v next places tips) where
  abbrev here : Graph
  here = graph (plan c.n ends c.excluded)

  abbrev stem : Pointers
  stem = tree_of (plan c.n ends c.excluded) c.root first c.rank

  abbrev own : ℕ
  own = read places v

  at_v : Vertex here v
  at_v = c.vertex

  v_below : v < c.n
  v_below = vertex_size (plan c.n ends c.excluded) at_v

  pub v_fits : v < length places
  v_fits = omega (arith, v_below, c.filing.roomy.places_long)

  next_most : next ≤ c.n + 2
  next_most = omega (arith, links_most c.filing.links, bound_is (plan c.n ends c.excluded))

  pub own_room : 2 * own + 2 ≤ length tips
  own_room = omega (arith, next_most, c.filing.links.below v, c.filing.roomy.tips_long)

  pub own_small : own < most.vertices + 2
  own_small = omega (arith, next_most, c.filing.links.below v, c.filing.rooted.admitted.vertices)

  pub next_small : next ≤ most.vertices + 2
  next_small = omega (arith, next_most, c.filing.rooted.admitted.vertices)

  old : own ≡ next → ⊥
  old p = omega (arith, p, c.filing.links.below v)

  lone : Lone (read places) (read (set places v 1)) v
  lone = lone_set places v v_fits

  places_long : c.n ≤ length (set places v 1)
  places_long = omega (arith, c.filing.roomy.places_long, length-set places v 1)

  module _ (n : own ≡ 1 → ⊥) where
    large : 2 ≤ own
    large = omega (arith, n, c.built)

    tips_of : Within here stem (read places) (top_of tips) (bottom_of tips) v
    tips_of = within c.filing.links large

    lying : Lying here stem (read places) (read below) (top_of tips) (bottom_of tips) next v tips_of.high tips_of.low
    lying = record {
      tree = c.filing.rooted.tree;
      shelved = c.filing.shelved;
      belows = c.filing.belows;
      links = c.filing.links;
      large = large;
      tips = tips_of.tips;
    }

    is_high : v + 1 ≡ top_of tips own → v ≡ tips_of.high
    is_high p = omega (arith, p, tips_of.at_high)

    is_low : v + 1 ≡ bottom_of tips own → v ≡ tips_of.low
    is_low p = omega (arith, p, tips_of.at_low)

    tip_below : (tips_of.high < c.n) × (tips_of.low < c.n)
    tip_below = let (a, b) = tips_vertices c.filing.rooted.tree tips_of.tips at_v in (vertex_size (plan c.n ends c.excluded) a, vertex_size (plan c.n ends c.excluded) b)

    high_is : tips_of.high ≡ top_of tips own - 1
    high_is = omega (arith, tips_of.at_high)

    low_is : tips_of.low ≡ bottom_of tips own - 1
    low_is = omega (arith, tips_of.at_low)

    -- the ways from v up to the top, and from the bottom up to v
    upper_whole : Way most ends first v (top_of tips own - 1)
    upper_whole = subst (Way most ends first v) high_is (climb_way c.filing.rooted (way_up (tips_of.tips.highest v refl)).1 v_below)

    lower_whole : Way most ends first (bottom_of tips own - 1) v
    lower_whole = subst (λ (w : ℕ). Way most ends first w v) low_is (climb_way c.filing.rooted (way_up (tips_of.tips.lowest v refl)).1 tip_below.1)

    -- v is not the top
    module _ (m : v + 1 ≡ top_of tips own → ⊥) where
      under : v ≡ tips_of.high → ⊥
      under p = m (omega (arith, p, tips_of.at_high))

      child : Child here stem v
      child = (not_top lying under).0

      up_is : stem.parent v ≡ next_up ends first v
      up_is = parent_is c.filing.rooted child

      up_below : stem.parent v < c.n
      up_below = vertex_size (plan c.n ends c.excluded) (parent_vertex c.filing.rooted.tree child)

    pub split_cutting : Cutting most ends first below v (top_of tips own) (bottom_of tips own)
    split_cutting = record {
      small = omega (arith, v_below, c.filing.rooted.admitted.vertices);
      below_long = omega (arith, v_below, c.filing.roomy.below_long);
      some_top = omega (arith, tips_of.at_high);
      some_bottom = omega (arith, tips_of.at_low);
      between = λ m o. record { upper = upper_whole; lower = lower_whole };
      rises = λ m. child_rises c.filing.rooted (child m);
      up_small = λ m. omega (arith, up_is m, up_below m, c.filing.rooted.admitted.vertices);
    }

    -- What it writes, where no link is new.

    -- the tips of the link that is cut
    at_top : (a b : ℕ) → top_of (with_tips tips own a b) own ≡ a
    at_top a b = top_same tips own a b own_room

    at_bottom : (a b : ℕ) → bottom_of (with_tips tips own a b) own ≡ b
    at_bottom a b = bottom_same tips own a b own_room

    abbrev Cuts : ℕ → ℕ → ℕ → ℕ → Type 0
    Cuts = CutAt v (top_of tips own) (bottom_of tips own) (next_up ends first v + 1) (read below v)

    split_kept : {t b h l : ℕ} → Cuts t b h l → h ≡ 0
        → Parted here stem v next (read places) (read (set places v 1)) (top_of (with_tips tips own t b)) (bottom_of (with_tips tips own t b)) next
    split_kept {t} {b} (whole p q) z =
        parted_by (part_whole lying (stays_top tips own t b next) (stays_bottom tips own t b next) lone (is_high p) (is_low q) (at_top t b))
    split_kept {t} {b} (off_top p o) z = parted_by (part_top lying (stays_top tips own t b next) (stays_bottom tips own t b next) lone
        (is_high p) (λ q. o (omega (arith, q, tips_of.at_low))) (at_top t b) (at_bottom t b ∙ tips_of.at_low))
    split_kept {t} {b} (off_bottom m q) z = parted_by (part_bottom lying (stays_top tips own t b next) (stays_bottom tips own t b next) lone
        (is_low q) (under m) (at_top t b ∙ tips_of.at_high) (at_bottom t b ∙ omega (arith, up_is m)))
    split_kept (off_upper m o) z = absurd (omega (arith, z, tips_of.at_high))
    split_kept (off_lower m o) z = absurd (omega (arith, z, (not_bottom lying (λ q. o (omega (arith, q, tips_of.at_low)))).3))

    -- And where one is: v is neither tip.

    module _ (m : v + 1 ≡ top_of tips own → ⊥) (o : v + 1 ≡ bottom_of tips own → ⊥) where
      over : v ≡ tips_of.low → ⊥
      over q = o (omega (arith, q, tips_of.at_low))

      -- the child below v
      down : (d : ℕ) × Child here stem d × (stem.parent d ≡ v) × (read below v ≡ suc d) × (read places d ≡ own)
      down = not_bottom lying over

      room : next < c.n + 2
      room = omega (arith, part_room lying (under m) over, bound_is (plan c.n ends c.excluded))

      -- the way from above v up to the top
      abbrev upper : (legs : List Leg) × Climb here stem (λ y. y ≡ tips_of.high) (stem.parent v) legs tips_of.high
      upper = way_up (strictly_above (tips_of.tips.highest v refl) (λ p. under m (sym p)))

      abbrev upper_marking : Marking most ends first (stem.parent v) tips_of.high (length (set places v 1))
      upper_marking = record { way = climb_way c.filing.rooted upper.1 (up_below m); room = places_long }

      -- and from the bottom to below v
      abbrev lower : (legs : List Leg) × Climb here stem (λ y. y ≡ down.0) tips_of.low legs down.0
      lower = way_up (tips_of.tips.lowest down.0 down.4)

      abbrev lower_marking : Marking most ends first tips_of.low down.0 (length (set places v 1))
      lower_marking = record { way = climb_way c.filing.rooted lower.1 tip_below.1; room = places_long }

      down_is : down.0 ≡ read below v - 1
      down_is = omega (arith, down.3)

      above_is : stem.parent v ≡ next_up ends first v + 1 - 1
      above_is = omega (arith, up_is m)

      upper_way : Marking most ends first (next_up ends first v + 1 - 1) (top_of tips own - 1) (length (set places v 1))
      upper_way = marking_as above_is high_is upper_marking

      lower_way : Marking most ends first (bottom_of tips own - 1) (read below v - 1) (length (set places v 1))
      lower_way = marking_as low_is down_is lower_marking

      abbrev x : ℕ
      x = read below v

      abbrev y : ℕ
      y = top_of tips own

      abbrev z : ℕ
      z = bottom_of tips own

      abbrev u : ℕ
      u = next_up ends first v + 1

      -- the tips of both links then
      new_room : (a b : ℕ) → 2 * next + 2 ≤ length (with_tips tips own a b)
      new_room a b = omega (arith, tips_length tips own a b, room, c.filing.roomy.tips_long)

      old_top : (a b h l : ℕ) → top_of (with_tips (with_tips tips own a b) next h l) own ≡ a
      old_top a b h l = top_other (with_tips tips own a b) next h l own old ∙ at_top a b

      old_bottom : (a b h l : ℕ) → bottom_of (with_tips (with_tips tips own a b) next h l) own ≡ b
      old_bottom a b h l = bottom_other (with_tips tips own a b) next h l own old ∙ at_bottom a b

      new_top : (a b h l : ℕ) → top_of (with_tips (with_tips tips own a b) next h l) next ≡ h
      new_top a b h l = top_same (with_tips tips own a b) next h l (new_room a b)

      new_bottom : (a b h l : ℕ) → bottom_of (with_tips (with_tips tips own a b) next h l) next ≡ l
      new_bottom a b h l = bottom_same (with_tips tips own a b) next h l (new_room a b)

      module _ (places' : List ℕ) where
        after_upper : MarkedUp most ends first (u - 1) (y - 1) next (set places v 1) places'
            → Parted here stem v next (read places) (read places') (top_of (with_tips (with_tips tips own x z) next y u))
            (bottom_of (with_tips (with_tips tips own x z) next y u)) (next + 1)
        after_upper k = parted_by (part_upper lying
            (tops_two tips own x z next y u) (bottoms_two tips own x z next y u)
            (under m) over lone upper.1 (renamed ((marked_as (set places v 1) places' above_is high_is k).1 upper_marking))
            (old_top x z y u)
            (old_bottom x z y u ∙ tips_of.at_low)
            (new_top x z y u ∙ tips_of.at_high)
            (new_bottom x z y u ∙ omega (arith, up_is m)))

        after_lower : MarkedUp most ends first (z - 1) (x - 1) next (set places v 1) places'
            → Parted here stem v next (read places) (read places') (top_of (with_tips (with_tips tips own y u) next x z))
            (bottom_of (with_tips (with_tips tips own y u) next x z)) (next + 1)
        after_lower k = parted_by (part_lower lying
            (tops_two tips own y u next x z) (bottoms_two tips own y u next x z)
            (under m) over lone down.3 lower.1 (renamed ((marked_as (set places v 1) places' low_is down_is k).1 lower_marking))
            (old_top y u x z ∙ tips_of.at_high)
            (old_bottom y u x z ∙ omega (arith, up_is m))
            (new_top y u x z ∙ down.3)
            (new_bottom y u x z ∙ tips_of.at_low))

    pub split_new : {t b h l : ℕ} → Cuts t b h l → (h ≡ 0 → ⊥) → (next < c.n + 2) × (1 ≤ l) × Marking most ends first (l - 1) (h - 1) (length (set places v 1))
    split_new (whole p q) z = absurd (z refl)
    split_new (off_top p o) z = absurd (z refl)
    split_new (off_bottom m q) z = absurd (z refl)
    split_new (off_upper m o) z = (room m o, omega arith, upper_way m o)
    split_new (off_lower m o) z = (room m o, omega (arith, tips_of.at_low), lower_way m o)

    split_after : (places' : List ℕ) {t b h l : ℕ} → Cuts t b h l → (h ≡ 0 → ⊥) → MarkedUp most ends first (l - 1) (h - 1) next (set places v 1) places'
        → Parted here stem v next (read places) (read places') (top_of (with_tips (with_tips tips own t b) next h l))
        (bottom_of (with_tips (with_tips tips own t b) next h l)) (next + 1)
    split_after places' (whole p q) z k = absurd (z refl)
    split_after places' (off_top p o) z k = absurd (z refl)
    split_after places' (off_bottom m q) z k = absurd (z refl)
    split_after places' (off_upper m o) z k = after_upper m o places' k
    split_after places' (off_lower m o) z k = after_lower m o places' k

-- What `split` promises.

module _ {most : Limits} {ends first below places tips : List ℕ} {v next : ℕ} where
  pub split_already : read places v ≡ 1 → PartedBy most ends first below v next places tips places tips next
  split_already p = (refl, refl, λ c. (record { marked = already p (λ y. refl); links = c.filing.links; gone = λ m h i none. none }, omega arith))

  module _ (t b h l : ℕ) (n : read places v ≡ 1 → ⊥)
      (d : CutAt v (top_of tips (read places v)) (bottom_of tips (read places v)) (next_up ends first v + 1) (read below v) t b h l) where
    pub split_old : h ≡ 0 → PartedBy most ends first below v next places tips (set places v 1) (with_tips tips (read places v) t b) next
    split_old z = (length-set places v 1, tips_length tips (read places v) t b, λ c. (split_kept c n d z, omega arith))

    pub split_more : (places' : List ℕ) → (h ≡ 0 → ⊥) → MarkedUp most ends first (l - 1) (h - 1) next (set places v 1) places'
        → PartedBy most ends first below v next places tips places' (with_tips (with_tips tips (read places v) t b) next h l) (next + 1)
    split_more places' z k = (
      k.0 ∙ length-set places v 1,
      tips_length (with_tips tips (read places v) t b) next h l ∙ tips_length tips (read places v) t b,
      λ c. (split_after c n places' d z k, omega arith),
    )
