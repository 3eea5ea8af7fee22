-- A walk is built: what the tables hold afterwards, where the climb leaves nothing and where it becomes a link.
use Rattle.std.proofs.Common.{◌≡◌, ℕ, ◌+◌, ◌*◌, ◌<◌, ◌≤◌, List, [], ◌∷◌, length, set, sym, refl, ap, ◌∙◌, subst, inl, inr, arith, length-set, get_or-set_other, get_or-set_same}
use mathlib.Core.List.Memᴰ.{not-nil as not_in}
use mathlib.Core.List.{Memᴰ as In}
use Rattle.connectivity.specs.Plan.{plan, graph, Limits}
use Rattle.connectivity.specs.Graph.{Graph}
use Rattle.connectivity.specs.Walk.{Leg, froms, edges_of}
use Rattle.connectivity.proofs.Lists.{in_dec}
use Rattle.connectivity.proofs.Kept.{vertex_size, bound_is}
use Rattle.tree.specs.Tree.{Pointers, Climb, there}
use Rattle.tree.specs.Filed.{Grown, Noted}
use Rattle.tree.proofs.Above.{climb_same, climb_child}
use Rattle.tree.proofs.Begin.{climb_start}
use Rattle.tree.proofs.NewLink.{low_climb, low_on, on_low, links_room, links_grown}
use Rattle.graph.specs.Marks.{read}
use Rattle.record.specs.Ways.{next_up, Marking, MarkedUp, Raising, Raised, RaisedUp}
use Rattle.numbers.specs.Standing.{tree_of}
use Rattle.record.specs.Linking.{top_of, bottom_of, with_tips, Building, Walked}
use Rattle.record.proofs.Climbing.{parent_is, climb_way}
use Rattle.record.proofs.TwoTips.{top_same, bottom_same, top_other, bottom_other}

in_some : {x : ℕ} (legs : List Leg) → In x (froms legs) → 1 ≤ length legs
in_some [] i = absurd (not_in i)
in_some (l ∷ legs) i = omega arith

module _ {most : Limits} {ends first places below tips over : List ℕ} {e v stop next : ℕ} (c : Building most ends first e v stop next places below tips over) where
  abbrev pub g : Graph
  g = graph (plan c.n ends c.excluded)

  abbrev pub t : Pointers
  t = tree_of (plan c.n ends c.excluded) c.root first c.rank

  -- the place `next` is free
  grown_by : {place' : ℕ → ℕ} → ((y : ℕ) → In y (froms c.legs) → place' y ≡ next) → ((y : ℕ) → (In y (froms c.legs) → ⊥) → place' y ≡ read places y)
      → Grown (read places) place' c.legs next
  grown_by new away = record {
    large = omega (arith, c.filing.links.count);
    free = λ y p. omega (arith, p, c.filing.links.below y);
    new = new;
    away = away;
  }

  pub edge_room : e < length over
  edge_room = omega (arith, c.edge, c.over_long)

  pub walked_none : v ≡ stop → Walked g t e c.legs next (read places) (read below) (read over) (read places) (read below) (top_of tips) (bottom_of tips) (read (set over e 0)) next
  walked_none p = record {
    grown = grown_by (λ y i. absurd (off i)) (λ y n. refl);
    noted = record { new = λ y i. absurd (off i); away = λ z n. refl };
    links = c.filing.links;
    over_edge = get_or-set_same over e 0 0 edge_room;
    over_on = λ d i. absurd (away i);
    over_off = λ d n i. get_or-set_other over e d 0 0 n;
  }
    where
      none : c.legs ≡ []
      none = (climb_same c.climb (there (omega (arith, ap (read places) p, c.branch)))).0

      off : {y : ℕ} → In y (froms c.legs) → ⊥
      off {y} i = not_in (subst (λ (l : List Leg). In y (froms l)) none i)

      away : {d : ℕ} → In d (edges_of c.legs) → ⊥
      away {d} i = not_in (subst (λ (l : List Leg). In d (edges_of l)) none i)

  abbrev pub raising : Raising most ends first v stop (length below) (length (set over e 0))
  raising = record {
    way = climb_way c.filing.rooted c.climb c.from;
    room = c.filing.roomy.below_long;
    edges = omega (arith, c.over_long, length-set over e 0);
  }

  module _ (d : v ≡ stop → ⊥) (below' over' : List ℕ) (top : ℕ) (up : RaisedUp most ends first v stop below (set over e 0) below' over' top) where
    raised : Raised ends first c.legs stop (read below) (read (set over e 0)) (read below') (read over') top
    raised = up.2 raising

    pub bottom_on : In v (froms c.legs)
    bottom_on = elim (climb_start c.filing.rooted.tree c.climb) [ inl i ↦ i | inr p ↦ absurd (d p) ]

    some : 1 ≤ length c.legs
    some = in_some c.legs bottom_on

    pub top_on : In top (froms c.legs)
    top_on = raised.top_on some

    pub top_up : t.parent top ≡ stop
    top_up = parent_is c.filing.rooted (climb_child c.filing.rooted.tree c.climb top_on) ∙ raised.top_up some

    -- the top fits
    pub top_below : top < most.vertices
    top_below =
        omega (arith, vertex_size (plan c.n ends c.excluded) (climb_child c.filing.rooted.tree c.climb top_on).vertex, c.filing.rooted.admitted.vertices)

    low : (legs : List Leg) × Climb g t (λ z. z ≡ top) v legs top
    low = low_climb c.filing.rooted.tree c.climb top_on top_up

    pub marking : Marking most ends first v top (length places)
    marking = record { way = climb_way c.filing.rooted low.1 c.from; room = c.filing.roomy.places_long }

    walked_noted : Noted t (read below) (read below') c.legs
    walked_noted = record {
      new = λ y i. ap (read below') (is_up i) ∙ raised.noted y i;
      away = λ z n. raised.below_off z (λ y i p. n y i (is_up i ∙ p));
    }
      where
        is_up : {y : ℕ} → In y (froms c.legs) → t.parent y ≡ next_up ends first y
        is_up i = parent_is c.filing.rooted (climb_child c.filing.rooted.tree c.climb i)

    module _ (places' : List ℕ) (marks : MarkedUp most ends first v top next places places') where
      walked_grown : Grown (read places) (read places') c.legs next
      unfolding marking low
      walked_grown = let m = marks.1 marking in let tree = c.filing.rooted.tree in grown_by
          (λ y i. elim (on_low tree c.climb top_on top_up i) [ inl j ↦ m.on y j | inr p ↦ ap (read places') p ∙ m.end ])
          (λ y n. m.off y (λ i. n (low_on tree c.climb top_on top_up i)) (λ p. n (subst (λ (z : ℕ). In z (froms c.legs)) (sym p) top_on)))

      pub next_room : next < c.n + 2
      next_room = omega (
        arith,
        links_room c.filing.rooted.tree c.filing.shelved c.climb c.branch walked_grown c.filing.links bottom_on top_on top_up,
        bound_is (plan c.n ends c.excluded),
      )

      tips_room : 2 * next + 2 ≤ length tips
      tips_room = omega (arith, next_room, c.filing.roomy.tips_long)

      pub walked : Walked g t e c.legs next (read places) (read below) (read over) (read places') (read below') (top_of (with_tips tips next (top + 1) (v + 1)))
          (bottom_of (with_tips tips next (top + 1) (v + 1))) (read over') (next + 1)
      walked = record {
        grown = walked_grown;
        noted = walked_noted;
        links = links_grown c.filing.rooted.tree c.filing.shelved c.climb c.branch walked_grown c.filing.links bottom_on top_on top_up
            (top_same tips next (top + 1) (v + 1) tips_room ∙ omega arith)
            (bottom_same tips next (top + 1) (v + 1) tips_room ∙ omega arith)
            (top_other tips next (top + 1) (v + 1))
            (bottom_other tips next (top + 1) (v + 1));
        over_edge = elim (in_dec e (edges_of c.legs)) [
          | yes i ↦ raised.over_on e i
          | no n ↦ raised.over_off e n ∙ get_or-set_same over e 0 0 edge_room
        ];
        over_on = raised.over_on;
        over_off = λ f n i. raised.over_off f i ∙ get_or-set_other over e f 0 0 n;
      }
