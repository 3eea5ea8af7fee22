-- In a depth-first tree the tables tell what is below each vertex, and the edge that a step over each edge begins with.
use mathlib.Core.Path.{◌≡◌, refl, sym, ap, subst, ◌∙◌}
use mathlib.Core.Logic.{inl, inr}
use mathlib.Core.Bool.{false}
use mathlib.Core.List.{List, Memᴰ as In}
use Prim.Native.Nat.{ℕ, zero, suc, ◌+◌, ◌-◌, ◌/◌, ◌≤◌, ◌<◌}
use native.Mathlib.Omega.{arith}
use native.Mathlib.Decide.{ℕ_discrete}
use borrow.Author.Tests.{eq-eqb, ne_eqb}
use lib.Dec.{eqb}
use lib.ListN.{length, set, length-set}
use lib.Seq.{get_or-set_same, get_or-set_other}
use Rattle.connectivity.specs.Plan.{Plan, entire, graph, Limits}
use Rattle.connectivity.specs.Graph.{Graph, Vertex, Edge, is_edge}
use Rattle.connectivity.proofs.Lists.{T-dec}
use Rattle.connectivity.proofs.Search.{is_edge_lem}
use Rattle.connectivity.proofs.Kept.{vertex_size, vertex_or, edge_size_lem}
use Rattle.tree.specs.Tree.{Pointers, Child, Back, Overs}
use Rattle.tree.proofs.Above.{parent_vertex}
use Rattle.graph.specs.Marks.{read}
use Rattle.numbers.specs.Tables.{lower_end, least_number, higher_of, hand_to, own_at, lower_last, lower_over, numbers_to, owns_to, lasts_down, overs_down}
use Rattle.numbers.specs.Answered.{Filled}
use Rattle.numbers.specs.Standing.{Ordering, DepthFirst, Beneath, tree_of}
use Rattle.numbers.proofs.Lengths.{numbers_long, owns_long, lasts_long, overs_long}
use Rattle.numbers.proofs.Numbering.{numbers_are}
use Rattle.numbers.proofs.Overs.{Put, Entry, none, some, Owned, owned_start, owned_other, owned_step, Sofar, overs_start, overs_skip, overs_root, overs_some, overs_handed, overs_end}
use Rattle.numbers.proofs.Marking.{size_is, back_child, higher_is, first_edge, mark_child, mark_root, mark_alone, mark_none, parent_is, levels, edge_cases}
use Rattle.numbers.proofs.Lasts.{Lasts, raised, lasts_start, lasts_skip, lasts_step, lasts_vertex, lasts_end}

-- one place of a table is written
put_set : (table : List ℕ) (k x : ℕ) → k < length table → Put (read table) (read (set table k x)) k x
put_set table k x h = record { here = get_or-set_same table k x 0 h; away = λ j n. get_or-set_other table k j x 0 n }

module _ {most : Limits} {p : Plan} {first order number : List ℕ} (h : DepthFirst most p first order number) where
  abbrev n : ℕ
  n = p.vertices

  abbrev ends : List ℕ
  ends = p.ends

  abbrev g : Graph
  g = graph p

  abbrev root : ℕ
  root = read order 0

  abbrev t : Pointers
  t = tree_of p root first (read number)

  abbrev level : ℕ → ℕ
  level = least_number ends number

  child_of : (e s w : ℕ) → Back g t e s w → Child g t w
  child_of e s w b = (back_child h.rooted b).0

  entry_small : {c x : ℕ} → Entry g t c x → x ≤ length ends / 2
  entry_small (none q) = omega arith
  entry_small (some f s w q k) = omega (arith, edge_size_lem p k.back.joins.edge)

  -- a child has a first edge
  some_first : {c : ℕ} → Child g t c → eqb (read first c) 0 ≡ false
  some_first {c} k = ne_eqb (read first c) 0 (λ q. omega (arith, (first_edge h k).0))

  -- the first edge of c gets the higher edge
  hand_put : (over : List ℕ) (x : ℕ) {c : ℕ} → Child g t c → length ends / 2 ≤ length over
      → Put (read over) (read (hand_to ends number over (read first c) x)) (t.first c) (higher_of ends number (read over (t.first c)) x)
  unfolding hand_to
  hand_put over x {c} k l = rw (some_first k)
      (put_set over (read first c - 1) (higher_of ends number (read over (read first c - 1)) x) (omega (arith, first_edge h k)))

  -- no first edge, and nothing changes
  hand_none : (over : List ℕ) (x : ℕ) → hand_to ends number over 0 x ≡ over
  unfolding hand_to
  hand_none over x = refl

  -- The edges.

  own_next : (over : List ℕ) (e : ℕ) → e < length ends / 2 → length ends / 2 ≤ length over → Owned g t level e (read over) → Owned g t level (e + 1) (read (own_at n ends first number over e))
  unfolding own_at
  own_next over e l long o = elim (T-dec (is_edge g e)) [
    | no x ↦ let out : Edge g e → ⊥ = λ k. x ((is_edge_lem g e).1 k) in rw (mark_none h l out) (owned_other h.rooted.tree o (λ s w b. out b.joins.edge))
    | yes x ↦ elim (edge_cases h ((is_edge_lem g e).0 x)) [
      | inl (c, q) ↦ rw (mark_child h c, some_first c, eq-eqb (read first (lower_end ends number e)) (e + 1) (omega (arith, q, (first_edge h c).0)))
          (owned_other h.rooted.tree o (λ s w b. b.off (lower_end ends number e) c q))
      | inr (s, b) ↦ let c = child_of e s (lower_end ends number e) b in
          rw (mark_child h c, some_first c, ne_eqb (read first (lower_end ends number e)) (e + 1) (λ q. b.off (lower_end ends number e) c (omega arith)))
          (owned_step h.rooted.tree o c b (put_set over e (e + 1) (omega arith))
          (hand_put (set over e (e + 1)) (e + 1) c (simp length-set long))
          (higher_is ends number (small c b) (omega arith) (omega arith)) child_of)
    ]
  ]
    where
      small : {s w : ℕ} → Child g t w → Back g t e s w → read (set over e (e + 1)) (t.first w) ≤ length ends / 2
      small {s} {w} c b = subst (λ (x : ℕ). x ≤ length ends / 2) (sym (get_or-set_other over e (t.first w) (e + 1) 0 (λ q. b.off w c (sym q)))) (entry_small (o.entry w c))

  own_all : (blank : List ℕ) → length ends / 2 ≤ length blank → ((e : ℕ) → e < length ends / 2 → read blank e ≡ 0)
      → (k : ℕ) → k ≤ length ends / 2 → Owned g t level k (read (owns_to n ends first number blank k))
  unfolding owns_to
  own_all blank long clear zero l = owned_start h.rooted.tree (λ e b. clear e (omega (arith, size_is p)))
  own_all blank long clear (suc k) l = subst (λ (j : ℕ). Owned g t level j (read (own_at n ends first number (owns_to n ends first number blank k) k))) (omega arith)
      (own_next (owns_to n ends first number blank k) k (omega arith) (omega (arith, owns_long n ends first number blank k)) (own_all blank long clear k (omega arith)))

  -- The one whose number is j.
  module _ {j : ℕ} (low : 1 ≤ j) (place : j < n) where
    abbrev v : ℕ
    v = read order j

    has_rank : read number v ≡ j
    has_rank = (h.listing.at j place).1

    -- a vertex
    module _ (vertex : Vertex g v) where
      is_child : Child g t v
      is_child = record {
        vertex = vertex;
        other = λ q. omega (arith, has_rank, ap (read number) q, (h.listing.at 0 (omega (arith, place))).1);
      }

      only : (u : ℕ) → Vertex g u → read number u ≡ j → u ≡ v
      only u k q = sym (h.listing.placed u (vertex_size p k)).1 ∙ ap (read order) q

      last_child : (last : List ℕ) → n ≤ length last → Lasts g t (j + 1) (read last) → Lasts g t j (read (lower_last n ends first last v))
      unfolding lower_last
      last_child last long l = rw (mark_child h is_child, some_first is_child, sym (parent_is h is_child))
          (lasts_step h.rooted.tree only is_child has_rank l
          (raised last (t.parent v) v (omega (arith, vertex_size p (parent_vertex h.rooted.tree is_child)))))

      over_child : (over : List ℕ) → length ends / 2 ≤ length over → Sofar g t level (j + 1) (read over) → Sofar g t level j (read (lower_over n ends first number over v))
      unfolding lower_over
      over_child over long s = rw (mark_child h is_child, some_first is_child, sym (parent_is h is_child)) (elim (ℕ_discrete (t.parent v) root) [
        | yes q ↦ rw (mark_root h q) (at_root q)
        | no q ↦ let c : Child g t (t.parent v) = record { vertex = parent_vertex h.rooted.tree is_child; other = q } in rw (mark_child h c)
            (overs_handed h.rooted.tree h.three (levels h) only is_child has_rank s child_of c
            (hand_put over (read over (t.first v)) c long)
            (higher_is ends number (entry_small (s.entry (t.parent v) c)) there (entry_small (s.entry v is_child))))
      ])
        where
          there : 1 ≤ read over (t.first v)
          there = overs_some h.rooted.tree h.three (levels h) only is_child has_rank s

          at_root : t.parent v ≡ root → Sofar g t level j (read (hand_to ends number over 0 (read over (t.first v))))
          at_root q = rw (hand_none over (read over (t.first v))) (overs_root h.rooted.tree h.three (levels h) only is_child has_rank s q)

    -- an excluded one: nothing changes
    module _ (out : In v p.excluded) where
      no_vertex : (u : ℕ) → Vertex g u → read number u ≡ j → ⊥
      no_vertex u k q = omega (arith, h.listing.kept u k, h.listing.fallen v out, has_rank)

      last_out : (last : List ℕ) → Lasts g t (j + 1) (read last) → Lasts g t j (read (lower_last n ends first last v))
      unfolding lower_last
      last_out last l = rw (mark_alone h out) (lasts_skip h.rooted.tree no_vertex l)

      over_out : (over : List ℕ) → Sofar g t level (j + 1) (read over) → Sofar g t level j (read (lower_over n ends first number over v))
      unfolding lower_over
      over_out over s = rw (mark_alone h out) (overs_skip h.rooted.tree h.three (levels h) no_vertex s)

    last_next : (last : List ℕ) → n ≤ length last → Lasts g t (j + 1) (read last) → Lasts g t j (read (lower_last n ends first last v))
    last_next last long l = elim (vertex_or p v (h.listing.at j place).0) [ inl k ↦ last_child k last long l | inr i ↦ last_out i last l ]

    over_next : (over : List ℕ) → length ends / 2 ≤ length over → Sofar g t level (j + 1) (read over) → Sofar g t level j (read (lower_over n ends first number over v))
    over_next over long s = elim (vertex_or p v (h.listing.at j place).0) [ inl k ↦ over_child k over long s | inr i ↦ over_out i over s ]

  -- All of them.

  last_all : (last : List ℕ) → n ≤ length last → Lasts g t n (read last) → (k : ℕ) → k < n → Lasts g t (n - k) (read (lasts_down n ends first order last k))
  unfolding lasts_down
  last_all last long l zero b = subst (λ (j : ℕ). Lasts g t j (read last)) (omega arith) l
  last_all last long l (suc k) b = last_next {j = n - suc k} (omega arith) (omega arith) (lasts_down n ends first order last k) (omega (arith, lasts_long n ends first order last k))
      (subst (λ (j : ℕ). Lasts g t j (read (lasts_down n ends first order last k))) (omega arith) (last_all last long l k (omega arith)))

  over_all : (over : List ℕ) → length ends / 2 ≤ length over → Sofar g t level n (read over) → (k : ℕ) → k < n → Sofar g t level (n - k) (read (overs_down n ends first order number over k))
  unfolding overs_down
  over_all over long s zero b = subst (λ (j : ℕ). Sofar g t level j (read over)) (omega arith) s
  over_all over long s (suc k) b = over_next {j = n - suc k} (omega arith) (omega arith) (overs_down n ends first order number over k) (omega (arith, overs_long n ends first order number over k))
      (subst (λ (j : ℕ). Sofar g t level j (read (overs_down n ends first order number over k))) (omega arith) (over_all over long s k (omega arith)))

  ordering : Ordering n order
  ordering = record {
    valid = λ k l. (h.listing.at k l).0;
    once = λ i k l b q. omega (arith, (h.listing.at i (omega arith)).1, (h.listing.at k b).1, ap (read number) q);
  }

  -- in `last` each vertex has its number at first
  own_number : (last : List ℕ) → n ≤ length last → (v : ℕ) → Vertex g v → read (numbers_to n order last n) v ≡ read number v
  own_number last long v k = let (b, q) = h.listing.placed v (vertex_size p k) in
      subst (λ (u : ℕ). read (numbers_to n order last n) u ≡ read number v) q (numbers_are n order last ordering long n (omega arith) (read number v) b)

  pub lowered : {number₀ last₀ over₀ last over : List ℕ} → n ≤ length last₀ → length ends / 2 ≤ length over₀
      → Filled (entire n ends) first order number₀ last₀ over₀ number last over → Beneath p root first (read number) (read last) (read over)
  lowered {number₀} {last₀} {over₀} {last} {over} a b f = record {
    preorder = lasts_end h.rooted.tree h.together lasting;
    lasts = λ v k. let (z, x, q) = lasts_vertex h.rooted.tree lasting v k in omega (arith, q, h.listing.kept z x);
    overs = both.0;
    some = both.1;
    none = λ e l k. at_over.none e (omega (arith, size_is p)) k;
  }
    where
      at_last : Lasts g t 1 (read (lasts_down n ends first order (numbers_to n order last₀ n) (n - 1)))
      at_last = subst (λ (j : ℕ). Lasts g t j (read (lasts_down n ends first order (numbers_to n order last₀ n) (n - 1)))) (omega (arith, h.rooted.admitted.two))
          (last_all (numbers_to n order last₀ n) (omega (arith, numbers_long n order last₀ n)) (lasts_start h.rooted.tree h.rooted.few (own_number last₀ a)) (n - 1) (omega (arith, h.rooted.admitted.two)))

      lasting : Lasts g t 1 (read last)
      lasting = subst (λ (l : List ℕ). Lasts g t 1 (read l)) (sym f.lasts) at_last

      blank_long : length ends / 2 ≤ length f.blank
      blank_long = omega (arith, f.cleared.kept.long)

      owned : Sofar g t level n (read (owns_to n ends first number f.blank (length ends / 2)))
      owned = overs_start h.rooted.tree h.three (levels h) h.rooted.few (λ e k. edge_size_lem p k)
          (own_all f.blank blank_long (λ e l. f.cleared.zero e l) (length ends / 2) (omega arith))

      at_over : Sofar g t level 1 (read over)
      at_over = subst (λ (l : List ℕ). Sofar g t level 1 (read l)) (sym f.overs)
          (subst (λ (j : ℕ). Sofar g t level j (read (overs_down n ends first order number (owns_to n ends first number f.blank (length ends / 2)) (n - 1)))) (omega (arith, h.rooted.admitted.two))
          (over_all (owns_to n ends first number f.blank (length ends / 2)) (omega (arith, owns_long n ends first number f.blank (length ends / 2), blank_long)) owned (n - 1) (omega (arith, h.rooted.admitted.two))))

      both : Overs g t (λ e. read over e - 1) × ((e : ℕ) → Edge g e → 1 ≤ read over e)
      both = overs_end h.rooted.tree h.three (levels h) at_over
