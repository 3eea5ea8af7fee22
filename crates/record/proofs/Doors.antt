-- The doors of the root: the first from a place on, and that there are two of the first child.
use Rattle.std.proofs.Common.{◌≡◌, ℕ, ◌+◌, ◌/◌, ◌<◌, ◌≤◌, List, length, sym, refl, ap, ◌∙◌, subst, inl, inr, arith}
use native.Mathlib.Decide.{ℕ_discrete, dec_lt}
use Rattle.connectivity.specs.Plan.{Plan, entire, graph, listed, Limits}
use Rattle.connectivity.specs.Graph.{Graph, Vertex, Joins}
use Rattle.connectivity.proofs.Reach.{joins_sym, joins_vertex}
use Rattle.connectivity.proofs.Kept.{vertex_size}
use Rattle.tree.specs.Tree.{Pointers, Child, Passing}
use Rattle.tree.proofs.Above.{root_above, parent_vertex, tree_cases}
use Rattle.tree.proofs.Passing.{one_passing, two_passing, passing_root}
use Rattle.graph.specs.Marks.{read}
use Rattle.graph.proofs.Joined.{joins_below, joins_edge}
use Rattle.graph.specs.Ends.{far_end}
use Rattle.numbers.specs.Standing.{Listed, tree_of}
use Rattle.record.specs.Standing.{Ground}
use Rattle.record.specs.Opening.{Door, DoorFits, DoorAt, Doors, NextDoor}
use Rattle.numbers.proofs.Marking.{far_end_lem, joins_differ}
use Rattle.record.proofs.Listing.{kept_joins, number_vertex, place_vertex}

-- From place to place.

-- no place from `from` up to k is that of a door
pub record Passed (ends incident first number : List ℕ) (end r from k : ℕ) : Type 0 where
  pub least : from ≤ k
  pub none : (j : ℕ) → from ≤ j → j < k → DoorAt ends incident first number end r j → ⊥

pub passed_start : (ends incident first number : List ℕ) (end r from : ℕ) → Passed ends incident first number end r from from
passed_start ends incident first number end r from = record { least = omega arith; none = λ j a b. absurd (omega (arith, a, b)) }

module _ {most : Limits} {ends incident first number : List ℕ} {end r from k : ℕ} (c : Doors most ends incident first number end r from)
    (p : Passed ends incident first number end r from k) where
  pub passed_below : k < read c.begins (r + 1)
  passed_below = elim (dec_lt k (read c.begins (r + 1))) [
    | yes h ↦ h
    | no h ↦ absurd (c.some (λ j a b. p.none j a (omega (arith, b, h))))
  ]

  pub place_below : k < length ends
  place_below = omega (arith, passed_below, c.grouped.inside r c.vertex)

  pub place_fits : k < length incident
  place_fits = omega (arith, place_below, c.grouped.long)

  leads : (u : ℕ) × Joins (graph (entire c.n ends)) (read incident k) r u
  leads = c.grouped.joins r k c.vertex (omega (arith, c.start, p.least)) passed_below

  pub edge_fits_lem : read incident k < length ends / 2
  edge_fits_lem = joins_edge (entire c.n ends) leads.1

  pub door_fits : DoorFits most (read incident k) (far_end ends (read incident k) r) (length first) (length number)
  door_fits =
      let b : far_end ends (read incident k) r < c.n = subst (λ (u : ℕ). u < c.n) (sym (far_end_lem (entire c.n ends) leads.1)) (joins_below (entire c.n ends) leads.1) in
      record {
        edge = omega (arith, edge_fits_lem, c.admitted.edges);
        marked = omega (arith, b, c.first_long);
        numbered = omega (arith, b, c.number_long);
      }

  pub passed_door : DoorAt ends incident first number end r k → NextDoor ends incident c.begins first number end r from k
  passed_door d = record { least = p.least; most = passed_below; door = d; before = p.none }

pub passed_step : {ends incident first number : List ℕ} {end r from k : ℕ} → Passed ends incident first number end r from k
    → (DoorAt ends incident first number end r k → ⊥) → Passed ends incident first number end r from (k + 1)
passed_step {ends} {incident} {first} {number} {end} {r} {from} {k} p n = record {
  least = omega (arith, p.least);
  none = λ j a b. elim (ℕ_discrete j k) [
    | yes q ↦ λ d. n (subst (DoorAt ends incident first number end r) q d)
    | no q ↦ p.none j a (omega (arith, b, q))
  ];
}

-- The first child of the root, and the edges that lead past its first edge.

module _ {most : Limits} {p : Plan} {root : ℕ} {incident begins first order number last : List ℕ} {over : ℕ → ℕ} (s : Ground most p root incident begins first number last over)
    (l : Listed p root order number) where
  abbrev g : Graph
  g = graph p

  abbrev t : Pointers
  t = tree_of p root first (read number)

  abbrev pub eldest : ℕ
  eldest = read order 1

  pub eldest_below : eldest < p.vertices
  eldest_below = (l.at 1 (omega (arith, s.rooted.admitted.two))).0

  eldest_number : read number eldest ≡ 1
  eldest_number = (l.at 1 (omega (arith, s.rooted.admitted.two))).1

  pub root_below : root < p.vertices
  root_below = vertex_size p s.rooted.tree.start

  root_number : read number root ≡ 0
  root_number = ap (read number) (sym l.top) ∙ (l.at 0 (omega (arith, s.rooted.admitted.two))).1

  -- only the root has the number 0
  first_number : {v : ℕ} → v < p.vertices → read number v ≡ 0 → v ≡ root
  first_number {v} h eq = sym (l.placed v h).1 ∙ ap (read order) eq ∙ l.top

  pub eldest_child : Child g t eldest
  eldest_child = record {
    vertex = place_vertex s.rooted.admitted l 1 (omega (arith, s.rooted.admitted.remain));
    other = λ eq. omega (arith, eldest_number, root_number, ap (read number) eq);
  }

  pub eldest_parent : t.parent eldest ≡ root
  eldest_parent = first_number (vertex_size p (parent_vertex s.rooted.tree eldest_child))
      (omega (arith, s.rooted.tree.falls eldest eldest_child, eldest_number))

  module _ (k : ℕ) (from : read begins root ≤ k) (to : k < read begins (root + 1)) where
    -- a door leads past the first edge of the first child
    pub door_passing : DoorAt p.ends incident first number (read last eldest) root k → Passing g t eldest (read incident k) root (far_end p.ends (read incident k) root)
    door_passing d =
        let (u, j) = s.grouped.joins root k root_below from to in
        let eq = far_end_lem (entire p.vertices p.ends) j in
        subst (λ (w : ℕ). Passing g t eldest (read incident k) root w) (sym eq) (passing u j (subst (Door (read first) (read number) (read last eldest) (read incident k)) eq d))
      where
        -- its number is at most that of a vertex
        passing : (u : ℕ) → Joins (listed p) (read incident k) root u → Door (read first) (read number) (read last eldest) (read incident k) u → Passing g t eldest (read incident k) root u
        passing u i d =
            let below : u < p.vertices = joins_below (entire p.vertices p.ends) i in
            let v : Vertex g u = number_vertex l below (omega (arith, d.low, s.beneath.lasts eldest eldest_child.vertex)) in
            let j = kept_joins p i s.rooted.tree.start v in
            record {
              back = record {
                joins = j;
                above = root_above s.rooted.tree v;
                off = elim (tree_cases s.rooted.tree j) [
                  | inl (inl (c, eq)) ↦ absurd (c.other refl)
                  | inl (inr (c, eq)) ↦ absurd (d.off (omega (arith, eq, s.rooted.marked u c)))
                  | inr off ↦ off
                ];
              };
              below = s.beneath.preorder.below eldest u eldest_child.vertex v (positive u below j) d.low;
              above = root_above s.rooted.tree (parent_vertex s.rooted.tree eldest_child);
            }
          where
            positive : (u : ℕ) → u < p.vertices → Joins g (read incident k) root u → read number eldest ≤ read number u
            positive u h j = elim (ℕ_discrete (read number u) 0) [
              | yes eq ↦ absurd (joins_differ s.rooted j (sym (first_number h eq)))
              | no eq ↦ omega (arith, eq, eldest_number)
            ]

  -- what leads past it is a door
  pub passing_door : {e y w : ℕ} → Passing g t eldest e y w
      → (k : ℕ) × (read begins root ≤ k) × (k < read begins (root + 1)) × (read incident k ≡ e) × DoorAt p.ends incident first number (read last eldest) root k
  passing_door {e} {y} {w} q =
      let j : Joins g e root w = subst (λ (z : ℕ). Joins g e z w) (passing_root s.rooted.tree eldest_parent q) q.back.joins in
      let (k, a, b, eq) = s.grouped.place e root w j in (
        k,
        a,
        b,
        eq,
        subst (λ (d : ℕ). Door (read first) (read number) (read last eldest) d (far_end p.ends d root)) (sym eq)
            (subst (Door (read first) (read number) (read last eldest) e) (sym (far_end_lem p j)) (record {
              off = λ m. q.back.off w (is_child j) (omega (arith, m));
              low = s.beneath.preorder.within eldest w q.below eldest_child.vertex;
            })),
      )
    where
      is_child : Joins g e root w → Child g t w
      is_child j = record {
        vertex = joins_vertex (joins_sym j);
        other = λ eq. joins_differ s.rooted j (sym eq);
      }

  abbrev doors : {from : ℕ} → read begins root ≤ from
      → (((k : ℕ) → from ≤ k → k < read begins (root + 1) → DoorAt p.ends incident first number (read last eldest) root k → ⊥) → ⊥)
      → Doors most p.ends incident first number (read last eldest) root from
  doors h some = record {
    n = p.vertices;
    excluded = p.excluded;
    begins = begins;
    admitted = s.rooted.admitted;
    grouped = s.grouped;
    vertex = root_below;
    first_long = s.rooted.long;
    number_long = s.number_long;
    start = h;
    some = some;
  }

  -- there is one
  abbrev pub some_door : Doors most p.ends incident first number (read last eldest) root (read begins root)
  some_door = doors (omega arith) (λ f. one_passing s.rooted.tree s.three eldest_child (λ e y w q. let (k, a, b, eq, d) = passing_door q in f k a b d))

  module _ {i : ℕ} (o : NextDoor p.ends incident begins first number (read last eldest) root (read begins root) i) where
    -- were there no other, each would be it
    pub only_door : ((k : ℕ) → i + 1 ≤ k → k < read begins (root + 1) → DoorAt p.ends incident first number (read last eldest) root k → ⊥)
        → {e y w : ℕ} → Passing g t eldest e y w → e ≡ read incident i
    only_door f q = let (k, a, b, eq, d) = passing_door q in elim (dec_lt k i) [
      | yes h ↦ absurd (o.before k a h d)
      | no h ↦ elim (dec_lt i k) [ yes m ↦ absurd (f k (omega (arith, m)) b d) | no m ↦ sym eq ∙ ap (read incident) (same k h m) ]
    ]
      where
        same : (k : ℕ) → (k < i → ⊥) → (i < k → ⊥) → k ≡ i
        same k h m = omega (arith, h, m)

    -- there is another behind it
    abbrev pub other_door : Doors most p.ends incident first number (read last eldest) root (i + 1)
    other_door = doors (omega (arith, o.least))
        (λ f. two_passing s.rooted.tree s.three eldest_child (λ d e y w v z q r. only_door f q ∙ sym (only_door f r)))

    module _ {k : ℕ} (h : NextDoor p.ends incident begins first number (read last eldest) root (i + 1) k) where
      pub doors_differ : read incident i ≡ read incident k → ⊥
      doors_differ = s.grouped.once root i k root_below o.least (omega (arith, h.least)) h.most

      pub one_leads : Passing g t eldest (read incident i) root (far_end p.ends (read incident i) root)
      one_leads = door_passing i o.least o.most o.door

      pub other_leads : Passing g t eldest (read incident k) root (far_end p.ends (read incident k) root)
      other_leads = door_passing k (omega (arith, o.least, h.least)) h.most h.door
