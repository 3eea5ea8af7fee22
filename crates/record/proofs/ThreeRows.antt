-- The rows of the first three walks, one behind the other.
use Rattle.std.proofs.Common.{◌≡◌, ℕ, ◌+◌, ◌-◌, ◌*◌, ◌/◌, ◌<◌, ◌≤◌, List, [], ◌∷◌, ◌++◌, length, take, drop, sym, ap, ◌∙◌, subst, append-nil, arith, length-append}
use Rattle.connectivity.specs.Plan.{Plan, plan, graph, Limits}
use Rattle.connectivity.specs.Graph.{Graph}
use Rattle.connectivity.specs.Walk.{Leg, edges_of, all_edges}
use Rattle.connectivity.specs.Mader.{step_rows, rows}
use Rattle.connectivity.specs.Admission.{kept_edges}
use Rattle.connectivity.proofs.Legs.{leg, legs_edges}
use Rattle.connectivity.proofs.Build.{step_length}
use Rattle.connectivity.proofs.Kept.{vertex_size}
use Rattle.tree.specs.Tree.{Pointers, Child, Climb}
use Rattle.tree.specs.State.{Along}
use Rattle.tree.proofs.Above.{parent_vertex}
use Rattle.tree.proofs.Begin.{meeting_child}
use Rattle.tree.proofs.Opening.{to_root, along_begin}
use Rattle.graph.proofs.Joined.{joins_below, joins_edge}
use Rattle.graph.proofs.Barring.{edges_few}
use Rattle.record.specs.Ways.{Written, Way, OneMore, OverUp}
use Rattle.numbers.specs.Standing.{tree_of}
use Rattle.record.specs.Opening.{Climbs, three_walks, Rowed}
use Rattle.record.proofs.Climbing.{climb_way}
use Rattle.record.proofs.Counting.{done_most}
use Rattle.record.proofs.Written.{written_length, part_long, written_part}

-- The walks.

module _ {most : Limits} {p : Plan} {root : ℕ} {first : List ℕ} {rank : ℕ → ℕ} {x f w d u : ℕ} (c : Climbs most p root first rank x f w d u) where
  abbrev g : Graph
  g = graph p

  abbrev t : Pointers
  t = tree_of p root first rank

  pub x_child : Child g t x
  x_child = meeting_child c.rooted.tree c.child c.one c.other c.meets

  pub x_below : x < p.vertices
  x_below = vertex_size p x_child.vertex

  pub root_below : root < p.vertices
  root_below = vertex_size p c.rooted.tree.start

  pub parent_below : t.parent x < p.vertices
  parent_below = vertex_size p (parent_vertex c.rooted.tree x_child)

  pub w_below : w < p.vertices
  w_below = joins_below p c.one.back.joins

  pub u_below : u < p.vertices
  u_below = joins_below p c.other.back.joins

  pub f_below : f < length p.ends / 2
  f_below = joins_edge p c.one.back.joins

  pub d_below : d < length p.ends / 2
  d_below = joins_edge p c.other.back.joins

  pub e_below : t.first x < length p.ends / 2
  e_below = joins_edge p (c.rooted.tree.joins x x_child)

  pub along : Along g t (three_walks root x f (t.first x) d c.low c.high c.side)
  along = along_begin c.rooted.tree c.child c.one c.other c.differ c.meets c.to_x
      (to_root c.rooted.tree c.child c.one c.other c.differ c.meets c.to_x c.up)

  three_few : length (all_edges (three_walks root x f (t.first x) d c.low c.high c.side)) ≤ kept_edges p
  three_few = done_most along.steps along.once

three_count : (root x f e d : ℕ) (low high side : List Leg)
    → length (all_edges (three_walks root x f e d low high side)) ≡ length high + length low + length side + 3
three_count root x f e d low high side =
    length-append (edges_of (leg d root ∷ side)) (edges_of (leg f root ∷ low) ++ (edges_of (leg e x ∷ high) ++ []))
    ∙ omega (
      arith,
      length-append (edges_of (leg f root ∷ low)) (edges_of (leg e x ∷ high) ++ []),
      ap length (append-nil (edges_of (leg e x ∷ high))),
      legs_edges high,
      legs_edges low,
      legs_edges side,
    )

-- Their rows.

module _ {most : Limits} {ends first : List ℕ} {root x e p f w d u : ℕ} (before : List ℕ) (c : Rowed most ends first root x e p f w d u (length before)) where
  abbrev b : Climbs most (plan c.n ends c.excluded) root first c.rank x f w d u
  b = c.climbs

  pub fits : 3 * (length b.high + length b.low + length b.side + 3) ≤ length before
  fits = omega (arith, three_few b, three_count root x f ((tree_of (plan c.n ends c.excluded) root first c.rank).first x) d b.low b.high b.side, c.fits)

  few : length b.high + length b.low + length b.side + 3 ≤ most.edges
  few = omega (arith, three_few b, three_count root x f ((tree_of (plan c.n ends c.excluded) root first c.rank).first x) d b.low b.high b.side, edges_few (plan c.n ends c.excluded), b.rooted.admitted.edges)

  abbrev pub high_way : Way most ends first p root
  high_way = climb_way b.rooted
      (subst (λ (y : ℕ). Climb (graph (plan c.n ends c.excluded)) (tree_of (plan c.n ends c.excluded) root first c.rank) (λ v. v ≡ root) y b.high root) (sym c.parent) b.up)
      (subst (λ (y : ℕ). y < c.n) (sym c.parent) (parent_below b))

  abbrev pub high_room : OneMore most ends first p root (length before)
  high_room = record { way = high_way; fits = omega (arith, fits) }

  module _ (one : List ℕ) (i : ℕ) (h : OverUp most ends first e x p root 0 before one i) where
    abbrev first_walk : List Leg
    first_walk = leg e x ∷ b.high

    first_long : length (step_rows 0 first_walk) ≡ 3 * i
    first_long = step_length 0 first_walk ∙ omega (arith, (h high_room).1)

    pub one_long : length one ≡ length before
    one_long = written_length (step_rows 0 first_walk) before one (h high_room).0 (omega (arith, first_long, (h high_room).1, fits))

    pub one_fits : (3 * i ≤ length one) × (i ≤ most.edges)
    one_fits = (omega (arith, one_long, (h high_room).1, fits), omega (arith, (h high_room).1, few))

    abbrev behind : List ℕ
    behind = take (length one - 3 * i) (drop (3 * i) one)

    abbrev pub low_room : OneMore most ends first w x (length behind)
    low_room = record { way = climb_way b.rooted b.to_x (w_below b); fits = omega (arith, fits, part_long one (3 * i), one_long, (h high_room).1) }

    module _ (part : List ℕ) (j : ℕ) (m : OverUp most ends first f root w x 1 behind part j) where
      abbrev two : List ℕ
      two = take (3 * i) one ++ (part ++ drop (length one - 3 * i) (drop (3 * i) one))

      abbrev both : List ℕ
      both = step_rows 0 first_walk ++ step_rows 1 (leg f root ∷ b.low)

      two_written : Written both before two
      two_written = written_part (step_rows 0 first_walk) (step_rows 1 (leg f root ∷ b.low)) before one part (3 * i) (h high_room).0 first_long (m low_room).0

      both_long : length both ≡ 3 * (i + j)
      both_long = length-append (step_rows 0 first_walk) (step_rows 1 (leg f root ∷ b.low))
          ∙ omega (arith, first_long, step_length 1 (leg f root ∷ b.low), (m low_room).1)

      pub two_long : length two ≡ length before
      two_long = written_length both before two two_written (omega (arith, both_long, (h high_room).1, (m low_room).1, fits))

      pub two_fits : (3 * (i + j) ≤ length two) × (i + j ≤ most.edges)
      two_fits = (omega (arith, two_long, (h high_room).1, (m low_room).1, fits), omega (arith, (h high_room).1, (m low_room).1, few))

      abbrev rest : List ℕ
      rest = take (length two - 3 * (i + j)) (drop (3 * (i + j)) two)

      abbrev pub side_room : OneMore most ends first u x (length rest)
      side_room = record {
        way = climb_way b.rooted b.meets (u_below b);
        fits = omega (arith, fits, part_long two (3 * (i + j)), two_long, (h high_room).1, (m low_room).1);
      }

      module _ (last : List ℕ) (k : ℕ) (s : OverUp most ends first d root u x 2 rest last k) where
        pub three_fits : i + j + k ≤ most.edges
        three_fits = omega (arith, (h high_room).1, (m low_room).1, (s side_room).1, few)

        pub three_written : Written (rows (three_walks root x f e d b.low b.high b.side)) before
            (take (3 * (i + j)) two ++ (last ++ drop (length two - 3 * (i + j)) (drop (3 * (i + j)) two)))
            × (i + j + k ≡ length (all_edges (three_walks root x f e d b.low b.high b.side)))
        three_written = (
          written_part both (step_rows 2 (leg d root ∷ b.side)) before two last (3 * (i + j)) two_written both_long (s side_room).0,
          omega (arith, (h high_room).1, (m low_room).1, (s side_room).1, three_count root x f e d b.low b.high b.side),
        )
