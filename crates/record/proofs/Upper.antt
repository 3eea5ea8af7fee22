-- The upper and the lower end of an edge, as the code has them.
use Rattle.std.proofs.Common.{◌≡◌, ℕ, ◌<◌, ◌≤◌, List, length, sym, refl, inl, inr, arith, le-ltb, lt-ltb, eq-eqb, ne_eqb}
use Rattle.connectivity.specs.Plan.{Plan, graph, Limits}
use Rattle.connectivity.specs.Graph.{Edge, Joins}
use Rattle.connectivity.proofs.Kept.{edge_size_lem}
use Rattle.tree.specs.Tree.{Back}
use Rattle.graph.specs.Marks.{read}
use Rattle.graph.proofs.Joined.{joins_ends, ends_below}
use Rattle.graph.specs.Ends.{far_end}
use Rattle.numbers.specs.Standing.{Rooted, tree_of}
use Rattle.numbers.proofs.Marking.{joins_differ, back_child}
use Rattle.record.specs.Ways.{Ended, upper_end}

module _ {most : Limits} {p : Plan} {root : ℕ} {first : List ℕ} (number : List ℕ) (r : Rooted most p root first (read number)) where
  pub ended : p.vertices ≤ length number → {e : ℕ} → Edge (graph p) e → Ended p.ends number e
  ended h k = record { below = edge_size_lem p k; left = omega (arith, ends_below p k); right = omega (arith, ends_below p k) }

  -- the end with the lower number is the upper one
  pub upper_is : {e u v : ℕ} → Joins (graph p) e u v → read number u < read number v → upper_end p.ends number e ≡ u
  upper_is {e} {u} {v} j h = elim (joins_ends p j) [
    | inl (z, q) ↦ rw (z, q, lt-ltb (read number u) (read number v) h)
    | inr (z, q) ↦ rw (z, q, le-ltb (read number v) (read number u) (omega arith))
  ]

  pub back_upper : {f s w : ℕ} → Back (graph p) (tree_of p root first (read number)) f s w → upper_end p.ends number f ≡ s
  back_upper b = upper_is b.joins (back_child r b).1

  pub back_lower : {f s w : ℕ} → Back (graph p) (tree_of p root first (read number)) f s w → far_end p.ends f s ≡ w
  back_lower {f} {s} {w} b = elim (joins_ends p b.joins) [
    | inl (z, q) ↦ rw (z, q, eq-eqb s s refl)
    | inr (z, q) ↦ rw (z, q, ne_eqb w s (λ e. joins_differ r b.joins (sym e)))
  ]
