-- Over the tables of an admitted plan the search may cross every live edge.
use mathlib.Core.Path.{◌≡◌, ap, ◌∙◌}
use mathlib.Core.Logic.{inl, inr, ⊎_elim}
use mathlib.Core.List.{List}
use Prim.Native.Nat.{ℕ, suc, ◌+◌, ◌*◌, ◌/◌, ◌≤◌, ◌<◌}
use native.Mathlib.Omega.{arith}
use native.Mathlib.Decide.{dec_lt}
use lib.Dec.{T}
use lib.ListN.{length, get_or, length-append, get_or-append}
use borrow.Author.Tests.{lt-ltb, le-ltb}
use Rattle.connectivity.specs.Plan.{Plan, graph, listed, Limits}
use Rattle.connectivity.specs.Graph.{Graph, Joins}
use Rattle.connectivity.specs.Admission.{Admitted}
use Rattle.connectivity.proofs.Reach.{joins_sym}
use Rattle.graph.specs.Marks.{Live}
use Rattle.graph.proofs.Joined.{joins_below, joins_edge, joins_ends}
use Rattle.incidence.specs.Tables.{touches, begin, incident_table, begins_table, Tabled}
use Rattle.graph.specs.Marks.{rank}
use Rattle.incidence.proofs.Groups.{touches_is, begin-all, begin_le, place_below, place_at}
use Rattle.incidence.proofs.Filled.{begins_long, begins_at, incident_is, incident_long}
use Rattle.depth.specs.Depth.{group_end, InGroup, Crossing}

module _ {most : Limits} {p : Plan} {incident begins : List ℕ} (t : Tabled most p incident begins) where
  abbrev g : Graph
  g = listed p

  abbrev n : ℕ
  n = p.vertices

  abbrev a : Admitted most p
  a = t.admitted

  -- the tables are long enough
  tabled_size : length p.ends ≡ 2 * (length p.ends / 2)
  tabled_size = omega (arith, a.even)

  pub tabled_incident_room : length p.ends ≤ length incident
  tabled_incident_room = omega (arith, tabled_size, ap length t.incident_is, length-append (incident_table g) t.incident_rest, incident_long a)

  pub tabled_begins_room : n ≤ length begins
  tabled_begins_room = omega (arith, ap length t.begins_is, length-append (begins_table g) t.begins_rest, begins_long p)

  -- what they hold
  begin_is : (v : ℕ) → v < n → get_or begins v 0 ≡ begin g v
  begin_is v l = ap (λ (b : List ℕ). get_or b v 0) t.begins_is
      ∙ get_or-append (begins_table g) t.begins_rest 0 v (omega (arith, begins_long p)) ∙ begins_at p v l

  end_is : (v : ℕ) → v < n → group_end n (length p.ends) begins v ≡ begin g (suc v)
  unfolding group_end
  end_is v l = elim (dec_lt (v + 1) n) [
    | yes h ↦ let q : v + 1 ≡ suc v = omega arith in rw (lt-ltb (v + 1) n h, q) (begin_is (suc v) (omega arith))
    | no h ↦ let q : suc v ≡ n = omega arith in rw (le-ltb (v + 1) n (omega arith), q) (omega (arith, tabled_size, begin-all a))
  ]

  module _ (v e : ℕ) (l : v < n) (k : e < length p.ends / 2) (h : T (touches g v e)) where
    abbrev place : ℕ
    place = begin g v + rank (touches g v) e

    below : place < begin g n
    below = omega (arith, place_below a v e k h, begin_le a (suc v) n (omega arith))

    stands : get_or incident place 0 ≡ e
    stands = ap (λ (i : List ℕ). get_or i place 0) t.incident_is
        ∙ get_or-append (incident_table g) t.incident_rest 0 place (omega (arith, ap length (incident_is p), below))
        ∙ ap (λ (i : List ℕ). get_or i place 0) (incident_is p) ∙ place_at a n v e l k h

    in_group : InGroup n (length p.ends) begins v place
    in_group = record {
      from = omega (arith, begin_is v l);
      to = omega (arith, end_is v l, place_below a v e k h);
      inside = omega (arith, below, tabled_size, begin-all a);
    }

  pub crosses : (dead : List ℕ) (e u v : ℕ) → Live dead e → Joins (graph p) e u v → Crossing p incident begins dead e u v
  unfolding graph
  crosses dead e u v live j =
      let lu = joins_below p (joins_sym j) in
      let le = joins_edge p j in
      let h = (touches_is g u e).1 (⊎_elim (λ q. inl q.0) (λ q. inr q.1) (joins_ends p j)) in
      record { place = begin g u + rank (touches g u) e; group = in_group u e lu le h; listed = stands u e lu le h; live = live; joins = j }
