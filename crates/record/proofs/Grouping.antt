-- The tables of all that a plan lists, with where the last group ends behind them, tell the edges at each vertex.
use Rattle.std.proofs.Common.{◌≡◌, ℕ, suc, ◌+◌, ◌/◌, ◌<◌, ◌≤◌, T, List, [], length, get_or, set, sym, refl, ap, ◌∙◌, subst, arith, length-set, get_or-set_other, get_or-set_same, le-ltb, lt-ltb}
use native.Mathlib.Decide.{ℕ_discrete, dec_lt}
use lib.ListN.{get_or-append}
use Rattle.connectivity.specs.Plan.{Plan, listed, Limits}
use Rattle.connectivity.specs.Graph.{Graph, Edge, Joins}
use Rattle.connectivity.specs.Walk.{far}
use Rattle.connectivity.specs.Admission.{Admitted}
use Rattle.connectivity.proofs.Reach.{joins_vertex}
use Rattle.connectivity.proofs.Legs.{joins_far}
use Rattle.connectivity.proofs.Kept.{vertex_size, admitted_entire, entire_edge}
use Rattle.graph.specs.Marks.{read, rank}
use Rattle.incidence.specs.Tables.{touches, groups, begin, incident_table, begins_table, Tabled}
use Rattle.incidence.proofs.Groups.{begin-all, begin_le, place_find, place_at, place_below}
use Rattle.incidence.proofs.Filled.{begins_long, begins_at, incident_is, tabled_room}
use Rattle.incidence.proofs.Front.{front}
use Rattle.incidence.proofs.Loops.{kept_same}
use Rattle.depth.specs.Depth.{group_end}
use Rattle.depth.proofs.Crosses.{crosses}
use Rattle.record.specs.Standing.{Grouped}

touches_joins : {g : Graph} {v e : ℕ} → Edge g e → T (touches g v e) → Joins g e v (far g e v)
unfolding touches
touches_joins h t = joins_far h t

module _ {most : Limits} {p : Plan} {incident begins : List ℕ} (t : Tabled most p incident begins) where
  abbrev n : ℕ
  n = p.vertices

  abbrev ends : List ℕ
  ends = p.ends

  -- all that the plan lists
  abbrev g : Graph
  g = listed p

  abbrev a : Admitted most p
  a = t.admitted

  begin_is : (v : ℕ) → v < n → read begins v ≡ begin g v
  begin_is v l = ap (λ (b : List ℕ). get_or b v 0) t.begins_is
      ∙ get_or-append (begins_table g) t.begins_rest 0 v (omega (arith, begins_long p)) ∙ begins_at p v l

  -- a number behind the table of beginnings may change
  pub tabled_set : (x : ℕ) → n < length begins → Tabled most p incident (set begins n x)
  tabled_set x room = record {
    admitted = a;
    incident_rest = t.incident_rest;
    incident_is = t.incident_is;
    begins_rest = _;
    begins_is = front (begins_table g) (set begins n x) (set begins n x) (omega (arith, begins_long p, length-set begins n x)) (kept_same _ (set begins n x))
        (λ k l. let h : k < n = omega (arith, begins_long p) in get_or-set_other begins n k x 0 (λ q. omega arith) ∙ begin_is k h ∙ sym (begins_at p k h));
  }

  module _ (room : n < length begins) where
    abbrev all : List ℕ
    all = set begins n (length ends)

    size : length ends ≡ begin g n
    size = omega (arith, a.even, begin-all a)

    -- where the groups begin, and where the last one ends
    begins_is : (v : ℕ) → v ≤ n → read all v ≡ begin g v
    begins_is v h = elim (ℕ_discrete v n) [
      | yes q ↦ rw q (get_or-set_same begins n (length ends) 0 room ∙ size)
      | no ne ↦ get_or-set_other begins n v (length ends) 0 ne ∙ begin_is v (omega arith)
    ]

    next_is : (v : ℕ) → v < n → read all (v + 1) ≡ begin g (suc v)
    next_is v l = let q : v + 1 ≡ suc v = omega arith in rw q (begins_is (suc v) (omega arith))

    end_is : (v : ℕ) → v < n → group_end n (length ends) all v ≡ read all (v + 1)
    unfolding group_end
    end_is v l = elim (dec_lt (v + 1) n) [
      | yes h ↦ rw (lt-ltb (v + 1) n h)
      | no h ↦ let q : v + 1 ≡ n = omega arith in rw (le-ltb (v + 1) n (omega arith), q) (sym (get_or-set_same begins n (length ends) 0 room))
    ]

    -- each place of a group has an edge of its vertex
    module _ (v k : ℕ) (l : v < n) (low : read all v ≤ k) (high : k < read all (v + 1)) where
      found : (d : ℕ) × (d < length ends / 2) × T (touches g v d) × (begin g v + rank (touches g v) d ≡ k)
      found =
          let r = place_find a (suc v) k (omega (arith, next_is v l)) in
          elim (ℕ_discrete r.0 v) [
            | yes q ↦ (r.1, r.3, subst (λ (x : ℕ). T (touches g x r.1)) q r.4, subst (λ (x : ℕ). begin g x + rank (touches g x) r.1 ≡ k) q r.5)
            | no ne ↦ absurd (omega (arith, r.2, r.5, begins_is v (omega arith), place_below a r.0 r.1 r.3 r.4, begin_le a (suc r.0) v (omega (arith, r.2))))
          ]

      found_is : read incident k ≡ found.0
      found_is =
          let f = found in
          ap (λ (i : List ℕ). get_or i k 0) t.incident_is
          ∙ get_or-append (incident_table g) t.incident_rest 0 k (omega (arith, ap length (incident_is p), next_is v l, begin_le a (suc v) n (omega arith)))
          ∙ ap (λ (i : List ℕ). get_or i k 0) (incident_is p) ∙ ap (λ (i : ℕ). get_or (groups g n) i 0) (sym f.3) ∙ place_at a n v f.0 l f.1 f.2

    -- the edges at each vertex
    pub grouped_from : Grouped p incident all
    grouped_from = record {
      place = λ e v u j.
          let c = crosses (tabled_set (length ends) room) [] e v u refl j in
          (c.place, c.group.from, omega (arith, c.group.to, end_is v (vertex_size p (joins_vertex j))), c.listed);
      joins = λ v k l x y. let f = found v k l x y in (far g f.0 v, subst (λ (e : ℕ). Joins g e v (far g f.0 v)) (sym (found_is v k l x y)) (touches_joins (entire_edge (admitted_entire a) f.0 f.1) f.2));
      ascends = λ v l. omega (arith, begins_is v (omega arith), next_is v l, begin_le a v (suc v) (omega arith));
      inside = λ v l. omega (arith, next_is v l, begin_le a (suc v) n (omega arith), size);
      once = λ v j k l x y z q.
          let b : j < read all (v + 1) = omega arith in
          let c : read all v ≤ k = omega arith in
          let f = found v j l x b in
          let h = found v k l c z in
          let s : f.0 ≡ h.0 = sym (found_is v j l x b) ∙ q ∙ found_is v k l c z in
          omega (arith, f.3, h.3, ap (λ (d : ℕ). rank (touches g v) d) s);
      long = (tabled_room t).0;
      room = omega (arith, length-set begins n (length ends));
    }
