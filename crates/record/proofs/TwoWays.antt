-- Where two ways up meet: the vertices above w are marked, and the way up from u is followed to the first mark.
use Rattle.std.proofs.Common.{◌≡◌, ℕ, ◌≤◌, List, length, sym, refl, ◌∙◌, subst, inl, inr, arith}
use mathlib.Core.List.{Memᴰ as In}
use native.Mathlib.Decide.{ℕ_discrete, dec_le}
use Rattle.connectivity.specs.Plan.{Plan, plan, graph, Limits}
use Rattle.connectivity.specs.Graph.{Graph, Vertex}
use Rattle.connectivity.specs.Walk.{Leg, froms}
use Rattle.connectivity.proofs.Lists.{in_dec}
use Rattle.connectivity.proofs.Kept.{vertex_size}
use Rattle.tree.specs.Tree.{Pointers, Above, Climb}
use Rattle.tree.proofs.Above.{above_cases, root_above, way_up, climb_cases, climb_end, climb_new, climb_to, climb_as, climb_on}
use Rattle.graph.specs.Marks.{read}
use Rattle.record.specs.Ways.{Marking, MarkedOn, Toward}
use Rattle.numbers.specs.Standing.{Rooted, tree_of}
use Rattle.record.specs.Opening.{Meets, Meeting}
use Rattle.record.proofs.Climbing.{climb_way}

module _ {most : Limits} {p : Plan} {root : ℕ} {first : List ℕ} {rank : ℕ → ℕ} (r : Rooted most p root first rank) where
  abbrev g : Graph
  g = graph p

  abbrev t : Pointers
  t = tree_of p root first rank

  -- the way up to the root
  pub root_climb : {v : ℕ} → Vertex g v → (legs : List Leg) × Climb g t (λ y. y ≡ root) v legs root
  root_climb h = way_up (root_above r.tree h)

module _ {most : Limits} {ends first marks : List ℕ} {w u r : ℕ} (c : Meets most ends first w u r marks) where
  abbrev gr : Graph
  gr = graph (plan c.n ends c.excluded)

  abbrev tr : Pointers
  tr = tree_of (plan c.n ends c.excluded) r first c.rank

  pub rise : (legs : List Leg) × Climb gr tr (λ y. y ≡ r) w legs r
  rise = root_climb c.rooted c.one

  abbrev pub marking : (size : ℕ) → c.n ≤ size → Marking most ends first w r size
  marking size h = record { way = climb_way c.rooted rise.1 (vertex_size (plan c.n ends c.excluded) c.one); room = h }

  module _ (found : List ℕ) (m : MarkedOn rise.0 r 1 (read marks) (read found)) where
    -- what is above w has a mark, and nothing else
    above_marked : {v : ℕ} → Above gr tr v w → 1 ≤ read found v
    above_marked {v} a = elim (climb_cases rise.1 a) [
      | inl i ↦ omega (arith, m.on v i)
      | inr b ↦ elim (above_cases b) [
        | inl p ↦ subst (λ (y : ℕ). 1 ≤ read found y) (sym p) (omega (arith, m.end))
        | inr h ↦ absurd (h.0.other refl)
      ]
    ]

    marked_above : {v : ℕ} → 1 ≤ read found v → Above gr tr v w
    marked_above {v} h = elim (in_dec v (froms rise.0)) [
      | yes i ↦ climb_on c.rooted.tree rise.1 i
      | no o ↦ elim (ℕ_discrete v r) [
        | yes p ↦ rw p (root_above c.rooted.tree c.one)
        | no q ↦ absurd (omega (arith, h, m.off v o q, c.blank v))
      ]
    ]

    pub met : (legs : List Leg) × (x : ℕ) × Climb gr tr (λ v. 1 ≤ read found v) u legs x
    met = climb_to (λ v. dec_le 1 (read found v)) (root_above c.rooted.tree c.other) (omega (arith, m.end))

    pub met_plain : (v : ℕ) → In v (froms met.0) → read found v ≡ 0
    met_plain v i = elim (dec_le 1 (read found v)) [ yes h ↦ absurd (climb_new met.2 i h) | no h ↦ omega (arith, h) ]

    abbrev pub toward : c.n ≤ length found → Toward most ends first found u
    toward h = record {
      to = met.1;
      way = climb_way c.rooted met.2 (vertex_size (plan c.n ends c.excluded) c.other);
      room = h;
      plain = met_plain;
      met = λ p. omega (arith, p, climb_end met.2);
    }

    pub meeting_at : {x : ℕ} → x ≡ met.1 → Meeting gr tr w u x
    meeting_at {x} p = record {
      legs = met.0;
      climb = climb_as (subst (Climb gr tr (λ v. 1 ≤ read found v) u met.0) (sym p) met.2)
          (rw p (marked_above (climb_end met.2))) (λ v i a. climb_new met.2 i (above_marked a));
    }

    -- the marks are taken back
    pub unmarked : (after : List ℕ) → MarkedOn rise.0 r 0 (read found) (read after) → (v : ℕ) → read after v ≡ 0
    unmarked after q v = elim (in_dec v (froms rise.0)) [
      | yes i ↦ q.on v i
      | no o ↦ elim (ℕ_discrete v r) [ yes p ↦ rw p q.end | no d ↦ q.off v o d ∙ m.off v o d ∙ c.blank v ]
    ]
