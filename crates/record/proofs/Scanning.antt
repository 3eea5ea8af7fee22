-- The search for an edge that is not built, turn by turn.
use Rattle.std.proofs.Common.{◌≡◌, ℕ, ◌+◌, ◌<◌, ◌≤◌, List, length, subst, arith}
use native.Mathlib.Decide.{ℕ_discrete, dec_lt}
use Rattle.connectivity.specs.Plan.{entire, Limits}
use Rattle.graph.specs.Marks.{read}
use Rattle.graph.proofs.Joined.{joins_edge}
use Rattle.record.specs.Cursors.{NextSlot, Slots, Ahead, Opening, Opened, Scanned}

module _ {most : Limits} {incident begins order over : List ℕ} {at slot : ℕ} (c : Opening most incident begins order over at slot) where
  abbrev State : ℕ → ℕ → Type 0
  State i from = Scanned (read incident) (read begins) (read order) (read over) at slot c.p.vertices i from

  abbrev At : ℕ → ℕ → Type 0
  At i k = Ahead (read order) (read begins) at slot c.p.vertices i k

  pub scanned_start : State at slot
  scanned_start = record {
    least = omega arith;
    most = c.at_below;
    low = c.slot_from;
    high = c.slot_to;
    after = λ q. omega arith;
    passed = λ j k a l. absurd (omega (arith, a.least));
    before = λ k a l. absurd (omega (arith, a.after (omega arith)));
  }

  module _ {i from : ℕ} (s : State i from) where
    abbrev end : ℕ
    end = read begins (read order i + 1)

    -- what is read on the way is there
    pub scanned_vertex : (read order i < c.p.vertices) × (i < length order) × (read order i + 1 < length begins)
    scanned_vertex = let v = c.valid i s.most in (v, omega (arith, s.most, c.order_long), omega (arith, v, c.grouped.room))

    pub scanned_slots : Slots incident (length over) from end
    scanned_slots =
        let v = c.valid i s.most in
        record {
          low = s.high;
          long = omega (arith, c.grouped.inside (read order i) v, c.grouped.long);
          edges = λ k a b. let j = c.grouped.joins (read order i) k v (omega (arith, s.low)) b in omega (arith, joins_edge (entire c.p.vertices c.p.ends) j.1, c.over_long);
        }

    module _ {r : ℕ} (t : NextSlot (read incident) (read over) from end r) where
      -- up to where the search of the group ended all is built
      up_to : (k : ℕ) → At i k → k < r → read over (read incident k) ≡ 0
      up_to k a l = elim (dec_lt k from) [ yes h ↦ s.before k a h | no h ↦ t.built k (omega arith) l ]

      pub scanned_end : r < end → Opened (read incident) (read begins) (read order) (read over) at slot c.p.vertices i r
      scanned_end l = record {
        here = record { least = s.least; most = s.most; from = omega (arith, s.low, t.least); to = l; after = λ q. omega (arith, s.after q, t.least) };
        new = t.new l;
        passed = s.passed;
        before = up_to;
      }

      module _ (whole : end ≤ r) where
        passed : (j k : ℕ) → At j k → j < i + 1 → read over (read incident k) ≡ 0
        passed j k a l = elim (ℕ_discrete j i) [
          | yes q ↦ let b : At i k = subst (λ (x : ℕ). At x k) q a in up_to k b (omega (arith, b.to))
          | no h ↦ s.passed j k a (omega arith)
        ]

        -- this was not the last vertex
        pub scanned_more : i + 1 < c.p.vertices
        scanned_more = elim (dec_lt (i + 1) c.p.vertices) [ yes l ↦ l | no h ↦ absurd (c.some (λ j k a. passed j k a (omega (arith, a.most)))) ]

        pub scanned_next : State (i + 1) (read begins (read order (i + 1)))
        scanned_next = record {
          least = omega (arith, s.least);
          most = scanned_more;
          low = omega arith;
          high = c.grouped.ascends (read order (i + 1)) (c.valid (i + 1) scanned_more);
          after = λ q. absurd (omega (arith, s.least));
          passed = passed;
          before = λ k a l. absurd (omega (arith, a.from));
        }
