-- How a record comes on: the rows of each step are written behind those before it, the cursors stay behind what is built, and in the end every edge is.
use Rattle.std.proofs.Common.{◌≡◌, ℕ, ◌+◌, ◌-◌, ◌*◌, ◌<◌, ◌≤◌, List, ◌∷◌, ◌++◌, length, take, drop, sym, ◌∙◌, subst, arith, length-append}
use mathlib.Core.List.Memᴰ.{append_right as in_right}
use Rattle.connectivity.specs.Plan.{Plan, plan, graph, Limits}
use Rattle.connectivity.specs.Walk.{Leg, edges_of, all_edges}
use Rattle.connectivity.specs.Mader.{rows, step_rows}
use Rattle.connectivity.specs.Admission.{kept_edges}
use Rattle.connectivity.proofs.Legs.{legs_edges}
use Rattle.connectivity.proofs.Build.{rows-length, all_edges_lem}
use Rattle.tree.proofs.Along.{along_end}
use Rattle.graph.specs.Marks.{read}
use Rattle.graph.proofs.Barring.{edges_few}
use Rattle.connectivity.proofs.Lists.{in_dec}
use Rattle.graph.specs.Ends.{far_end}
use Rattle.record.specs.Ways.{Written, MetFirst, OverUp, upper_end}
use Rattle.numbers.specs.Standing.{Rooted, tree_of}
use Rattle.record.specs.Linking.{BothBy, WalkedBy}
use Rattle.record.specs.Recording.{Recording, Stepping, Stepped, Chosen, Behind, Nexting, Recorded}
use Rattle.record.specs.Progress.{Adding, Added, Going, Finishing}
use Rattle.record.proofs.Written.{written_length, written_part, part_long}
use Rattle.record.proofs.Stepping.{stepped_by}
use Rattle.record.proofs.Counting.{steps_most, done_most}

-- what is written so far
module _ {most : Limits} {p : Plan} {root : ℕ} {first : List ℕ} {rank whole : ℕ → ℕ} {walks : List (List Leg)} {before now places below tips over : List ℕ} {row step next : ℕ}
    (rooted : Rooted most p root first rank) (r : Recording p root first rank whole walks before now places below tips over row step next) where
  pub rows_long : length (rows walks) ≡ 3 * row
  rows_long = omega (arith, rows-length walks, r.row_is)

  pub row_most : row ≤ kept_edges p
  row_most = omega (arith, r.row_is, done_most r.holds.state.along.steps r.holds.state.along.once)

  pub now_long : length now ≡ length before
  now_long = written_length (rows walks) before now r.written (omega (arith, rows_long, row_most, r.fits))

  pub step_most : step ≤ row
  step_most = omega (arith, r.row_is, r.step_is, steps_most r.holds.state.along.steps)

-- one step more
module _ {most : Limits} {ends first number : List ℕ} {f row step next : ℕ} {places below tips over now : List ℕ}
    (c : Adding most ends first number f row step next places below tips over now) where
  pub row_room : 3 * row ≤ length now
  row_room = omega (arith, row_most c.rooted c.recording, now_long c.rooted c.recording, c.recording.fits)

  abbrev pub stepping : Stepping most ends first number f next places below tips over (length (take (length now - 3 * row) (drop (3 * row) now)))
  stepping = record {
    n = c.n;
    excluded = c.excluded;
    root = c.root;
    whole = c.whole;
    rooted = c.rooted;
    walks = c.walks;
    holds = c.recording.holds;
    chosen = c.chosen;
    number_long = c.number_long;
    fits = omega (arith, part_long now (3 * row), now_long c.rooted c.recording, c.recording.row_is, c.recording.fits);
  }

  module _ (part places' below' tips' over' : List ℕ) {count next' : ℕ}
      (s : Stepped (plan c.n ends c.excluded) c.root first (read number) c.whole c.walks step next (take (length now - 3 * row) (drop (3 * row) now)) part places places' below' tips' over' count next') where
    recording_then : Recording (plan c.n ends c.excluded) c.root first (read number) c.whole (s.legs ∷ c.walks) c.before (take (3 * row) now ++ (part ++ drop (length now - 3 * row) (drop (3 * row) now)))
        places' below' tips' over' (row + count) (step + 1) next'
    recording_then = record {
      holds = s.holds;
      written = written_part (rows c.walks) (step_rows (length c.walks) s.legs) c.before now part (3 * row) c.recording.written (rows_long c.rooted c.recording)
          (subst (λ (k : ℕ). Written (step_rows k s.legs) (take (length now - 3 * row) (drop (3 * row) now)) part) c.recording.step_is s.written);
      row_is = omega (arith, s.counted, legs_edges s.legs, c.recording.row_is, length-append (edges_of s.legs) (all_edges c.walks));
      step_is = omega (arith, c.recording.step_is);
      fits = c.recording.fits;
    }

    pub row_then : row + count ≤ kept_edges (plan c.n ends c.excluded)
    row_then = row_most c.rooted recording_then

    pub step_then : step + 1 ≤ kept_edges (plan c.n ends c.excluded)
    step_then = omega (arith, step_most c.rooted recording_then, row_then)

    pub added : Added (plan c.n ends c.excluded) c.root first (read number) c.whole c.walks c.before (take (3 * row) now ++ (part ++ drop (length now - 3 * row) (drop (3 * row) now)))
        places places' below' tips' over' row next (row + count) (step + 1) next'
    added = record {
      legs = s.legs;
      recording = recording_then;
      more_rows = omega (arith, s.some);
      more = s.more;
      gone = s.gone;
    }

-- a step, part after part
module _ {most : Limits} {ends first number : List ℕ} {f row step next : ℕ} {places below tips over now : List ℕ} (count : ℕ) (places₂ tips₂ places₃ below₃ tips₃ over₃ part : List ℕ) {s w x next₂ next₃ : ℕ}
    (p : s ≡ upper_end ends number f) (q : w ≡ far_end ends f s) (m : MetFirst most ends first places w x)
    (r : OverUp most ends first f s w x step (take (length now - 3 * row) (drop (3 * row) now)) part count)
    (e : BothBy most ends first below s x next places tips places₂ tips₂ next₂)
    (k : WalkedBy most ends first f w x next₂ places₂ below tips₂ over places₃ below₃ tips₃ over₃ next₃)
    (c : Adding most ends first number f row step next places below tips over now) where
  taken : Stepped (plan c.n ends c.excluded) c.root first (read number) c.whole c.walks step next (take (length now - 3 * row) (drop (3 * row) now)) part places places₃ below₃ tips₃ over₃ count next₃
  taken = stepped_by step count (take (length now - 3 * row) (drop (3 * row) now)) places₂ tips₂ places₃ below₃ tips₃ over₃ part p q m r e k (stepping c)

  pub path_fits : (row + count ≤ most.edges) × (step + 1 ≤ most.edges)
  path_fits = (
    omega (arith, row_then c part places₃ below₃ tips₃ over₃ taken, edges_few (plan c.n ends c.excluded), c.rooted.admitted.edges),
    omega (arith, step_then c part places₃ below₃ tips₃ over₃ taken, edges_few (plan c.n ends c.excluded), c.rooted.admitted.edges),
  )

  pub path_added : Added (plan c.n ends c.excluded) c.root first (read number) c.whole c.walks c.before (take (3 * row) now ++ (part ++ drop (length now - 3 * row) (drop (3 * row) now)))
      places places₃ below₃ tips₃ over₃ row next (row + count) (step + 1) next₃
  path_added = added c part places₃ below₃ tips₃ over₃ taken

-- Step after step.

module _ {most : Limits} {p : Plan} {incident begins first order number last : List ℕ} {whole : ℕ → ℕ} {before now places below tips over : List ℕ} {row step next empty at slot : ℕ}
    (r : Going most p incident begins first order number last whole before now places below tips over row step next empty at slot) where
  pub going_most : row ≤ kept_edges p
  going_most = row_most r.ground.rooted r.recording

  pub going_long : length now ≡ length before
  going_long = now_long r.ground.rooted r.recording

  -- an edge is left
  module _ (left : row < kept_edges p) where
    abbrev pub nexting : Nexting most p.ends incident begins first order number last places below tips over next empty at slot
    nexting = record {
      n = p.vertices;
      excluded = p.excluded;
      whole = whole;
      ground = r.ground;
      listing = r.listing;
      walks = r.walks;
      holds = r.recording.holds;
      behind = r.behind;
      left = omega (arith, left, r.recording.row_is);
    }

    module _ {f : ℕ} (h : Chosen (graph p) (tree_of p (read order 0) first (read number)) (all_edges r.walks) f) where
      abbrev pub adding : Adding most p.ends first number f row step next places below tips over now
      adding = record {
        n = p.vertices;
        excluded = p.excluded;
        root = read order 0;
        whole = whole;
        rooted = r.ground.rooted;
        walks = r.walks;
        before = before;
        recording = r.recording;
        chosen = h;
        number_long = r.ground.number_long;
      }

    -- what is built stays so, and links without an inside stay without
    pub going_then : {places' : List ℕ} (below' tips' over' now' : List ℕ) {empty' at' slot' row' step' next' : ℕ}
        → Behind p.vertices (read incident) (read begins) (read order) (read places) (read over) next empty' at' slot'
        → Added p (read order 0) first (read number) whole r.walks before now' places places' below' tips' over' row next row' step' next'
        → Going most p incident begins first order number last whole before now' places' below' tips' over' row' step' next' empty' at' slot'
    going_then {places'} below' tips' over' now' b a = record {
      ground = r.ground;
      listing = r.listing;
      walks = a.legs ∷ r.walks;
      recording = a.recording;
      behind = record {
        least = b.least;
        most = omega (arith, b.most, a.more);
        gone = λ m l h. a.gone m l (omega (arith, h, b.most)) (b.gone m l h);
        at_below = b.at_below;
        from = b.from;
        to = b.to;
        passed = λ i k h u v. still (read incident k) (b.passed i k h u v);
        before = λ k u v. still (read incident k) (b.before k u v);
      };
    }
      where
        still : (e : ℕ) → read over e ≡ 0 → read over' e ≡ 0
        still e z = elim (in_dec e (all_edges (a.legs ∷ r.walks))) [
          | yes i ↦ a.recording.holds.uses.on e i
          | no o ↦ a.recording.holds.uses.off e o ∙ sym (r.recording.holds.uses.off e (λ i. o (in_right (edges_of a.legs) i))) ∙ z
        ]

  -- every edge is built
  pub recorded : kept_edges p ≤ row → Recorded p before now
  recorded h = record {
    list = rows r.walks;
    builds = along_end r.ground.three r.recording.holds.state.along
        (all_edges_lem r.recording.holds.state.along.steps r.recording.holds.state.along.once (omega (arith, h, going_most, r.recording.row_is)));
    long = omega (arith, rows_long r.ground.rooted r.recording, h, going_most);
    written = r.recording.written;
  }

-- the cursors at first
module _ {most : Limits} {ends : List ℕ} {edges : ℕ} {incident begins first order number last places below tips over now : List ℕ} {row step next : ℕ}
    (c : Finishing most ends edges incident begins first order number last places below tips over now row step next) where
  some_vertex : 0 < c.n
  some_vertex = omega (arith, c.ground.rooted.admitted.two)

  top_below : read order 0 < c.n
  top_below = (c.listing.at 0 some_vertex).0

  pub order_room : 0 < length order
  order_room = omega (arith, some_vertex, c.listing.order_long)

  pub begins_room : read order 0 < length begins
  begins_room = omega (arith, top_below, c.ground.grouped.room)

  pub going_first : {empty at slot : ℕ} → empty ≡ 2 → at ≡ 0 → slot ≡ read begins (read order 0)
      → Going most (plan c.n ends c.excluded) incident begins first order number last c.whole c.before now places below tips over row step next empty at slot
  going_first {empty} {at} {slot} p q u = record {
    ground = c.ground;
    listing = c.listing;
    walks = c.walks;
    recording = c.recording;
    behind = rw p (rw q (rw u (record {
      least = omega arith;
      most = omega (arith, c.recording.holds.links.count);
      gone = λ m l h. absurd (omega (arith, l, h));
      at_below = some_vertex;
      from = omega arith;
      to = c.ground.grouped.ascends (read order 0) top_below;
      passed = λ i k h. absurd (omega (arith, h));
      before = λ k a b. absurd (omega (arith, a, b));
    })));
  }
