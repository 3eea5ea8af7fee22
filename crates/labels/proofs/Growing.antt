-- Searches from one root after the other leave a spanning forest, and cursors that are 0.
use mathlib.Core.Path.{◌≡◌, sym, ap, ◌∙◌}
use mathlib.Core.Logic.{inl, inr}
use mathlib.Core.List.{List}
use Prim.Native.Nat.{ℕ, ◌+◌, ◌*◌, ◌/◌, ◌≤◌, ◌<◌}
use native.Mathlib.Omega.{arith}
use native.Mathlib.Decide.{ℕ_discrete}
use lib.Dec.{leb, le→leb}
use lib.ListN.{length, get_or, replicate, length-replicate}
use Rattle.connectivity.specs.Plan.{Plan, entire, graph, Limits}
use Rattle.connectivity.specs.Admission.{Admitted}
use Rattle.connectivity.proofs.Lists.{both_and}
use Rattle.connectivity.proofs.Kept.{admitted_entire}
use Rattle.graph.specs.declared.Answer.{Answer}
use Rattle.graph.specs.Admission.{told_by}
use Rattle.graph.specs.Excluded.{Masked}
use Rattle.graph.proofs.Lent.{lent-enough}
use Rattle.graph.specs.Marks.{read, Marked}
use Rattle.graph.proofs.Tally.{zeros, tally_lt, tally_le}
use Rattle.incidence.specs.Tables.{Front, enough, Filled}
use Rattle.incidence.specs.Parts.{Kept, Cleared}
use Rattle.incidence.proofs.Loops.{kept_same, kept_trans}
use Rattle.incidence.proofs.Front.{front}
use Rattle.incidence.proofs.Filled.{filled_tabled}
use Rattle.depth.specs.Depth.{root_mark, Found, Searched}
use Rattle.depth.specs.Parts.{Rooms}
use Rattle.depth.proofs.Forest.{grown_start, grown_search, grown_full, grown_end, grown_low}
use Rattle.labels.specs.Answered.{Spanned}
use Rattle.labels.specs.Planting.{Spacious, Open, Prepared, Growing, Planted}
use Rattle.labels.proofs.Masks.{masks_live, front_masks, masked_front}

-- a front of zeros
pub zeros_front : {n : ℕ} (l₀ : List ℕ) {l : List ℕ} → n ≤ length l₀ → Cleared n l₀ l → Front (replicate n 0) l₀ l
zeros_front {n} l₀ {l} h c =
    let long = length-replicate {A = ℕ} n 0 in
    front (replicate n 0) l₀ l (omega (arith, long)) (rw long c.kept) (λ k b. c.zero k (omega (arith, long)) ∙ sym (zeros n k))

-- One search.

module _ {cross : ℕ → ℕ → ℕ → Type 0} {n root seen : ℕ} {first₀ order₀ cursor₀ first order cursor : List ℕ} {count : ℕ}
    (f : Found cross n root seen first₀ order₀ cursor₀ first order cursor count) where
  found_first : Kept n first₀ first
  found_first = record { long = f.first_long; rest = λ k h. f.kept k (λ i. omega (arith, i.below)) }

  found_order : Kept n order₀ order
  found_order = record { long = f.order_long; rest = λ k h. f.rest k (inr (omega (arith, f.room))) }

  found_cursor : Kept n cursor₀ cursor
  found_cursor = record { long = f.cursor_long; rest = λ k h. f.cursor_kept k (λ i. omega (arith, i.below)) }

  found_cleared : ((w : ℕ) → w < n → Marked (read first₀) w → get_or cursor₀ w 0 ≡ 0) → (w : ℕ) → w < n → Marked (read first) w → get_or cursor w 0 ≡ 0
  found_cleared z w l m = elim (ℕ_discrete (get_or first₀ w 0) 0) [
    | yes q ↦ f.cleared w (record { below = l; fresh = q; marked = m })
    | no h ↦ f.cursor_kept w (λ i. h i.fresh) ∙ z w l h
  ]

-- All of them.

pub growing_start : (p : Plan) (first order cursor : List ℕ) → ((v : ℕ) → v < p.vertices → get_or first v 0 ≡ 0) → Growing p first order cursor first order cursor 0 0
growing_start p first order cursor zero = record {
  grown = grown_start (graph p) p.vertices (read first) (read order) zero;
  cleared = λ w l m. absurd (m (zero w l));
  first_kept = kept_same p.vertices first;
  order_kept = kept_same p.vertices order;
  cursor_kept = kept_same p.vertices cursor;
}

module _ {p : Plan} {first₀ order₀ cursor₀ first order cursor : List ℕ} {v count : ℕ} (t : Growing p first₀ order₀ cursor₀ first order cursor v count) where
  pub growing_search : {most : Limits} {incident begins dead first' order' cursor' : List ℕ} {more : ℕ} → Open most p incident begins dead → length p.ends / 2 < root_mark → v < p.vertices
      → Searched p incident begins dead v count first order cursor first' order' cursor' more → Growing p first₀ order₀ cursor₀ first' order' cursor' (v + 1) more
  growing_search o few l (inl s) = record {
    grown = grown_search o.tabled few (masks_live o.masks) t.grown l (inl s);
    cleared = found_cleared s.1 t.cleared;
    first_kept = kept_trans t.first_kept (found_first s.1);
    order_kept = kept_trans t.order_kept (found_order s.1);
    cursor_kept = kept_trans t.cursor_kept (found_cursor s.1);
  }
  growing_search {dead = dead} o few l (inr s) = record {
    grown = grown_search {dead = dead} o.tabled few (masks_live o.masks) t.grown l (inr s);
    cleared = rw (s.2.0, s.2.2) t.cleared;
    first_kept = rw s.2.0 t.first_kept;
    order_kept = rw s.2.1 t.order_kept;
    cursor_kept = rw s.2.2 t.cursor_kept;
  }

  -- when every root has been tried, all vertices stand in the order
  pub growing_all : v ≡ p.vertices → p.vertices ≤ count
  growing_all q = omega (arith, grown_full t.grown q)

  -- all of them do
  pub growing_end : p.vertices ≤ count → p.vertices ≤ length cursor₀ → Spanned p first₀ order₀ cursor₀ first order cursor
  growing_end h room =
      let all : count ≡ p.vertices = omega (arith, t.grown.counted, tally_le (read first) p.vertices) in
      record {
        forest = grown_end t.grown all;
        low = grown_low t.grown all;
        first_kept = t.first_kept;
        order_kept = t.order_kept;
        cursor_front = zeros_front cursor₀ room (record {
          kept = t.cursor_kept;
          zero = λ w l. t.cleared w l (λ z. omega (arith, t.grown.counted, tally_lt (read first) p.vertices w l z));
        });
      }

  -- there is room for more searches
  pub growing_rooms : Rooms p.vertices first₀ order₀ cursor₀ → Rooms p.vertices first order cursor
  growing_rooms r = record {
    first_room = omega (arith, r.first_room, t.first_kept.long);
    order_room = omega (arith, r.order_room, t.order_kept.long);
    cursor_room = omega (arith, r.cursor_room, t.cursor_kept.long);
  }

-- From lent tables on.

filled_number : {most : Limits} {p : Plan} {incident₀ begins₀ dead₀ incident begins : List ℕ} {r : Answer} → Admitted most p → Spacious p incident₀ begins₀ dead₀
    → Filled most (entire p.vertices p.ends) incident₀ begins₀ incident begins r → r.number ≡ 0
filled_number {p = p} {incident₀ = incident} {begins₀ = begins} a s f =
    let q = entire p.vertices p.ends in
    ap (λ (x : Answer). x.number) (f.answer ∙ ap told_by (lent-enough (enough q incident begins) (admitted_entire a)
    (both_and (leb (2 * (length p.ends / 2)) (length incident)) (leb p.vertices (length begins)) (le→leb _ _ s.incident_room) (le→leb _ _ s.begins_room))))

pub prepared : {most : Limits} {p : Plan} {i₀ b₀ d₀ f₀ i b d₁ d f : List ℕ} {r : Answer} → Admitted most p → Spacious p i₀ b₀ d₀ → Filled most (entire p.vertices p.ends) i₀ b₀ i b r
    → Cleared (length p.ends / 2) d₀ d₁ → Masked most p.ends p.excluded d₁ d → Cleared p.vertices f₀ f → Prepared most p i₀ b₀ d₀ f₀ i b d f
prepared {p = p} {d₀ = d₀} a s filled edges barred marks =
    let z = filled_number a s filled in
    let t = filled_tabled filled z in
    let dead = masked_front a s.dead_room edges barred in
    record {
      laid = record { incident_front = filled.incident_front z; begins_front = filled.begins_front z; dead_front = dead };
      ready = record {
        tabled = record { admitted = a; incident_rest = t.incident_rest; incident_is = t.incident_is; begins_rest = t.begins_rest; begins_is = t.begins_is };
        masks = front_masks p d₀ s.dead_room dead;
      };
      marks = marks;
    }

-- the marks of the vertices were cleared before
pub planted : {most : Limits} {p : Plan} {i₀ b₀ d₀ f₀ o₀ c₀ i b d f₁ f o c : List ℕ} → Prepared most p i₀ b₀ d₀ f₀ i b d f₁ → Spanned p f₁ o₀ c₀ f o c
    → Planted p i₀ b₀ d₀ f₀ o₀ c₀ i b d f o c
planted begin s = record {
  laid = begin.laid;
  spanned = record {
    forest = s.forest;
    low = s.low;
    first_kept = kept_trans begin.marks.kept s.first_kept;
    order_kept = s.order_kept;
    cursor_front = s.cursor_front;
  };
}
