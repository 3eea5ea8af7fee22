-- What is entered: all that the root leads to, if no more stand in the order than there are marks; over the tables of a plan, behind searches that left
-- nothing to lead on to, what the root reaches over live edges.
use mathlib.Core.Path.{◌≡◌, ◌∙◌}
use mathlib.Core.Logic.{◌↔◌}
use mathlib.Core.List.{List}
use Prim.Native.Nat.{ℕ, ◌≤◌, ◌<◌}
use native.Mathlib.Omega.{arith}
use native.Mathlib.Decide.{ℕ_discrete, dec_lt}
use lib.ListN.{get_or}
use Rattle.connectivity.specs.Plan.{Plan, graph, Limits}
use Rattle.connectivity.specs.Graph.{Joins}
use Rattle.connectivity.specs.Reach.{Reach, here, over}
use Rattle.connectivity.proofs.Reach.{joins_sym}
use Rattle.graph.specs.Marks.{read, Live, Marked, tally}
use Rattle.graph.proofs.Joined.{joins_below}
use Rattle.graph.proofs.Tally.{tally_lt}
use Rattle.incidence.specs.Tables.{Tabled}
use Rattle.depth.specs.Depth.{Crossing, Step, Along, stay, leave, Entered, EnteredBy, Fresh, Found}
use Rattle.depth.proofs.Edges.{crossing_below}
use Rattle.depth.proofs.Walk.{closed_along}
use Rattle.depth.proofs.Crosses.{crosses}

-- whether a vertex has been entered can be told
pub entered_dec : (n : ℕ) (mark₀ mark : ℕ → ℕ) (v : ℕ) → Dec (Entered n mark₀ mark v)
entered_dec n mark₀ mark v = elim (dec_lt v n) [
  | no h ↦ no (λ i. h i.below)
  | yes l ↦ elim (ℕ_discrete (mark₀ v) 0) [
    | no h ↦ no (λ i. h i.fresh)
    | yes z ↦ elim (ℕ_discrete (mark v) 0) [ yes q ↦ no (λ i. i.marked q) | no m ↦ yes (record { below = l; fresh = z; marked = m }) ]
  ]
]

-- a cursor that was 0 is 0
pub cursor_zero : {cross : ℕ → ℕ → ℕ → Type 0} {n root seen : ℕ} {first₀ order₀ cursor₀ first order cursor : List ℕ} {count : ℕ}
    → Found cross n root seen first₀ order₀ cursor₀ first order cursor count → (v : ℕ) → get_or cursor₀ v 0 ≡ 0 → get_or cursor v 0 ≡ 0
cursor_zero {n = n} {first₀ = first₀} {first = first} f v z = elim (entered_dec n (read first₀) (read first) v) [ yes i ↦ f.cleared v i | no h ↦ f.cursor_kept v h ∙ z ]

module _ {p : Plan} {incident begins dead : List ℕ} {root seen : ℕ} {first₀ order₀ cursor₀ first order cursor : List ℕ} {count : ℕ}
    (f : Found (Crossing p incident begins dead) p.vertices root seen first₀ order₀ cursor₀ first order cursor count) (h : Fresh p.vertices root seen first₀) where
  abbrev n : ℕ
  n = p.vertices

  abbrev step : ℕ → ℕ → ℕ → Type 0
  step = Step (Crossing p incident begins dead) (read first₀)

  pub all_entered : seen ≤ tally (read first₀) n → (v : ℕ) → Along step root v → EnteredBy n first₀ first v
  all_entered few v w = elim (dec_lt count n) [
    | yes l ↦ f.whole l v w
    | no g ↦ let b = closed_along (λ (x : ℕ). (x < n) × (get_or first₀ x 0 ≡ 0)) (λ e u x s i. (crossing_below p incident begins dead e u x s.crossing, s.fresh)) w (h.below, h.fresh) in
        record { below = b.0; fresh = b.1; marked = λ z. omega (arith, f.counted, f.room, tally_lt (read first) n v b.0 z) }
  ]

  -- no live edge leads from a vertex that had a mark to one that had none
  module _ {most : Limits} (tabled : Tabled most p incident begins) (closed : (e u v : ℕ) → Live dead e → Joins (graph p) e u v → Marked (read first₀) u → Marked (read first₀) v) where
    along_reach : {u v : ℕ} → Along step u v → Reach (graph p) (Live dead) u v
    along_reach stay = here
    along_reach (leave e s r) = over e s.crossing.live s.crossing.joins (along_reach r)

    still_fresh : (e u v : ℕ) → Live dead e → Joins (graph p) e u v → get_or first₀ u 0 ≡ 0 → get_or first₀ v 0 ≡ 0
    still_fresh e u v l j z = elim (ℕ_discrete (get_or first₀ v 0) 0) [ yes q ↦ q | no m ↦ absurd (closed e v u l (joins_sym j) m z) ]

    reach_along : {u v : ℕ} → Reach (graph p) (Live dead) u v → get_or first₀ u 0 ≡ 0 → Along step u v
    reach_along here z = stay
    reach_along (over {u} {v} e l j r) z = let q = still_fresh e u v l j z in leave e (record { crossing = crosses tabled dead e u v l j; fresh = q }) (reach_along r q)

    pub entered_reach : seen ≤ tally (read first₀) n → (v : ℕ) → EnteredBy n first₀ first v ↔ Reach (graph p) (Live dead) root v
    entered_reach few v = (λ i. along_reach (f.sound v i), λ r. all_entered few v (reach_along r h.fresh))

-- where no vertex had a mark, that is so
pub clear_closed : (p : Plan) (mark : ℕ → ℕ) → ((v : ℕ) → v < p.vertices → mark v ≡ 0) → (e u v : ℕ) → Joins (graph p) e u v → Marked mark u → Marked mark v
clear_closed p mark clear e u v j m = absurd (m (clear u (joins_below p (joins_sym j))))
