-- Where an edge leads from a vertex, and where the group of a vertex ends.
use mathlib.Core.Path.{◌≡◌, refl, sym, ◌∙◌, subst}
use mathlib.Core.Logic.{◌⊎◌, inl, inr, ⊎_elim}
use mathlib.Core.Bool.{true, false, true≢false, false≢true}
use mathlib.Core.List.{List}
use Prim.Native.Nat.{ℕ, ◌+◌, ◌*◌, ◌/◌, ◌≤◌, ◌<◌}
use native.Mathlib.Omega.{arith}
use lib.ListN.{length, get_or}
use borrow.Author.Tests.{lt-ltb, le-ltb}
use Rattle.connectivity.specs.Plan.{Plan, graph}
use Rattle.connectivity.specs.Graph.{Vertex, Joins}
use Rattle.connectivity.proofs.Reach.{joins_sym}
use Rattle.graph.proofs.Joined.{joins_below, joins_edge}
use Rattle.graph.specs.Marks.{read, Marked, Live}
use Rattle.depth.specs.Depth.{group_end, Crossing}
use Rattle.depth.specs.Parts.{EndsAt, Leads, New, LeadsOn}

-- where an edge leads is told for plans that keep every vertex
module _ (p : Plan) where
  pub crossing_below : (incident begins dead : List ℕ) (e u v : ℕ) → Crossing p incident begins dead e u v → v < p.vertices
  crossing_below incident begins dead e u v c = joins_below p c.joins

  abbrev left : ℕ → ℕ
  left e = get_or p.ends (2 * e) 0

  abbrev right : ℕ → ℕ
  right e = get_or p.ends (2 * e + 1) 0

  joins_ends : (e u v : ℕ) → Joins (graph p) e u v → ((u ≡ left e) × (v ≡ right e)) ⊎ ((u ≡ right e) × (v ≡ left e))
  unfolding graph
  joins_ends e u v j = ⊎_elim (λ q. inl (sym q.0, sym q.1)) (λ q. inr (sym q.1, sym q.0)) j.ends

  joins_made : (e : ℕ) → e < length p.ends / 2 → Vertex (graph p) (left e) → Vertex (graph p) (right e) → Joins (graph p) e (left e) (right e)
  unfolding graph
  joins_made e l a b = record { edge = record { below = l; left = a; right = b }; ends = inl (refl, refl) }

  -- where an edge leads
  module _ (dead : List ℕ) (v e : ℕ) where
    lead_none : ((w : ℕ) → Live dead e → Joins (graph p) e v w → ⊥) → Leads p dead v e p.vertices
    lead_none f = record { right = λ l. absurd (omega arith); whole = λ w l j. absurd (f w l j) }

    pub lead_outside : length p.ends / 2 ≤ e → Leads p dead v e p.vertices
    lead_outside h = lead_none (λ w l j. omega (arith, joins_edge p j))

    pub lead_dead : (Live dead e → ⊥) → Leads p dead v e p.vertices
    lead_dead d = lead_none (λ w l j. d l)

    module _ (whole : (x : ℕ) → x < p.vertices → Vertex (graph p) x) (l : e < length p.ends / 2) (live : Live dead e) (lv : v < p.vertices) where
      pub lead_right : left e ≡ v → Leads p dead v e (right e)
      lead_right q = record {
        right = λ b. (live, subst (λ (x : ℕ). Joins (graph p) e x (right e)) q (joins_made e l (whole (left e) (omega arith)) (whole (right e) b)));
        whole = λ w k j. ⊎_elim (λ c. c.1) (λ c. c.1 ∙ q ∙ c.0) (joins_ends e v w j);
      }

      module _ (ne : left e ≡ v → ⊥) where
        pub lead_left : right e ≡ v → Leads p dead v e (left e)
        lead_left q = record {
          right = λ a. (live, joins_sym (subst (Joins (graph p) e (left e)) q (joins_made e l (whole (left e) a) (whole (right e) (omega arith)))));
          whole = λ w k j. ⊎_elim (λ c. absurd (ne (sym c.0))) (λ c. c.1) (joins_ends e v w j);
        }

        pub lead_neither : (right e ≡ v → ⊥) → Leads p dead v e p.vertices
        lead_neither d = lead_none (λ w k j. ⊎_elim (λ c. ne (sym c.0)) (λ c. d (sym c.0)) (joins_ends e v w j))

  -- whether that has no mark
  module _ (dead first : List ℕ) (v e w : ℕ) (f : Leads p dead v e w) where
    pub on_none : p.vertices ≤ w → LeadsOn p dead first v e false
    on_none h = record { yes = λ q. absurd (false≢true q); no = λ q x l j. let c = f.whole x l j in absurd (omega (arith, c, joins_below p j)) }

    pub on_old : Marked (read first) w → LeadsOn p dead first v e false
    on_old m = record { yes = λ q. absurd (false≢true q); no = λ q x l j. rw (f.whole x l j) m }

    pub on_new : w < p.vertices → get_or first w 0 ≡ 0 → LeadsOn p dead first v e true
    on_new l z = record { yes = λ q. (w, record { live = (f.right l).0; joins = (f.right l).1; fresh = z }); no = λ q. absurd (true≢false q) }

    -- the new vertex is the one to which the edge leads
    pub new_is : {x : ℕ} → New p dead first v e x → (x ≡ w) × (x < p.vertices)
    new_is {x} d = (f.whole x d.live d.joins, joins_below p d.joins)

-- where a group ends
module _ (n size : ℕ) (begins : List ℕ) (v : ℕ) where
  end_last : n ≤ v + 1 → group_end n size begins v ≡ size
  unfolding group_end
  end_last h = rw (le-ltb (v + 1) n h)

  end_next : v + 1 < n → group_end n size begins v ≡ get_or begins (v + 1) 0
  unfolding group_end
  end_next h = rw (lt-ltb (v + 1) n h)

  ends_at : (r : ℕ) → r ≤ size → r ≤ group_end n size begins v → ((k : ℕ) → k < size → k < group_end n size begins v → k < r) → EndsAt n size begins v r
  ends_at r a b f = record { right = λ k c d. record { from = c; to = omega arith; inside = omega arith }; whole = λ k i. f k i.inside i.to; inside = a }

  pub ends_last : n ≤ v + 1 → EndsAt n size begins v size
  ends_last h = ends_at size (omega arith) (omega (arith, end_last h)) (λ k a b. a)

  module _ (next : v + 1 < n) where
    pub ends_cut : size < get_or begins (v + 1) 0 → EndsAt n size begins v size
    ends_cut h = ends_at size (omega arith) (omega (arith, end_next next)) (λ k a b. a)

    pub ends_next : get_or begins (v + 1) 0 ≤ size → EndsAt n size begins v (get_or begins (v + 1) 0)
    ends_next h = ends_at (get_or begins (v + 1) 0) h (omega (arith, end_next next)) (λ k a b. omega (arith, end_next next))
