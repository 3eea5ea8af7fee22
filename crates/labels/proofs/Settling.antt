-- The vertices are settled from the last place of the order to the first. Along a spanning forest those that are settled keep the sum 0, and
-- a root has it as soon as all behind it have: so in the end every vertex has it.
use mathlib.Core.Path.{◌≡◌, refl, sym, ap, ◌∙◌, subst}
use mathlib.Core.Logic.{◌⊎◌, inl, inr}
use mathlib.Core.Bool.{Bool, true, cond, ◌||◌}
use mathlib.Core.List.Memᴰ.{eq_of_singleton}
use mathlib.Core.List.Memᴰ.{head as in-first}
use mathlib.Core.List.Memᴰ.{not-nil as not_in}
use mathlib.Core.List.{List, Memᴰ as In}
use Prim.Native.Nat.{ℕ, ◌+◌, ◌-◌, ◌*◌, ◌/◌, ◌≤◌, ◌<◌}
use native.Mathlib.Omega.{arith}
use native.Mathlib.Decide.{ℕ_discrete, dec_lt}
use lib.Bits.{bit_xor, xor_self, xor_zero_r}
use lib.Dec.{T, eqb, eqb→eq}
use lib.ListN.{length, get_or}
use Rattle.connectivity.specs.Lists.{no_member, one, range, any}
use Rattle.connectivity.specs.Plan.{Plan, graph, Limits}
use Rattle.connectivity.specs.Graph.{Graph, Vertex, Joins, vertices, edges}
use Rattle.connectivity.specs.Admission.{Admitted}
use Rattle.connectivity.proofs.Lists.{T_true, or_left, or_right, eq-T, any_is, keep_is, range_is}
use Rattle.connectivity.proofs.Reach.{joins_sym}
use Rattle.connectivity.proofs.Search.{vertices_are}
use Rattle.connectivity.proofs.Order.{ordered_keep, ordered_vertices}
use Rattle.connectivity.proofs.Distinct.{ordered_distinct}
use Rattle.connectivity.proofs.Kept.{vertex_is, vertex_size, vertex_or, edge_size_lem}
use Rattle.incidence.specs.Parts.{Cleared}
use Rattle.incidence.proofs.Loops.{kept_trans}
use Rattle.depth.specs.Depth.{root_mark}
use Rattle.depth.specs.Forest.{Forest}
use Rattle.labels.specs.Answered.{ForestOf}
use Rattle.graph.specs.Marks.{read}
use Rattle.graph.proofs.Joined.{joins_ends}
use Rattle.labels.specs.Label.{around, Balanced}
use Rattle.labels.specs.Labels.{xor_at, Summed, Toggled, FirstEdge, Settled, by, passed, Scattered, Settling}
use Rattle.labels.proofs.Xor.{xors, xors_part}
use Rattle.labels.proofs.CutLabels.{NoLoops, inside, not_crossing, left_right, inside_cancels, no_loops}
use Rattle.labels.proofs.Sums.{around-none, at_ends, away, scattered_start, scattered_toggled}

-- A root.

module _ {g : Graph} {n : ℕ} {mark at : ℕ → ℕ} (t : Forest g n mark at) (all : (v : ℕ) → Vertex g v → v < n)
    (k : ℕ) (l : k < n) (root : mark (at k) ≡ root_mark) (top : Vertex g (at k)) where
  -- what stands from place k on
  abbrev behind : ℕ → Bool
  behind v = any (λ j. eqb (at j) v) (range k (n - k))

  stands : {v : ℕ} → T (behind v) → (j : ℕ) × (k ≤ j) × (j < n) × (at j ≡ v)
  stands {v} b =
      let o = (any_is (λ j. eqb (at j) v) (range k (n - k))).0 b in
      let r = (range_is o.0 k (n - k)).0 o.1 in
      (o.0, r.0, omega (arith, r.1), eqb→eq (at o.0) v o.2)

  there : (j : ℕ) {v : ℕ} → k ≤ j → j < n → at j ≡ v → T (behind v)
  there j {v} a b q = (any_is (λ j. eqb (at j) v) (range k (n - k))).1 (j, (range_is j k (n - k)).1 (a, omega arith), eq-T q)

  -- no edge leaves it
  stays : (e u v : ℕ) → Joins g e u v → Vertex g v → T (behind u) → T (behind v)
  stays e u v x h b =
      let s = stands b in
      let o = t.listed v (all v h) in
      elim (dec_lt o.0 k) [
        | yes i ↦ absurd (t.border k l root e o.0 s.0 i s.1 s.2 (rw (o.2, s.3) (joins_sym x)))
        | no i ↦ there o.0 (omega (arith, i)) o.1 o.2
      ]

  -- so where all others behind it have the sum 0, the root has it too
  pub root_zero : (label : ℕ → ℕ) → NoLoops g → ((j : ℕ) → k < j → j < n → around g label (at j) (edges g) ≡ 0) → around g label (at k) (edges g) ≡ 0
  unfolding xors
  root_zero label loops done =
      sym (xor_zero_r (sum (at k)))
      ∙ sym (xors_part sum (ordered_distinct (ordered_keep behind (ordered_vertices g))) (one (λ i. absurd (not_in i)) no_member)
      (λ v i. subst (λ (w : ℕ). In w (inside g behind)) (sym (eq_of_singleton i)) own)
      (λ v i ne. let s = stands ((keep_is behind v (vertices g)).0 i).1 in
      elim (ℕ_discrete k s.0) [
        | yes q ↦ absurd (ne (in-first (sym s.3 ∙ ap at (sym q))))
        | no q ↦ ap sum (sym s.3) ∙ done s.0 (omega (arith, q, s.1)) s.2
      ]))
      ∙ inside_cancels g behind label loops (λ e h. not_crossing g behind e
      (stays e (g.left e) (g.right e) (left_right h) h.right)
      (stays e (g.right e) (g.left e) (joins_sym (left_right h)) h.left))
    where
      sum : ℕ → ℕ
      sum v = around g label v (edges g)

      own : In (at k) (inside g behind)
      own = (keep_is behind (at k) (vertices g)).1 ((vertices_are g (at k)).1 top, there k (omega arith) l refl)

-- A vertex that is no root: the ends a and b of its first edge.

abbrev Ends : ℕ → ℕ → ℕ → ℕ → Type 0
Ends a b u v = ((a ≡ u) × (b ≡ v)) ⊎ ((a ≡ v) × (b ≡ u))

hit : {a b u v : ℕ} → Ends a b u v → (eqb a v || eqb b v) ≡ true
hit {a} {b} {u} {v} (inl p) = T_true (eqb a v || eqb b v) (or_right (eqb a v) (eqb b v) (eq-T p.1))
hit {a} {b} {u} {v} (inr p) = T_true (eqb a v || eqb b v) (or_left (eqb a v) (eqb b v) (eq-T p.0))

-- no other vertex is an end
no_left : {a b u v w : ℕ} → Ends a b u v → (u ≡ w → ⊥) → (v ≡ w → ⊥) → a ≡ w → ⊥
no_left (inl p) f h q = f (sym p.0 ∙ q)
no_left (inr p) f h q = h (sym p.0 ∙ q)

no_right : {a b u v w : ℕ} → Ends a b u v → (u ≡ w → ⊥) → (v ≡ w → ⊥) → b ≡ w → ⊥
no_right (inl p) f h q = h (sym p.1 ∙ q)
no_right (inr p) f h q = f (sym p.1 ∙ q)

-- All places.

pub settling_start : {p : Plan} {labels sums : List ℕ} (first order : List ℕ) → Summed p labels sums → Settling p first order labels sums labels sums p.vertices
settling_start first order s = record { low = omega arith; scattered = scattered_start s; done = λ t j l h. absurd (omega arith) }

-- what was done before counts too
pub settling_after : {p : Plan} {first order l₀ s₀ l₁ s₁ l₂ s₂ labels sums : List ℕ} {k : ℕ} → Cleared (length p.ends / 2) l₀ l₁ → Cleared p.vertices s₀ s₁ → Scattered p l₁ s₁ l₂ s₂
    → Settling p first order l₂ s₂ labels sums k → Settling p first order l₀ s₀ labels sums k
settling_after cl cs x y = record {
  low = y.low;
  scattered = record {
    summed = y.scattered.summed;
    labels_kept = kept_trans cl.kept (kept_trans x.labels_kept y.scattered.labels_kept);
    sums_kept = kept_trans cs.kept (kept_trans x.sums_kept y.scattered.sums_kept);
  };
  done = y.done;
}

module _ {most : Limits} {p : Plan} {first order labels₀ sums₀ labels sums : List ℕ} (a : Admitted most p) where
  module _ {k : ℕ} (small : length p.ends / 2 < root_mark) (more : k < p.vertices) (s : Settling p first order labels₀ sums₀ labels sums (k + 1)) where
    abbrev at : ℕ → ℕ
    at j = get_or order j 0

    -- by its first edge

    module _ {e : ℕ} (f : FirstEdge p first (at k) e) where
      abbrev changed : List ℕ
      changed = xor_at (xor_at sums (get_or p.ends (2 * e) 0) (get_or sums (at k) 0)) (get_or p.ends (2 * e + 1) 0) (get_or sums (at k) 0)

      up : ForestOf p first order → (j : ℕ) × (j < k) × Joins (graph p) e (at j) (at k)
      up t = elim (t.tree k more) [
        | inl q ↦ absurd (omega (arith, q, f.mark, edge_size_lem p f.edge))
        | inr o ↦ let q : get_or first (at k) 0 - 1 ≡ e = omega (arith, f.mark) in (o.0, o.1, rw q at o.2)
      ]

      -- the vertex is settled
      here : ForestOf p first order → get_or changed (at k) 0 ≡ 0
      here t =
          at_ends a (edge_size_lem p f.edge) s.scattered.summed (get_or sums (at k) 0) (at k)
          ∙ ap (λ (t : Bool). bit_xor (cond t (get_or sums (at k) 0) 0) (get_or sums (at k) 0)) (hit (joins_ends p (up t).2))
          ∙ xor_self (get_or sums (at k) 0)

      -- those behind it stay
      those : ForestOf p first order → (j : ℕ) → k < j → j < p.vertices → get_or changed (at j) 0 ≡ 0
      those t j l h =
          let u = up t in
          let o = joins_ends p u.2 in
          let d : at u.0 ≡ at j → ⊥ = t.once u.0 j (omega (arith, u.1)) h in
          let q : at k ≡ at j → ⊥ = t.once k j l h in
          away a (edge_size_lem p f.edge) s.scattered.summed (get_or sums (at k) 0) (at j) (no_left o d q) (no_right o d q) ∙ s.done t j (omega arith) h

      by_edge_lem : {labels' sums' : List ℕ} → Toggled p.ends e (get_or sums (at k) 0) labels sums labels' sums' → Settling p first order labels₀ sums₀ labels' sums' k
      by_edge_lem d = record {
        low = omega arith;
        scattered = scattered_toggled a f.edge s.scattered d;
        done = λ t j l h. ap (λ (x : List ℕ). get_or x (at j) 0) d.sums_now ∙ elim (ℕ_discrete k j) [
          | yes q ↦ ap (λ (i : ℕ). get_or changed (at i) 0) (sym q) ∙ here t
          | no ne ↦ those t j (omega (arith, ne)) h
        ];
      }

    -- as a root

    root : ((e : ℕ) → FirstEdge p first (at k) e → ⊥) → (t : ForestOf p first order) → get_or first (at k) 0 ≡ root_mark
    root none t = elim (t.tree k more) [
      | inl q ↦ q
      | inr o ↦ absurd (none (get_or first (at k) 0 - 1) (record {
        below = t.valid k more;
        edge = o.2.edge;
        mark = let m = t.marked k more in omega (arith, m);
      }))
    ]

    -- the sum of an excluded vertex is 0, since no edge ends there
    zero_here : ((e : ℕ) → FirstEdge p first (at k) e → ⊥) → (t : ForestOf p first order) → around (graph p) (read labels) (at k) (edges (graph p)) ≡ 0
    zero_here none t = elim (vertex_or p (at k) (t.valid k more)) [
      | inl h ↦ root_zero t (λ v. vertex_size p) k more (root none t) h (read labels) (no_loops a)
          (λ i b c. sym (s.scattered.summed.sum (at i) (t.valid i c)) ∙ s.done t i (omega arith) c)
      | inr i ↦ around-none (graph p) (read labels) (at k) (λ h. ((vertex_is p (at k)).0 h).1 i)
    ]

    as_root : ((e : ℕ) → FirstEdge p first (at k) e → ⊥) → Settling p first order labels₀ sums₀ labels sums k
    as_root none = record {
      low = omega arith;
      scattered = s.scattered;
      done = λ t j l h. elim (ℕ_discrete k j) [
        | yes q ↦ ap (λ (i : ℕ). get_or sums (at i) 0) (sym q) ∙ s.scattered.summed.sum (at k) (t.valid k more) ∙ zero_here none t
        | no ne ↦ s.done t j (omega (arith, ne)) h
      ];
    }

    pub settling_step : {labels' sums' : List ℕ} → Settled p first (at k) labels sums labels' sums' → Settling p first order labels₀ sums₀ labels' sums' k
    settling_step (by e f d) = by_edge_lem f d
    settling_step (passed none l s) = rw (l, s) (as_root none)

  pub settled : Settling p first order labels₀ sums₀ labels sums 0 → ForestOf p first order → Balanced (graph p) (read labels)
  settled s t v h =
      let o = t.listed v (vertex_size p h) in
      sym (s.scattered.summed.sum v (vertex_size p h)) ∙ ap (λ (x : ℕ). get_or sums x 0) (sym o.2) ∙ s.done t o.0 (omega arith) o.1
