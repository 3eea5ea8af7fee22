-- What a try of a cut tells: which edges part something alone, which are a cut pair, and that the groups then respect the cut.
use mathlib.Core.Path.{◌≡◌, refl, sym, ap, ◌∙◌, subst}
use mathlib.Core.Logic.{inl, inr}
use mathlib.Core.Bool.{Bool, true, false, not}
use mathlib.Core.List.Memᴰ.{cases_cons as in-cons}
use mathlib.Core.List.Memᴰ.{eq_of_singleton}
use mathlib.Core.List.Memᴰ.{head as first}
use mathlib.Core.List.Memᴰ.{not-nil as not_in}
use mathlib.Core.List.{List, [], ◌∷◌, Memᴰ as In}
use Prim.Native.Nat.{ℕ, ◌≤◌, ◌<◌}
use native.Mathlib.Omega.{arith}
use native.Mathlib.Decide.{ℕ_discrete}
use lib.ListN.{length}
use Rattle.connectivity.specs.Graph.{Graph, Vertex, Edge, Joins}
use Rattle.connectivity.specs.Reach.{Reach, here, over, Without}
use Rattle.connectivity.specs.Component.{joined}
use Rattle.connectivity.proofs.Lists.{T_true, T_false}
use Rattle.connectivity.proofs.Reach.{joins_sym, joins_vertex, reach_sym, reach_trans, reach_less, closed_reach}
use Rattle.connectivity.proofs.Together.{decides_joined}
use Rattle.graph.specs.Tells.{Tells}
use Rattle.labels.specs.Label.{Keeps}
use Rattle.labels.proofs.CutLabels.{crossing}
use Rattle.components.specs.Pair.{CutPair}
use Rattle.components.specs.Splitting.{Parted}
use Rattle.components.specs.Stars.{Respects, Grouping}
use Rattle.components.proofs.Splitting.{parted_classes, parted_same}
use Rattle.components.proofs.Side.{Split, crossed_one, crossed_two, split_one, split_two, unparted}
use Rattle.components.proofs.Pair.{reach_turned, keeps_one, detour, cut_pair, pair_sym}

-- an edge twice is one
twice_once : {e y : ℕ} → In y (e ∷ e ∷ []) → y ≡ e
twice_once i = elim (in-cons i) [ inl p ↦ p | inr j ↦ eq_of_singleton j ]

pub reach_once : {g : Graph} {e u v : ℕ} → Reach g (Without (e ∷ e ∷ [])) u v → Reach g (Without (e ∷ [])) u v
reach_once r = reach_less (λ y i. first (eq_of_singleton i)) r

-- what a vertex reaches is a vertex, and only a vertex reaches anything else
pub reach_vertex : {g : Graph} {live : ℕ → Type 0} {u v : ℕ} → Reach g live u v → Vertex g u → Vertex g v
reach_vertex {g} r h = closed_reach (Vertex g) (λ e x y w j k. joins_vertex (joins_sym j)) r h

pub reach_vertices : {g : Graph} {live : ℕ → Type 0} {u v : ℕ} → Reach g live u v → (u ≡ v → ⊥) → Vertex g u × Vertex g v
reach_vertices here n = absurd (n refl)
reach_vertices (over e l j r) n = (joins_vertex j, reach_vertex r (joins_vertex (joins_sym j)))

-- the ends of an edge, whichever comes first
module _ {g : Graph} {d root far : ℕ} (j : Joins g d root far) where
  pub far_vertex : Vertex g far
  far_vertex = joins_vertex (joins_sym j)

  over_edge : Reach g (Without []) root far
  over_edge = over d (λ i. not_in i) j here

  left_right : {live : ℕ → Type 0} → Reach g live root far → Reach g live (g.left d) (g.right d)
  left_right r = elim j.ends [ inl s ↦ rw (s.0, s.1) r | inr s ↦ rw (s.0, s.1) (reach_sym r) ]

  right_left : {live : ℕ → Type 0} → Reach g live (g.left d) (g.right d) → Reach g live root far
  right_left r = elim j.ends [ inl s ↦ rw (← s.0, ← s.1) r | inr s ↦ rw (← s.0, ← s.1) (reach_sym r) ]

  -- alone
  pub alone_keeps : Reach g (Without (d ∷ d ∷ [])) root far → Keeps g (d ∷ [])
  alone_keeps r = keeps_one j.edge (reach_once (left_right r))

  pub alone_parts : (Reach g (Without (d ∷ d ∷ [])) root far → ⊥) → Keeps g (d ∷ []) → ⊥
  alone_parts n k = n (reach_less (λ y i. first (twice_once i)) (k root far over_edge))

  -- together with another
  module _ {e : ℕ} (h : Edge g e) (ke : Keeps g (e ∷ [])) (kd : Keeps g (d ∷ [])) where
    pub both_keep : Reach g (Without (e ∷ d ∷ [])) root far → CutPair g e d → ⊥
    both_keep r c = c.parts (λ x y w. reach_turned (detour j.edge (reach_turned (left_right r)) (ke x y w)))

    pub both_part : (Reach g (Without (e ∷ d ∷ [])) root far → ⊥) → CutPair g e d
    both_part n = pair_sym (cut_pair j.edge h kd ke (λ r. n (right_left (reach_turned r))))

-- The groups after a try.

-- what a side tells of the root's reach is the definition's test
seen_joined : (g : Graph) (cut : List ℕ) (root : ℕ) {v : ℕ} → Vertex g v → (b : Bool) → Tells (not b) (Reach g (Without cut) root v) → joined g cut root v ≡ not b
seen_joined g cut root {v} h true t = T_false (joined g cut root v) (λ s. t ((decides_joined g cut root h).holds s))
seen_joined g cut root {v} h false t = T_true (joined g cut root v) ((decides_joined g cut root h).test t)

told_apart : {P Q : Type 0} (a b : Bool) → Tells (not a) P → Tells (not b) Q → (P → Q) → (Q → P) → a ≡ b
told_apart true true p q f h = refl
told_apart true false p q f h = absurd (p (h q))
told_apart false true p q f h = absurd (q (f p))
told_apart false false p q f h = refl

module _ {g : Graph} {n : ℕ} (cut : List ℕ) (small : length cut ≤ 2) (root : ℕ) (side : ℕ → Bool) {at₀ at : ℕ → ℕ}
    (tells : (v : ℕ) → v < n → Tells (not (side v)) (Reach g (Without cut) root v)) (p : Parted n side at₀ at) (s : Grouping g n at₀) where
  finer : (u v : ℕ) → u < n → v < n → at u ≡ at v → at₀ u ≡ at₀ v
  finer u v l b q = ((parted_same s.classes p u v l b).0 q).0

  pub respects_on : {other : List ℕ} → Respects g n at₀ other → Respects g n at other
  respects_on f u v l b q = f u v l b (finer u v l b q)

  pub parted_grouping : Grouping g n at
  parted_grouping = record {
    classes = parted_classes s.classes p;
    sound = λ u v l b t. (parted_same s.classes p u v l b).1
        (s.sound u v l b t, told_apart (side u) (side v) (tells u l) (tells v b) (λ r. reach_trans r (t cut small)) (λ r. reach_trans r (reach_sym (t cut small))));
    whole = respects_on s.whole;
  }

  -- where just the edges of a test cross what the root reaches, and what u reaches too if that is not v
  pub parted_respects : {only : ℕ → Bool} → ((x : ℕ) → Edge g x → crossing g (joined g cut root) x ≡ only x)
      → ((u v : ℕ) → Vertex g u → Vertex g v → u < n → v < n → at₀ u ≡ at₀ v → (Reach g (Without cut) u v → ⊥) → Split g only u v) → Respects g n at cut
  parted_respects crossed split u v l b q = elim (ℕ_discrete u v) [
    | yes e ↦ subst (Reach g (Without cut) u) e here
    | no ne ↦
        let t = (parted_same s.classes p u v l b).0 q in
        let w = s.whole u v l b t.0 in
        let h = reach_vertices w ne in
        unparted root crossed h.1 (split u v h.0 h.1 l b t.0) w
        (seen_joined g cut root h.0 (side u) (tells u l) ∙ ap not t.1 ∙ sym (seen_joined g cut root h.1 (side v) (tells v b)))
  ]

  -- by one edge
  pub respects_one : {d far : ℕ} → cut ≡ d ∷ d ∷ [] → Joins g d root far → (Reach g (Without cut) root far → ⊥) → Respects g n at (d ∷ [])
  respects_one {d} {far} q j ne u v l b e = reach_less (λ y i. subst (In y) (sym q) (first (eq_of_singleton i)))
      (parted_respects (crossed_one (joins_vertex j) (far_vertex j) all (over_edge j) ne) (λ u v hu hv l b e n. split_one hu hv all (s.whole u v l b e) n) u v l b e)
    where
      all : (y : ℕ) → In y cut → y ≡ d
      all y i = twice_once (subst (In y) q i)

-- by two
module _ {g : Graph} {n : ℕ} (e d root far : ℕ) (side : ℕ → Bool) {at₀ at : ℕ → ℕ}
    (tells : (v : ℕ) → v < n → Tells (not (side v)) (Reach g (Without (e ∷ d ∷ [])) root v)) (p : Parted n side at₀ at) (s : Grouping g n at₀) where
  pub respects_two : Joins g d root far → (Reach g (Without (e ∷ d ∷ [])) root far → ⊥) → Keeps g (e ∷ []) → Keeps g (d ∷ [])
      → Respects g n at₀ (e ∷ []) → Respects g n at₀ (d ∷ []) → Respects g n at (e ∷ d ∷ [])
  respects_two j ne ke kd re rd = parted_respects (e ∷ d ∷ []) (omega arith) root side tells p s
      (crossed_two (joins_vertex j) (far_vertex j) (ke root far (over_edge j)) (kd root far (over_edge j)) ne)
      (λ u v hu hv l b q n. split_two hu hv (re u v l b q) (rd u v l b q) n)
