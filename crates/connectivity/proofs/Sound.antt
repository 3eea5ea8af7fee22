-- Mader's steps are sound: a graph that a list builds is three-edge-connected.
use mathlib.Core.Path.{◌≡◌, refl}
use mathlib.Core.Logic.{◌⊎◌, inl, inr}
use mathlib.Core.List.Memᴰ.{cases_cons as in-cons}
use mathlib.Core.List.Memᴰ.{eq_of_singleton}
use mathlib.Core.List.Memᴰ.{head as first}
use mathlib.Core.List.Memᴰ.{not-nil as not_in}
use mathlib.Core.List.{List, [], ◌∷◌, Memᴰ as In}
use Prim.Native.Nat.{ℕ, ◌≤◌}
use native.Mathlib.Omega.{arith}
use lib.ListN.{length}
use Rattle.connectivity.specs.Lists.{Distinct}
use Rattle.connectivity.specs.Graph.{Graph, Vertex}
use Rattle.connectivity.specs.Reach.{Reach, Without, ThreeEdgeConnected}
use Rattle.connectivity.specs.Walk.{Leg, Between, edges_of, all_edges, Branch}
use Rattle.connectivity.specs.Mader.{Steps, theta, mader, Builds}
use Rattle.connectivity.proofs.Reach.{reach_map}
use Rattle.connectivity.proofs.Distinct.{head_distinct, right_distinct}
use Rattle.connectivity.proofs.Degree.{walk_from, walk_to}
use Rattle.connectivity.proofs.Stage.{Stage, stage_theta, stage_path}
use Rattle.connectivity.proofs.Link.{same_link_lem}

-- every stage of the construction has the invariant
pub stage : {g : Graph} {walks : List (List Leg)} → Steps g walks → Distinct (all_edges walks) → Stage g (all_edges walks)
stage (theta t) d = stage_theta t d
stage (mader {legs = legs} p k) d = let s = stage p (right_distinct (edges_of legs) d) in
    stage_path s k d (λ n m r. k.links n m (same_link_lem s k.begins n r))

-- the members of a list of at most two are one or other of two numbers
at_most_two : (cut : List ℕ) → length cut ≤ 2 → (c : ℕ) × (d : ℕ) × ((e : ℕ) → In e cut → (e ≡ c) ⊎ (e ≡ d))
at_most_two [] h = (0, 0, λ e i. absurd (not_in i))
at_most_two (c ∷ []) h = (c, c, λ e i. inl (eq_of_singleton i))
at_most_two (c ∷ (d ∷ [])) h = (c, d, λ e i. elim (in-cons i) [ inl p ↦ inl p | inr j ↦ inr (eq_of_singleton j) ])
at_most_two (c ∷ (d ∷ (e ∷ cut))) h = absurd (omega arith)

-- at every stage any two branches reach each other over the built edges, after any two are removed
pub stage_branches : {g : Graph} {built : List ℕ} → Stage g built → (cut : List ℕ) → length cut ≤ 2
    → (x y : ℕ) → Branch g built x → Branch g built y → Reach g (λ e. In e built × Without cut e) x y
stage_branches s cut h x y hx hy = let (c, d, f) = at_most_two cut h in
    reach_map (λ e l. (l.0, λ i. elim (f e i) [ inl p ↦ l.1 p | inr p ↦ l.2 p ])) (s.three c d x y hx hy)

-- the ends of the three paths
two_vertices : {g : Graph} {walks : List (List Leg)} → Steps g walks → (u : ℕ) × (v : ℕ) × Vertex g u × Vertex g v × (u ≡ v → ⊥)
two_vertices {g} (theta {a = a} {b = b} {walks = walks} t) = go walks t.three t.between
  where
    different : a ≡ b → ⊥
    different p = head_distinct t.simple (first p)

    go : (some : List (List Leg)) → length some ≡ 3 → ((legs : List Leg) → In legs some → Between g a legs b)
        → (u : ℕ) × (v : ℕ) × Vertex g u × Vertex g v × (u ≡ v → ⊥)
    go [] h f = absurd (omega arith)
    go (legs ∷ some) h f = elim (f legs (first refl)) [
      | inl k ↦ (a, b, walk_from k, walk_to k, different)
      | inr k ↦ (a, b, walk_to k, walk_from k, different)
    ]
two_vertices (mader p k) = two_vertices p

pub builds_three_edge_connected : {g : Graph} {list : List ℕ} → Builds g list → ThreeEdgeConnected g
builds_three_edge_connected b = record {
  two = two_vertices b.steps;
  still = λ cut h x y hx hy.
      reach_map (λ e l. l.1) (stage_branches (stage b.steps b.once) cut h x y (b.branches x hx) (b.branches y hy));
}
