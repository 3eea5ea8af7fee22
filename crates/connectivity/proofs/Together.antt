-- Holding together is an equivalence, and `together` decides it.
use mathlib.Core.Path.{refl}
use mathlib.Core.Logic.{inl, inr}
use mathlib.Core.Bool.{Bool, not}
use mathlib.Core.List.Memᴰ.{head as first}
use mathlib.Core.List.Memᴰ.{tail as later}
use mathlib.Core.List.{List, [], ◌∷◌}
use Prim.Native.Nat.{ℕ, ◌≤◌, ◌<◌}
use native.Mathlib.Omega.{arith}
use lib.Dec.{T_not, not_T}
use lib.ListN.{length}
use Rattle.connectivity.specs.Lists.{mem}
use Rattle.connectivity.specs.Graph.{Graph, Vertex, Edge, edges}
use Rattle.connectivity.specs.Reach.{Reach, here, Without}
use Rattle.connectivity.specs.Cut.{EdgeSet, unreached}
use Rattle.connectivity.proofs.Lists.{T-dec, Decides, decides_and, decides_all, decides_to, not_mem, mem_in, in_mem}
use Rattle.connectivity.proofs.Reach.{reach_sym, reach_trans, reach_map, reach_edges, reach_less}
use Rattle.connectivity.proofs.Search.{edges_are, unreached_not, unreached_or}
use Rattle.connectivity.proofs.Order.{before_rest}
use Rattle.connectivity.proofs.LowestCut.{covering}
use Rattle.connectivity.specs.Component.{Together, joined, together}

-- The equivalence.

pub together_refl : {g : Graph} {u : ℕ} → Together g u u
together_refl cut h = here

pub together_sym : {g : Graph} {u v : ℕ} → Together g u v → Together g v u
together_sym t cut h = reach_sym (t cut h)

pub together_trans : {g : Graph} {u v w : ℕ} → Together g u v → Together g v w → Together g u w
together_trans s t cut h = reach_trans (s cut h) (t cut h)

-- The test.

pub decides_joined : (g : Graph) (cut : List ℕ) (u : ℕ) {v : ℕ} → Vertex g v → Decides (joined g cut u v) (Reach g (Without cut) u v)
unfolding joined
decides_joined g cut u {v} h = record {
  holds = λ t. elim (unreached_or g live u h) [ inl i ↦ absurd (T_not (mem v left) t (in_mem i)) | inr r ↦ reach_map (λ e n. (not_mem e cut).0 n) r ];
  test = λ r. not_T (mem v left) (λ t. (unreached_not g live u (mem_in v left t)).1 (reach_map (λ e n. (not_mem e cut).1 n) r));
}
  where
    live : ℕ → Bool
    live e = not (mem e cut)

    left : List ℕ
    left = unreached g live u

pub reach_dec : (g : Graph) (cut : List ℕ) (u : ℕ) {v : ℕ} → Vertex g v → Dec (Reach g (Without cut) u v)
reach_dec g cut u {v} h = let d = decides_joined g cut u h in
    elim (T-dec (joined g cut u v)) [ yes t ↦ yes (d.holds t) | no n ↦ no (λ r. n (d.test r)) ]

-- only sets of edges count
pub together_by : {g : Graph} {u v : ℕ} → Reach g (Without []) u v → ((e : ℕ) → Edge g e → Reach g (Without (e ∷ [])) u v)
    → ((e d : ℕ) → Edge g e → Edge g d → e < d → Reach g (Without (e ∷ d ∷ [])) u v) → Together g u v
together_by {g} {u} {v} none one two cut h = let c = covering g cut in
    reach_edges (λ e x y j w i. w (c.has e j.edge i)) (go c.all c.set (omega (arith, c.size)))
  where
    go : (l : List ℕ) → EdgeSet g l → length l ≤ 2 → Reach g (Without l) u v
    go [] s k = none
    go (e ∷ []) s k = one e (s.members e (first refl))
    go (e ∷ (d ∷ [])) s k = two e d (s.members e (first refl)) (s.members d (later (first refl))) (before_rest s.ascending d (first refl))
    go (e ∷ (d ∷ (f ∷ l))) s k = absurd (omega arith)

pub decides_together : (g : Graph) (u : ℕ) {v : ℕ} → Vertex g v → Decides (together g u v) (Together g u v)
unfolding together
decides_together g u {v} h = decides_to
    (decides_and (decides_joined g [] u h)
    (decides_all (λ e. decides_all (λ d. decides_joined g (e ∷ d ∷ []) u h) (edges g)) (edges g)))
    (λ p. together_by p.0 (λ e k. reach_less (λ x i. later i) (p.1 e ((edges_are g e).1 k) e ((edges_are g e).1 k)))
    (λ e d k l _. p.1 e ((edges_are g e).1 k) d ((edges_are g d).1 l)))
    (λ t. (t [] (omega arith), λ e i d j. t (e ∷ d ∷ []) (omega arith)))
