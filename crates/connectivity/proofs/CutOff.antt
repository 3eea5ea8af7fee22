-- `cut_off` has the vertices that the lowest one does not reach, and is empty exactly where the set does not disconnect.
use mathlib.Core.Path.{◌≡◌, refl}
use mathlib.Core.Logic.{◌⊎◌, inl, inr, ◌↔◌}
use mathlib.Core.Bool.{Bool, not}
use mathlib.Core.List.Memᴰ.{cases_cons as in-cons}
use mathlib.Core.List.Memᴰ.{head as first}
use mathlib.Core.List.Memᴰ.{not-nil as not_in}
use mathlib.Core.List.{List, [], ◌∷◌, Memᴰ as In}
use Prim.Native.Nat.{ℕ, ◌≤◌, ◌<◌}
use native.Mathlib.Omega.{arith}
use lib.Dec.{T, T_not, not_T}
use Rattle.connectivity.specs.Lists.{Ordered, mem, empty}
use Rattle.connectivity.specs.Graph.{Graph, Vertex, vertices}
use Rattle.connectivity.specs.Reach.{Reach, Without}
use Rattle.connectivity.specs.Cut.{unreached, unreached_from, cut_off, disconnects}
use Rattle.connectivity.proofs.Lists.{not_mem, Decides}
use Rattle.connectivity.proofs.Reach.{reach_map}
use Rattle.connectivity.proofs.Search.{vertices_are, unreached_not, unreached_or}
use Rattle.connectivity.proofs.Order.{before_rest, ordered_vertices}

-- the lowest vertex
pub record Lowest (g : Graph) (u : ℕ) : Type 0 where
  pub vertex : Vertex g u
  pub least : (v : ℕ) → Vertex g v → u ≤ v

module _ {g : Graph} {u : ℕ} (low : Lowest g u) (cut : List ℕ) where
  abbrev live : ℕ → Bool
  live e = not (mem e cut)

  -- the search starts there
  from_lowest : cut_off g cut ≡ unreached g live u
  unfolding cut_off unreached_from
  from_lowest = go (vertices g) (ordered_vertices g) (vertices_are g)
    where
      go : (l : List ℕ) → Ordered ◌<◌ l → ((v : ℕ) → In v l ↔ Vertex g v) → unreached_from g live l ≡ unreached g live u
      go [] o f = absurd (not_in ((f u).1 low.vertex))
      go (w ∷ l) o f =
          let at_least_lem = low.least w ((f w).0 (first refl)) in
          let at_most : w ≤ u = elim (in-cons ((f u).1 low.vertex)) [ inl p ↦ omega arith | inr i ↦ let h = before_rest o u i in omega arith ] in
          let same : w ≡ u = omega arith in
          rw same

  pub cut_off_not : {v : ℕ} → In v (cut_off g cut) → Vertex g v × (Reach g (Without cut) u v → ⊥)
  cut_off_not i = let p = unreached_not g live u (rw from_lowest at i) in (p.0, λ r. p.1 (reach_map (λ e n. (not_mem e cut).1 n) r))

  pub cut_off_or : {v : ℕ} → Vertex g v → In v (cut_off g cut) ⊎ Reach g (Without cut) u v
  cut_off_or {v} h = elim (unreached_or g live u h) [ inl i ↦ inl (rw from_lowest i) | inr r ↦ inr (reach_map (λ e t. (not_mem e cut).0 t) r) ]

-- a set disconnects where something is cut off
pub cut_off_some : (g : Graph) (cut : List ℕ) → Decides (disconnects g cut) ((T (empty (cut_off g cut))) → ⊥)
unfolding disconnects
cut_off_some g cut = record { holds = T_not (empty (cut_off g cut)); test = not_T (empty (cut_off g cut)) }
