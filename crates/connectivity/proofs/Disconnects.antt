-- `disconnects` is true exactly of the sets that disconnect, and where it is false the graph stays connected.
use mathlib.Core.Path.{refl}
use mathlib.Core.Logic.{◌⊎◌, inl, inr, ◌↔◌}
use mathlib.Core.Bool.{Bool, not}
use mathlib.Core.List.Memᴰ.{head as first}
use mathlib.Core.List.Memᴰ.{not-nil as not_in}
use mathlib.Core.List.{List, [], ◌∷◌, Memᴰ as In}
use Prim.Native.Nat.{ℕ}
use lib.Dec.{T, T_not, not_T}
use Rattle.connectivity.specs.Lists.{mem, empty}
use Rattle.connectivity.specs.Graph.{Graph, Vertex, Edge, vertices}
use Rattle.connectivity.specs.Reach.{Reach, Without, Connected, Disconnects}
use Rattle.connectivity.specs.Cut.{unreached, unreached_from, cut_off, disconnects}
use Rattle.connectivity.proofs.Lists.{T-dec, not_mem, empty-none, none-empty}
use Rattle.connectivity.proofs.Reach.{reach_sym, reach_trans, reach_map, reach_edges}
use Rattle.connectivity.proofs.Search.{vertices_are, unreached_not, unreached_or}

module _ (g : Graph) (cut : List ℕ) where
  abbrev live : ℕ → Bool
  live e = not (mem e cut)

  to_live : {u v : ℕ} → Reach g (Without cut) u v → Reach g (λ e. T (live e)) u v
  to_live r = reach_map (λ e n. (not_mem e cut).1 n) r

  from_live : {u v : ℕ} → Reach g (λ e. T (live e)) u v → Reach g (Without cut) u v
  from_live r = reach_map (λ e t. (not_mem e cut).0 t) r

  -- a set disconnects, or the graph without it is connected
  pub cut_or_connected : T (disconnects g cut) ⊎ Connected g cut
  unfolding disconnects cut_off unreached_from
  cut_or_connected = go (vertices g) (λ v h. (vertices_are g v).1 h)
    where
      hub : (u : ℕ) → ((v : ℕ) → In v (unreached g live u) → ⊥) → Connected g cut
      hub u n v w hv hw = reach_trans (reach_sym (spoke v hv)) (spoke w hw)
        where
          spoke : (v : ℕ) → Vertex g v → Reach g (Without cut) u v
          spoke v h = elim (unreached_or g live u h) [ inl i ↦ absurd (n v i) | inr r ↦ from_live r ]

      go : (l : List ℕ) → ((v : ℕ) → Vertex g v → In v l) → T (not (empty (unreached_from g live l))) ⊎ Connected g cut
      go [] f = inr (λ u v h. absurd (not_in (f u h)))
      go (u ∷ l) f = elim (T-dec (empty (unreached g live u))) [
        | yes t ↦ inr (hub u (λ v i. empty-none (unreached g live u) t i))
        | no n ↦ inl (not_T (empty (unreached g live u)) n)
      ]

  pub disconnects_is : T (disconnects g cut) ↔ Disconnects g cut
  unfolding disconnects cut_off unreached_from empty
  disconnects_is = (λ t c. go (vertices g) (λ v i. (vertices_are g v).0 i) t c, λ n. elim cut_or_connected [ inl t ↦ t | inr c ↦ absurd (n c) ])
    where
      go : (l : List ℕ) → ((v : ℕ) → In v l → Vertex g v) → T (not (empty (unreached_from g live l))) → Connected g cut → ⊥
      go [] f t c = t
      go (u ∷ l) f t c = T_not (empty (unreached g live u)) t (none-empty (unreached g live u)
          (λ v i. let p = unreached_not g live u i in p.1 (to_live (c u v (f u (first refl)) p.0))))

-- a set that does not disconnect leaves the graph connected
pub connected_is : (g : Graph) (cut : List ℕ) → (T (disconnects g cut) → ⊥) → Connected g cut
connected_is g cut n = elim (cut_or_connected g cut) [ inl t ↦ absurd (n t) | inr c ↦ c ]

-- only the graph's edges count: with fewer of them removed it stays connected
pub connected_less : {g : Graph} {cut less : List ℕ} → Connected g cut → ((e : ℕ) → Edge g e → In e less → In e cut) → Connected g less
connected_less c f u v hu hv = reach_edges (λ e x y j w i. w (f e j.edge i)) (c u v hu hv)
