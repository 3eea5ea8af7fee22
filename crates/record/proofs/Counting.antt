-- How many edges the steps so far have built.
use Rattle.std.proofs.Common.{ℕ, ◌≤◌, List, [], ◌∷◌, length, refl, inl, inr, arith, length-append}
use mathlib.Core.List.Memᴰ.{head as first}
use mathlib.Core.List.Memᴰ.{tail as later}
use mathlib.Core.List.{Memᴰ as In}
use Rattle.connectivity.specs.Lists.{Distinct}
use Rattle.connectivity.specs.Graph.{Graph, edges}
use Rattle.connectivity.specs.Walk.{Leg, Walk, last, then, edges_of, all_edges}
use Rattle.connectivity.specs.Mader.{Steps, theta, mader}
use Rattle.connectivity.proofs.Search.{edges_are}
use Rattle.connectivity.proofs.Degree.{part_length}
use Rattle.connectivity.proofs.Legs.{legs_edges}
use Rattle.connectivity.proofs.Build.{steps_edges}

-- Each step has an edge, so there are no more steps than edges.

pub walk_some : {g : Graph} {u w : ℕ} {legs : List Leg} → Walk g u legs w → 1 ≤ length legs
walk_some (last e j) = omega arith
walk_some (then e j k) = omega arith

walks_most : (walks : List (List Leg)) → ((legs : List Leg) → In legs walks → 1 ≤ length legs) → length walks ≤ length (all_edges walks)
walks_most [] f = omega arith
walks_most (legs ∷ walks) f = omega (arith, f legs (first refl), walks_most walks (λ l i. f l (later i)), legs_edges legs, length-append (edges_of legs) (all_edges walks))

pub steps_most : {g : Graph} {walks : List (List Leg)} → Steps g walks → length walks ≤ length (all_edges walks)
steps_most (theta {walks = walks} t) = walks_most walks (λ legs i. elim (t.between legs i) [ inl k ↦ walk_some k | inr k ↦ walk_some k ])
steps_most (mader {walks = walks} {legs = legs} p k) = omega (arith, steps_most p, walk_some k.walk, legs_edges legs, length-append (edges_of legs) (all_edges walks))

-- They are at most as many as the graph has.

pub done_most : {g : Graph} {walks : List (List Leg)} → Steps g walks → Distinct (all_edges walks) → length (all_edges walks) ≤ length (edges g)
done_most {g} {walks} s d = part_length g (all_edges walks) (edges g) d (λ e i. (edges_are g e).1 (steps_edges s i))
