-- `component_of` finds the lowest vertex that holds together with one, the groups are the classes of holding together, and a graph is
-- 3-edge-connected exactly where there is one group.
use mathlib.Core.Path.{◌≡◌, refl, sym, ap, ◌∙◌, subst}
use mathlib.Core.Logic.{inl, inr, ◌↔◌}
use mathlib.Core.List.Memᴰ.{cases_cons as in-cons}
use mathlib.Core.List.Memᴰ.{head as first}
use mathlib.Core.List.Memᴰ.{not-nil as not_in}
use mathlib.Core.List.{List, Memᴰ as In}
use Prim.Native.Nat.{ℕ, ◌+◌, ◌≤◌, ◌<◌}
use native.Mathlib.Omega.{arith}
use lib.ListN.{length, get_or, length-map}
use Rattle.connectivity.specs.Lists.{Ordered, nil, cons, range, keep}
use Rattle.connectivity.specs.Graph.{Graph, Vertex, is_vertex, vertices}
use Rattle.connectivity.specs.Plan.{Plan, graph, Limits}
use Rattle.connectivity.specs.Admission.{Admitted}
use Rattle.connectivity.specs.Reach.{ThreeEdgeConnected}
use Rattle.connectivity.proofs.Lists.{T_true, T_false, keep_is, length-range, map_range}
use Rattle.connectivity.proofs.Kept.{two_kept}
use Rattle.connectivity.proofs.Search.{is_vertex_lem, vertices_are}
use Rattle.connectivity.proofs.Order.{ordered_keep, ordered_vertices}
use Rattle.connectivity.specs.Component.{Together, together, Component, component_of, components, OneComponent}
use Rattle.connectivity.proofs.Together.{together_refl, together_sym, together_trans, decides_together}

-- What is found.

head_lowest : (d : ℕ) {x : ℕ} {l : List ℕ} → Ordered ◌<◌ l → In x l → In (get_or l 0 d) l × ((y : ℕ) → In y l → get_or l 0 d ≤ y)
head_lowest d nil i = absurd (not_in i)
head_lowest d (cons h o) i = (first refl, λ y j. elim (in-cons j) [ inl p ↦ omega arith | inr k ↦ omega (arith, h y k) ])

pub component_found : (g : Graph) {v : ℕ} → Vertex g v → Component g v (component_of g v)
unfolding component_of
component_found g {v} h = rw (T_true (is_vertex g v) ((is_vertex_lem g v).1 h)) (record {
  vertex = (is r.0).0;
  together = (is r.0).1;
  lowest = λ w k t. r.1 w (has k t);
})
  where
    class : List ℕ
    class = keep (λ u. together g u v) (vertices g)

    is : {u : ℕ} → In u class → Vertex g u × Together g u v
    is {u} i = let p = (keep_is (λ u. together g u v) u (vertices g)).0 i in ((vertices_are g u).0 p.0, (decides_together g u h).holds p.1)

    has : {u : ℕ} → Vertex g u → Together g u v → In u class
    has {u} k t = (keep_is (λ u. together g u v) u (vertices g)).1 ((vertices_are g u).1 k, (decides_together g u h).test t)

    r : In (get_or class 0 v) class × ((y : ℕ) → In y class → get_or class 0 v ≤ y)
    r = head_lowest v (ordered_keep (λ u. together g u v) (ordered_vertices g)) (has h together_refl)

-- a number that is no vertex is its own group
pub component_none : (g : Graph) (v : ℕ) → (Vertex g v → ⊥) → component_of g v ≡ v
unfolding component_of
component_none g v n = rw (T_false (is_vertex g v) (λ t. n ((is_vertex_lem g v).0 t)))

-- The classes.

pub component_unique : {g : Graph} {v u w : ℕ} → Component g v u → Component g v w → u ≡ w
component_unique {v = v} {u = u} {w = w} p q = omega (arith, p.lowest w q.vertex q.together, q.lowest u p.vertex p.together)

-- the computed one is the declared one
pub component_is : (g : Graph) {v : ℕ} (u : ℕ) → Vertex g v → Component g v u ↔ (component_of g v ≡ u)
component_is g {v} u h = (λ c. component_unique (component_found g h) c, λ q. subst (Component g v) q (component_found g h))

component_moved : {g : Graph} {u v w : ℕ} → Together g u v → Component g u w → Component g v w
component_moved t p = record {
  vertex = p.vertex;
  together = together_trans p.together t;
  lowest = λ x h s. p.lowest x h (together_trans s (together_sym t));
}

-- 02, note 1: the groups are its classes
pub classes : (g : Graph) {u v : ℕ} → Vertex g u → Vertex g v → (component_of g u ≡ component_of g v) ↔ Together g u v
classes g {u} {v} hu hv = (
  λ p. together_trans (together_sym (component_found g hu).together) (subst (λ (x : ℕ). Together g x v) (sym p) (component_found g hv).together),
  λ t. component_unique (component_moved t (component_found g hu)) (component_found g hv),
)

-- 02, note 1: a plan is firm exactly when there is one group
pub one_component : {g : Graph} (u v : ℕ) → Vertex g u → Vertex g v → (u ≡ v → ⊥) → ThreeEdgeConnected g ↔ OneComponent g
one_component {g} u v hu hv n = (
  λ t x y hx hy. (classes g hx hy).1 (λ cut h. t.still cut h x y hx hy),
  λ s. record { two = (u, v, hu, hv, n); still = λ cut h x y hx hy. (classes g hx hy).0 (s x y hx hy) cut h },
)

pub plan_one : {most : Limits} {p : Plan} → Admitted most p → ThreeEdgeConnected (graph p) ↔ OneComponent (graph p)
plan_one a = let t = two_kept a in one_component t.low t.other t.lowest.vertex t.vertex (λ q. omega (arith, t.above))

-- The table.

pub components-length : (g : Graph) → length (components g) ≡ g.bound
unfolding components
components-length g = length-map (range 0 g.bound) (component_of g) ∙ length-range 0 g.bound

pub components_at : (g : Graph) (v : ℕ) → v < g.bound → get_or (components g) v 0 ≡ component_of g v
unfolding components
components_at g v h = let p : 0 + v ≡ v = omega arith in map_range (component_of g) 0 g.bound v h ∙ ap (component_of g) p

-- the table has for every vertex the lowest of its group
pub components_are : (g : Graph) {v : ℕ} → Vertex g v → Component g v (get_or (components g) v 0)
components_are g {v} h = subst (Component g v) (sym (components_at g v h.below)) (component_found g h)
