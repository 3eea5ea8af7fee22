-- Counts: in every list that builds the graph, steps and vertices together are two more than the edges.
use mathlib.Core.Path.{◌≡◌, refl}
use mathlib.Core.Logic.{inl, inr, ⊎_swap}
use mathlib.Core.List.Memᴰ.{append_cases as in-cases}
use mathlib.Core.List.Memᴰ.{append_left as in_left}
use mathlib.Core.List.Memᴰ.{append_right as in_right}
use mathlib.Core.List.Memᴰ.{cases_cons as in-cons}
use mathlib.Core.List.Memᴰ.{head as first}
use mathlib.Core.List.Memᴰ.{not-nil as not_in}
use mathlib.Core.List.Memᴰ.{tail as later}
use mathlib.Core.List.{List, [], ◌∷◌, ◌++◌, Memᴰ as In}
use Prim.Native.Nat.{ℕ, suc, ◌+◌, ◌≤◌}
use native.Mathlib.Omega.{arith}
use native.Mathlib.Decide.{ℕ_discrete, dec_le}
use lib.ListN.{length, length-append}
use Rattle.connectivity.specs.Lists.{Distinct}
use Rattle.connectivity.specs.Graph.{Graph, vertices, edges}
use Rattle.connectivity.specs.Walk.{Leg, Walk, last, then, Between, inner, edges_of, all_inner, all_edges, degree, Built}
use Rattle.connectivity.specs.Mader.{Theta, MaderPath, Steps, theta, mader, Builds}
use Rattle.connectivity.proofs.Search.{vertices_are}
use Rattle.connectivity.proofs.Order.{ordered_vertices}
use Rattle.connectivity.proofs.Distinct.{ordered_distinct, join_distinct}
use Rattle.connectivity.proofs.Degree.{degree-append, part_length, on_inner, inner_least, built_vertex}
use Rattle.connectivity.proofs.Stage.{AllBetween, all_degree, all_inner_lem}
use Rattle.connectivity.proofs.Build.{steps_edges, edges-count}

-- a walk has one edge more than inner vertices
pub walk_length : {g : Graph} {u w : ℕ} {legs : List Leg} → Walk g u legs w → length (edges_of legs) ≡ suc (length (inner legs))
walk_length (last e j) = refl
walk_length (then e j (last d i)) = refl
walk_length (then e j (then d i k)) = let h = walk_length (then d i k) in omega arith

-- the built vertices, each once, and the count
pub record Counted (g : Graph) (walks : List (List Leg)) : Type 0 where
  pub built : List ℕ
  pub distinct : Distinct built
  pub has : (v : ℕ) → Built g (all_edges walks) v → In v built
  pub only : (v : ℕ) → In v built → Built g (all_edges walks) v
  pub total : length walks + length built ≡ length (all_edges walks) + 2

-- Three paths.

module _ {g : Graph} {a b : ℕ} where
  between_length : {legs : List Leg} → Between g a legs b → length (edges_of legs) ≡ suc (length (inner legs))
  between_length (inl k) = walk_length k
  between_length (inr k) = walk_length k

  between_least : {legs : List Leg} (x : ℕ) → Between g a legs b → In x (inner legs) → 2 ≤ degree g (edges_of legs) x
  between_least x (inl k) i = inner_least x k i
  between_least x (inr k) i = inner_least x k i

  all_length : (walks : List (List Leg)) → AllBetween g a walks b → length (all_edges walks) ≡ length walks + length (all_inner walks)
  all_length [] f = refl
  all_length (legs ∷ walks) f = let h = all_length walks (λ l i. f l (later i)) in
      omega (arith, length-append (edges_of legs) (all_edges walks), length-append (inner legs) (all_inner walks), between_length (f legs (first refl)))

  pub inner_built : (walks : List (List Leg)) (x : ℕ) → AllBetween g a walks b → In x (all_inner walks) → Built g (all_edges walks) x
  inner_built [] x f i = absurd (not_in i)
  inner_built (legs ∷ walks) x f i = elim (in-cases (inner legs) i) [
    | inl j ↦ omega (arith, degree-append g (edges_of legs) (all_edges walks) x, between_least x (f legs (first refl)) j)
    | inr j ↦ omega (arith, degree-append g (edges_of legs) (all_edges walks) x, inner_built walks x (λ l i. f l (later i)) j)
  ]

counted_theta : {g : Graph} {a b : ℕ} {walks : List (List Leg)} → Theta g a b walks → Counted g walks
counted_theta {g} {a} {b} {walks} t = record {
  built = a ∷ b ∷ all_inner walks;
  distinct = t.simple;
  has = λ v h. elim (ℕ_discrete v a) [
    | yes p ↦ first p
    | no n ↦ elim (ℕ_discrete v b) [ yes p ↦ later (first p) | no m ↦ later (later (all_inner_lem walks v t.between n m h)) ]
  ];
  only = λ v i. elim (in-cons i) [
    | inl p ↦ rw p (omega (arith, t.three, all_degree walks t.between))
    | inr j ↦ elim (in-cons j) [
      | inl p ↦ rw p (omega (arith, t.three, all_degree {g = g} {a = b} {b = a} walks (λ l k. ⊎_swap (t.between l k))))
      | inr k ↦ inner_built walks v t.between k
    ]
  ];
  total = omega (arith, t.three, all_length walks t.between);
}

-- A Mader-path.

counted_path : {g : Graph} {walks : List (List Leg)} {u w : ℕ} {legs : List Leg} → Counted g walks → MaderPath g (all_edges walks) u legs w → Counted g (legs ∷ walks)
counted_path {g} {walks} {u} {w} {legs} c k = record {
  built = inner legs ++ c.built;
  distinct = join_distinct (inner legs) k.simple c.distinct (λ v i j. k.fresh v i (c.only v j));
  has = λ v h. elim (dec_le 1 (degree g (all_edges walks) v)) [
    | yes p ↦ in_right (inner legs) (c.has v p)
    | no n ↦ in_left c.built (on_inner v k.walk (λ q. n (rw q k.begins)) (λ q. n (rw q k.ends)) (omega (arith, sum v)))
  ];
  only = λ v i. elim (in-cases (inner legs) i) [
    | inl j ↦ omega (arith, sum v, inner_least v k.walk j)
    | inr j ↦ omega (arith, sum v, c.only v j)
  ];
  total = omega (arith, c.total, length-append (inner legs) c.built, length-append (edges_of legs) (all_edges walks), walk_length k.walk);
}
  where
    sum : (v : ℕ) → degree g (edges_of legs ++ all_edges walks) v ≡ degree g (edges_of legs) v + degree g (all_edges walks) v
    sum v = degree-append g (edges_of legs) (all_edges walks) v

-- at every stage
pub counted : {g : Graph} {walks : List (List Leg)} → Steps g walks → Counted g walks
counted (theta t) = counted_theta t
counted (mader p k) = counted_path (counted p) k

-- 01's numbers of a whole record: the steps are the tabs less the pieces plus 2
pub builds_count : {g : Graph} {list : List ℕ} (b : Builds g list) → length b.walks + length (vertices g) ≡ length (edges g) + 2
builds_count {g} b =
    let c = counted b.steps in
    let at_least_lem = part_length g (vertices g) c.built (ordered_distinct (ordered_vertices g))
    (λ v i. c.has v (let h = b.branches v ((vertices_are g v).0 i) in omega arith)) in
    let at_most = part_length g c.built (vertices g) c.distinct (λ v i. (vertices_are g v).1 (built_vertex (all_edges b.walks) (λ e j. steps_edges b.steps j) (c.only v i))) in
    omega (arith, c.total, edges-count b.steps b.once b.every)
