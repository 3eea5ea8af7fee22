-- Mader's steps are complete: every three-edge-connected graph has a list that builds it.
use mathlib.Core.Path.{◌≡◌, refl, ap, ◌∙◌, subst}
use mathlib.Core.Logic.{◌⊎◌, inl, inr}
use mathlib.Core.List.Memᴰ.{append_cases as in-cases}
use mathlib.Core.List.Memᴰ.{cases_cons as in-cons}
use mathlib.Core.List.Memᴰ.{head as first}
use mathlib.Core.List.Memᴰ.{not-nil as not_in}
use mathlib.Core.List.Memᴰ.{tail as later}
use mathlib.Core.List.{List, [], ◌∷◌, Memᴰ as In}
use Prim.Native.Nat.{ℕ, zero, suc, ◌+◌, ◌*◌, ◌≤◌, ◌<◌}
use native.Mathlib.Omega.{arith}
use native.Mathlib.Decide.{ℕ_discrete, map_dec}
use lib.ListN.{length, length-append}
use Rattle.connectivity.specs.Lists.{Distinct}
use Rattle.connectivity.specs.Plan.{Plan, graph, Limits}
use Rattle.connectivity.specs.Graph.{Graph, Vertex, edges}
use Rattle.connectivity.specs.Reach.{ThreeEdgeConnected}
use Rattle.connectivity.specs.Walk.{Leg, Walk, last, then, froms, edges_of, all_edges}
use Rattle.connectivity.specs.Mader.{Steps, theta, mader, step_rows, rows, Builds}
use Rattle.connectivity.specs.Admission.{Admitted, Answer, answer, passed}
use Rattle.connectivity.specs.Judge.{judge, judge_firm}
use Rattle.connectivity.proofs.Reach.{joins_vertex}
use Rattle.connectivity.proofs.Search.{edges_are}
use Rattle.connectivity.proofs.Degree.{part_length}
use Rattle.connectivity.proofs.Sound.{stage}
use Rattle.connectivity.proofs.Build.{walk_edges, steps_edges, edges-count, rows-length, firm_is}
use Rattle.connectivity.proofs.Count.{walk_length, builds_count}
use Rattle.connectivity.proofs.Stretch.{WalkIn, walk_in}
use Rattle.connectivity.proofs.Judge.{firm_passes}
use Rattle.connectivity.proofs.Grow.{all_branches}
use Rattle.connectivity.proofs.First.{first_three}
use Rattle.connectivity.proofs.MaderPaths.{every_edge}
use Rattle.connectivity.proofs.Find.{find}

-- The construction ends, with every edge built.

-- where fewer than k edges are left to build
grow : {g : Graph} {walks : List (List Leg)} → ThreeEdgeConnected g → (k : ℕ) → length (edges g) < length (all_edges walks) + k
    → Steps g walks → Distinct (all_edges walks) → ((list : List ℕ) → Builds g list → ⊥) → ⊥
grow {g} {walks} t zero h s d f = omega (arith, h, part_length g (all_edges walks) (edges g) d (λ e i. (edges_are g e).1 (steps_edges s i)))
grow {g} {walks} t (suc k) h s d f =
    let every = every_edge t s d (λ n. grow t k (omega (arith, h, walk_length n.path.walk, length-append (edges_of n.legs) (all_edges walks))) (mader s n.path) n.once f) in
    f (rows walks) (record { walks = walks; numbers = refl; steps = s; every = every; once = d; branches = all_branches t (stage s d) every })

-- The numbers of a list that builds the graph are below a bound.

walk_vertex : {g : Graph} {u w v : ℕ} {legs : List Leg} → Walk g u legs w → In v (froms legs) → Vertex g v
walk_vertex (last e j) i = elim (in-cons i) [ inl p ↦ rw p (joins_vertex j) | inr m ↦ absurd (not_in m) ]
walk_vertex (then e j k) i = elim (in-cons i) [ inl p ↦ rw p (joins_vertex j) | inr m ↦ walk_vertex k m ]

-- legs whose edges and vertices are below b
abbrev Below : ℕ → List Leg → Type 0
Below b legs = (n : ℕ) → In n (edges_of legs) ⊎ In n (froms legs) → n < b

step_below : {b s n : ℕ} (legs : List Leg) → s < b → Below b legs → In n (step_rows s legs) → n < b
step_below [] h f i = absurd (not_in i)
step_below {n = n} (l ∷ legs) h f i = elim (in-cons i) [
  | inl p ↦ rw p h
  | inr j ↦ elim (in-cons j) [
    | inl p ↦ f n (inl (first p))
    | inr k ↦ elim (in-cons k) [
      | inl p ↦ f n (inr (first p))
      | inr m ↦ step_below legs h (λ x o. f x (elim o [ inl q ↦ inl (later q) | inr q ↦ inr (later q) ])) m
    ]
  ]
]

rows_below : {b n : ℕ} (walks : List (List Leg)) → length walks ≤ b → ((legs : List Leg) → In legs walks → Below b legs) → In n (rows walks) → n < b
rows_below [] h f i = absurd (not_in i)
rows_below (legs ∷ walks) h f i = elim (in-cases (rows walks) i) [
  | inl j ↦ rows_below walks (omega (arith, h)) (λ l m. f l (later m)) j
  | inr j ↦ step_below legs (omega (arith, h)) (f legs (first refl)) j
]

-- Whether a list builds the graph is decided, and only finitely many can.

passed_dec : (a : Answer) → Dec (a ≡ passed)
passed_dec a = elim (ℕ_discrete a.number 0) [
  | yes p ↦ elim (ℕ_discrete a.place 0) [
    | yes q ↦ yes (ap (λ (n : ℕ). answer n a.place) p ∙ ap (answer 0) q)
    | no n ↦ no (λ q. n (ap (λ (x : Answer). x.place) q))
  ]
  | no n ↦ no (λ q. n (ap (λ (x : Answer). x.number) q))
]

module _ (g : Graph) where
  abbrev pub bound : ℕ
  bound = length (edges g) + 2 + g.size + g.bound

  pub numbers_below : (list : List ℕ) → Builds g list → (n : ℕ) → In n list → n < bound
  numbers_below list b n i = rows_below b.walks (omega (arith, builds_count b))
      (λ legs m. let w : WalkIn g (all_edges b.walks) legs = walk_in b.steps b.once m in λ x o. elim o [
        | inl k ↦ omega (arith, (walk_edges w.walk k).below)
        | inr k ↦ omega (arith, (walk_vertex w.walk k).below)
      ])
      (subst (In n) b.numbers i)

  pub builds_length : (list : List ℕ) → Builds g list → length list ≡ 3 * length (edges g)
  builds_length list b = omega (arith, ap length b.numbers, rows-length b.walks, edges-count b.steps b.once b.every)

  builds_dec : (list : List ℕ) → Dec (Builds g list)
  builds_dec list = map_dec (firm_is g list).0 (firm_is g list).1 (passed_dec (judge_firm g list))

-- The theorem.

-- every three-edge-connected graph is built by a list
pub three_builds : {g : Graph} → ThreeEdgeConnected g → (list : List ℕ) × Builds g list
three_builds {g} t = elim (find (builds_dec g) (bound g) (3 * length (edges g))) [
  | inl p ↦ p
  | inr n ↦ absurd (first_three t (λ h. grow t (suc (length (edges g))) (omega arith) (theta h.theta) h.once
      (λ list b. n list (builds_length g list b) (numbers_below g list b) b)))
]

-- 01: so on every admitted plan that is firm some firm verdict passes
pub firm_exists : {most : Limits} {p : Plan} → Admitted most p → ThreeEdgeConnected (graph p) → (list : List ℕ) × (judge most p 0 list ≡ passed)
firm_exists {most} {p} a t = let (list, b) = three_builds t in (list, (firm_passes most p list).1 (a, b))
