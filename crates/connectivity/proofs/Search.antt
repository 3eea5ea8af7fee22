-- The search finds exactly what is not reached: `unreached` has the vertices that no way over live edges leads to.
use mathlib.Core.Path.{refl, sym, subst}
use mathlib.Core.Logic.{◌⊎◌, inl, inr, ◌↔◌}
use mathlib.Core.Bool.{Bool, not, cond, ◌&&◌}
use mathlib.Core.List.Memᴰ.{append_cases as in-cases}
use mathlib.Core.List.Memᴰ.{append_left as in_left}
use mathlib.Core.List.Memᴰ.{append_right as in_right}
use mathlib.Core.List.Memᴰ.{eq_of_singleton}
use mathlib.Core.List.Memᴰ.{head as first}
use mathlib.Core.List.Memᴰ.{not-nil as not_in}
use mathlib.Core.List.{List, [], ◌∷◌, ◌++◌, Memᴰ as In}
use Prim.Native.Nat.{ℕ, zero, suc, ◌≤◌, ◌<◌}
use native.Mathlib.Omega.{arith}
use lib.Dec.{T, eqb, ltb, eqb→eq, eqb_refl, ltb→lt, lt→ltb, T_not, not_T}
use lib.ListN.{length}
use Rattle.connectivity.specs.Lists.{range, keep, mem, empty}
use Rattle.connectivity.specs.Graph.{Graph, Vertex, Edge, Joins, is_vertex, is_edge, vertices, edges}
use Rattle.connectivity.specs.Reach.{Reach, here, over}
use Rattle.connectivity.specs.Cut.{near, spread, unreached}
use Rattle.connectivity.proofs.Lists.{and_both, both_and, or_one, or_left, or_right, T-dec, T_true, T_false, eq-T, mem_in, in_mem, any_is, keep_is, keep-length, range_is, in_dec, empty-none, not_empty}
use Rattle.connectivity.proofs.Reach.{joins_vertex, reach_trans, closed_reach}

-- the lists of vertices and edges
pub is_vertex_lem : (g : Graph) (v : ℕ) → T (is_vertex g v) ↔ Vertex g v
unfolding is_vertex
is_vertex_lem g v = (
  λ t. let p = and_both (ltb v g.bound) (g.kept v) t in record { below = ltb→lt v g.bound p.0; kept = p.1 },
  λ h. both_and (ltb v g.bound) (g.kept v) (lt→ltb v g.bound h.below) h.kept,
)

pub is_edge_lem : (g : Graph) (e : ℕ) → T (is_edge g e) ↔ Edge g e
unfolding is_edge
is_edge_lem g e = (
  λ t. let p = and_both (ltb e g.size) _ t in
      let q = and_both (is_vertex g (g.left e)) _ p.1 in
      record { below = ltb→lt e g.size p.0; left = (is_vertex_lem g (g.left e)).0 q.0; right = (is_vertex_lem g (g.right e)).0 q.1 },
  λ h. both_and (ltb e g.size) _ (lt→ltb e g.size h.below)
      (both_and (is_vertex g (g.left e)) _ ((is_vertex_lem g (g.left e)).1 h.left) ((is_vertex_lem g (g.right e)).1 h.right)),
)

pub vertices_are : (g : Graph) (v : ℕ) → In v (vertices g) ↔ Vertex g v
unfolding vertices
vertices_are g v = (
  λ i. (is_vertex_lem g v).0 ((keep_is (is_vertex g) v (range 0 g.bound)).0 i).1,
  λ h. (keep_is (is_vertex g) v (range 0 g.bound)).1 ((range_is v 0 g.bound).1 (omega arith, omega (arith, h.below)), (is_vertex_lem g v).1 h),
)

pub edges_are : (g : Graph) (e : ℕ) → In e (edges g) ↔ Edge g e
unfolding edges
edges_are g e = (
  λ i. (is_edge_lem g e).0 ((keep_is (is_edge g) e (range 0 g.size)).0 i).1,
  λ h. (keep_is (is_edge g) e (range 0 g.size)).1 ((range_is e 0 g.size).1 (omega arith, omega (arith, h.below)), (is_edge_lem g e).1 h),
)

-- a live edge joins v to a vertex that has been seen
pub record Near (g : Graph) (ok found : List ℕ) (v : ℕ) : Type 0 where
  pub from : ℕ
  pub edge : ℕ
  pub seen : In from found
  pub live : In edge ok
  pub joins : Joins g edge from v

module _ (g : Graph) (live : List ℕ) (are_edges : (e : ℕ) → In e live → Edge g e) where
  near_is : (seen : List ℕ) (v : ℕ) → T (near g live seen v) ↔ Near g live seen v
  unfolding near
  near_is seen v = (to, from)
    where
      to : T (near g live seen v) → Near g live seen v
      to t = let p = (any_is _ live).0 t in go p.0 p.1 (or_one (eqb (g.left p.0) v && mem (g.right p.0) seen) _ p.2)
        where
          go : (e : ℕ) → In e live → T (eqb (g.left e) v && mem (g.right e) seen) ⊎ T (eqb (g.right e) v && mem (g.left e) seen) → Near g live seen v
          go e i (inl h) = let q = and_both (eqb (g.left e) v) _ h in
              record { from = g.right e; edge = e; seen = mem_in (g.right e) seen q.1; live = i; joins = record { edge = are_edges e i; ends = inr (eqb→eq (g.left e) v q.0, refl) } }
          go e i (inr h) = let q = and_both (eqb (g.right e) v) _ h in
              record { from = g.left e; edge = e; seen = mem_in (g.left e) seen q.1; live = i; joins = record { edge = are_edges e i; ends = inl (refl, eqb→eq (g.right e) v q.0) } }

      from : Near g live seen v → T (near g live seen v)
      from n = (any_is _ live).1 (
        n.edge,
        n.live,
        elim n.joins.ends [
          | inl p ↦ or_right (eqb (g.left n.edge) v && mem (g.right n.edge) seen) _ (both_and (eqb (g.right n.edge) v) _ (eq-T p.1) (subst (λ (x : ℕ). T (mem x seen)) (sym p.0) (in_mem n.seen)))
          | inr p ↦ or_left (eqb (g.left n.edge) v && mem (g.right n.edge) seen) _ (both_and (eqb (g.left n.edge) v) _ (eq-T p.0) (subst (λ (x : ℕ). T (mem x seen)) (sym p.1) (in_mem n.seen)))
        ],
      )

  -- one round: what is near moves from `rest` to `seen`
  abbrev new : List ℕ → List ℕ → List ℕ
  new seen rest = keep (near g live seen) rest

  abbrev old : List ℕ → List ℕ → List ℕ
  old seen rest = keep (λ v. not (near g live seen v)) rest

  -- a round that finds nothing is the last
  round : (P : List ℕ → Type 0) (k : ℕ) (seen rest : List ℕ)
      → (((v : ℕ) → In v rest → Near g live seen v → ⊥) → P rest)
      → (length (old seen rest) < length rest → P (spread g live k (new seen rest ++ seen) (old seen rest)))
      → P (spread g live (suc k) seen rest)
  unfolding spread
  round P k seen rest stop go = pick (T-dec (empty (new seen rest)))
    where
      pick : Dec (T (empty (new seen rest))) → P (cond (empty (new seen rest)) rest (spread g live k (new seen rest ++ seen) (old seen rest)))
      pick (yes t) = rw (T_true (empty (new seen rest)) t) (stop (λ v i n. empty-none (new seen rest) t ((keep_is (near g live seen) v rest).1 (i, (near_is seen v).1 n))))
      pick (no n) = rw (T_false (empty (new seen rest)) n) (go (omega (arith, keep-length (near g live seen) rest, not_empty (new seen rest) n)))

  -- what is taken out is reached from what was seen
  taken_out : (ok : ℕ → Type 0) (u k : ℕ) (seen rest : List ℕ) → ((e : ℕ) → In e live → ok e) → ((x : ℕ) → In x seen → Reach g ok u x)
      → (v : ℕ) → In v rest → (In v (spread g live k seen rest) → ⊥) → Reach g ok u v
  unfolding spread
  taken_out ok u zero seen rest f h v i = λ n. absurd (n i)
  taken_out ok u (suc k) seen rest f h v i = round (λ (l : List ℕ). (In v l → ⊥) → Reach g ok u v) k seen rest
      (λ _ n. absurd (n i))
      (λ _ n. elim (T-dec (near g live seen v)) [
        | yes t ↦ found v ((near_is seen v).0 t)
        | no m ↦ taken_out ok u k (new seen rest ++ seen) (old seen rest) f more v ((keep_is _ v rest).1 (i, not_T (near g live seen v) m)) n
      ])
    where
      found : (w : ℕ) → Near g live seen w → Reach g ok u w
      found w n = reach_trans (h n.from n.seen) (over n.edge (f n.edge n.live) n.joins here)

      more : (x : ℕ) → In x (new seen rest ++ seen) → Reach g ok u x
      more x j = elim (in-cases (new seen rest) j) [ inl p ↦ found x ((near_is seen x).0 ((keep_is _ x rest).0 p).1) | inr p ↦ h x p ]

  -- what is left has not been left over by a round: no live edge leads into it
  left_over : (k : ℕ) (seen rest : List ℕ) → length rest ≤ k → (e x y : ℕ) → In e live → Joins g e x y → In x seen ⊎ In x rest
      → (In x (spread g live k seen rest) → ⊥) → In y (spread g live k seen rest) → ⊥
  unfolding spread
  left_over zero seen rest h e x y l j c = λ n i. short rest h i
    where
      short : (rest : List ℕ) → length rest ≤ 0 → In y rest → ⊥
      short [] h i = not_in i
      short (z ∷ rest) h i = omega arith
  left_over (suc k) seen rest h e x y l j c = round (λ (s : List ℕ). (In x s → ⊥) → In y s → ⊥) k seen rest
      (λ stop n i. elim c [ inl p ↦ stop y i (record { from = x; edge = e; seen = p; live = l; joins = j }) | inr p ↦ n p ])
      (λ less. left_over k (new seen rest ++ seen) (old seen rest) (omega arith) e x y l j (elim c [
        | inl p ↦ inl (in_right (new seen rest) p)
        | inr p ↦ elim (T-dec (near g live seen x)) [
          | yes t ↦ inl (in_left seen ((keep_is _ x rest).1 (p, t)))
          | no m ↦ inr ((keep_is _ x rest).1 (p, not_T (near g live seen x) m))
        ]
      ]))

  -- nothing comes into what is left
  stays : (k : ℕ) (seen rest : List ℕ) (v : ℕ) → In v (spread g live k seen rest) → In v rest
  unfolding spread
  stays zero seen rest v = λ i. i
  stays (suc k) seen rest v = round (λ (s : List ℕ). In v s → In v rest) k seen rest (λ _ i. i)
      (λ _ i. ((keep_is _ v rest).0 (stays k (new seen rest ++ seen) (old seen rest) v i)).0)

-- what `unreached` has is a vertex that u does not reach, and any other vertex is reached
module _ (g : Graph) (live : ℕ → Bool) (u : ℕ) where
  abbrev edges_live : List ℕ
  edges_live = keep live (edges g)

  abbrev rest : List ℕ
  rest = keep (λ v. not (eqb u v)) (vertices g)

  abbrev left : List ℕ
  left = spread g edges_live (length rest) (u ∷ []) rest

  are_edges : (e : ℕ) → In e edges_live → Edge g e
  are_edges e i = (edges_are g e).0 ((keep_is live e (edges g)).0 i).0

  in_rest : (x : ℕ) → In x left → In x (vertices g) × T (not (eqb u x))
  in_rest x i = (keep_is (λ v. not (eqb u v)) x (vertices g)).0 (stays g edges_live are_edges (length rest) (u ∷ []) rest x i)

  vertex : (x : ℕ) → In x left → Vertex g x
  vertex x i = (vertices_are g x).0 (in_rest x i).0

  start : In u left → ⊥
  start i = T_not (eqb u u) (in_rest u i).1 (eqb_refl u)

  cover : (x : ℕ) → Vertex g x → In x (u ∷ []) ⊎ In x rest
  cover x h = elim (T-dec (eqb u x)) [
    | yes t ↦ inl (first (sym (eqb→eq u x t)))
    | no n ↦ inr ((keep_is (λ v. not (eqb u v)) x (vertices g)).1 ((vertices_are g x).1 h, not_T (eqb u x) n))
  ]

  closed : (e x y : ℕ) → T (live e) → Joins g e x y → (In x left → ⊥) → In y left → ⊥
  closed e x y t j n i = left_over g edges_live are_edges (length rest) (u ∷ []) rest (omega arith) e x y
      ((keep_is live e (edges g)).1 ((edges_are g e).1 j.edge, t)) j (cover x (joins_vertex j)) n i

  pub unreached_not : {v : ℕ} → In v (unreached g live u) → Vertex g v × (Reach g (λ e. T (live e)) u v → ⊥)
  unfolding unreached
  unreached_not {v} i = (vertex v i, λ r. closed_reach (λ x. In x left → ⊥) closed r start i)

  pub unreached_or : {v : ℕ} → Vertex g v → In v (unreached g live u) ⊎ Reach g (λ e. T (live e)) u v
  unfolding unreached
  unreached_or {v} h = elim (in_dec v left) [
    | yes i ↦ inl i
    | no m ↦ inr (elim (cover v h) [
      | inl p ↦ from_start p
      | inr p ↦ taken_out g edges_live are_edges (λ e. T (live e)) u (length rest) (u ∷ []) rest
          (λ e i. ((keep_is live e (edges g)).0 i).1) (λ x i. from_start i) v p m
    ])
  ]
    where
      from_start : {x : ℕ} → In x (u ∷ []) → Reach g (λ e. T (live e)) u x
      from_start i = subst (Reach g (λ e. T (live e)) u) (sym (eq_of_singleton i)) here
