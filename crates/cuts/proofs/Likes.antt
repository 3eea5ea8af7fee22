-- Edges with like labels: how they are found along the chains, and that what is passed over does not disconnect.
use mathlib.Core.Path.{◌≡◌, refl, sym, ap, subst, ◌∙◌}
use mathlib.Core.Bool.{false}
use mathlib.Core.List.{List, [], ◌∷◌}
use mathlib.Core.Option.{none}
use Prim.Native.Nat.{ℕ, ◌+◌, ◌-◌, ◌≤◌, ◌<◌}
use native.Mathlib.Omega.{arith}
use native.Mathlib.Decide.{ℕ_discrete, dec_lt}
use lib.ListN.{length, get_or}
use Rattle.connectivity.specs.Lists.{all}
use Rattle.connectivity.specs.Plan.{Plan, graph}
use Rattle.connectivity.specs.Graph.{Graph, Edge, is_edge}
use Rattle.connectivity.specs.Cut.{disconnects, singles, pairs_with, pairs, first_of}
use Rattle.connectivity.proofs.Lists.{T-dec, T_true, T_false}
use Rattle.connectivity.proofs.Search.{is_edge_lem}
use Rattle.graph.specs.declared.Answer.{Answer}
use Rattle.chains.specs.Chains.{key_of, keys, named, Lowest, Chained}
use Rattle.chains.proofs.Lowest.{named_some}
use Rattle.chains.proofs.OnChain.{chained_served, next_long, next_lowest, other_label}
use Rattle.cuts.specs.Lowest.{cut_by, Shown, ShownBoth, first_with}
use Rattle.std.specs.Prelude.{Option, Some, None}
use Rattle.cuts.specs.Alike.{Chaining, Like, NoneLike, FirstLike, LowestLike, Paired}
use Rattle.cuts.proofs.First.{from, steps, first_no, one_next, with_next, with_over, two_next}

-- the chains that are made serve
pub chained : {m : ℕ} {labels next₀ heads₀ next heads : List ℕ} {r : Answer} → Chained m labels next₀ heads₀ next heads r
    → m ≤ length labels → m ≤ length next₀ → 0 < length heads₀ → Chaining m labels next
chained {heads₀ = heads₀} c a b h =
    let z = chained_served c a b h in
    record { size = length heads₀; room = omega (arith, b, next_long c z b); follows = next_lowest c z }

-- The walk of `next_like`: x names the next edge of the chain of e; those above e before it have other labels.

pub record Walked (labels dead : List ℕ) (key : ℕ → ℕ) (m e x : ℕ) : Type 0 where
  pub inside : x ≤ m
  pub on : 0 < x → key (x - 1) ≡ key e
  pub above : e < named m x
  pub between : (d : ℕ) → d < named m x → e + 1 ≤ d → Like labels dead (get_or labels e 0) d → ⊥

module _ {m : ℕ} {labels next : List ℕ} (dead : List ℕ) (c : Chaining m labels next) {e : ℕ} (h : e < m) where
  abbrev key : ℕ → ℕ
  key = keys c.size labels

  abbrev Reached : ℕ → Type 0
  Reached x = Walked labels dead key m e x

  like_key : (d : ℕ) → get_or labels d 0 ≡ get_or labels e 0 → key d ≡ key e
  like_key d q = ap (key_of c.size) q

  pub walk_start : Reached (get_or next e 0)
  walk_start = let l = c.follows e h in record { inside = l.inside; on = l.on; above = omega (arith, l.low); between = λ d b o q. other_label c.size labels l d (omega arith) b (sym q.1) }

  module _ {x : ℕ} (w : Reached x) where
    pub walk_over : x ≡ 0 → NoneLike labels dead (get_or labels e 0) (e + 1) m
    walk_over z = λ d b. w.between d (rw z b)

    module _ (some : 0 < x) where
      at : named m x ≡ x - 1
      at = named_some m x some

      pub walk_found : Like labels dead (get_or labels e 0) (x - 1) → FirstLike labels dead (get_or labels e 0) (e + 1) m (x - 1)
      walk_found q = record { low = omega (arith, w.above, at); high = omega (arith, w.inside); like = q; between = λ d b. w.between d (omega (arith, at)) }

      follows : Lowest key (key e) (x - 1 + 1) m (get_or next (x - 1) 0)
      follows = rw (w.on some) at (c.follows (x - 1) (omega (arith, w.inside)))

      pub walk_next : (Like labels dead (get_or labels e 0) (x - 1) → ⊥) → Reached (get_or next (x - 1) 0)
      walk_next n = record {
        inside = follows.inside;
        on = follows.on;
        above = omega (arith, follows.low, w.above, at);
        between = λ d b o q. elim (dec_lt d (x - 1)) [
          | yes l ↦ w.between d (omega (arith, at)) o q
          | no l ↦ elim (ℕ_discrete d (x - 1)) [
            | yes k ↦ n (subst (Like labels dead (get_or labels e 0)) k q)
            | no k ↦ follows.between d (omega arith) b (like_key d q.1)
          ]
        ];
      }

      -- the walk ends
      pub walk_less : m - named m (get_or next (x - 1) 0) < m - named m x
      walk_less = omega (arith, at, follows.low, w.inside)

-- What is passed over is no cut.

-- a set of which one is no edge of the graph is none
module _ (g : Graph) where
  pub not_one : (e : ℕ) → (Edge g e → ⊥) → cut_by g (e ∷ []) ≡ false
  unfolding cut_by all
  not_one e n = rw (T_false (is_edge g e) (λ t. n ((is_edge_lem g e).0 t)))

  pub not_two : (e d : ℕ) → (Edge g e → Edge g d → ⊥) → cut_by g (e ∷ (d ∷ [])) ≡ false
  unfolding cut_by all
  not_two e d n = elim (T-dec (is_edge g e)) [
    | no h ↦ rw (T_false (is_edge g e) h)
    | yes t ↦ rw (T_true (is_edge g e) t, T_false (is_edge g d) (λ u. n ((is_edge_lem g e).0 t) ((is_edge_lem g d).0 u)))
  ]

  -- of edges the search decides
  pub by_one : (e : ℕ) → Edge g e → cut_by g (e ∷ []) ≡ disconnects g (e ∷ [])
  unfolding cut_by all
  by_one e k = rw (T_true (is_edge g e) ((is_edge_lem g e).1 k))

  pub by_two : (e d : ℕ) → Edge g e → Edge g d → cut_by g (e ∷ (d ∷ [])) ≡ disconnects g (e ∷ (d ∷ []))
  unfolding cut_by all
  by_two e d k h = rw (T_true (is_edge g e) ((is_edge_lem g e).1 k), T_true (is_edge g d) ((is_edge_lem g d).1 h))

  -- no pair with an entry that is no edge
  pub no_with : (e : ℕ) (l : List ℕ) → (Edge g e → ⊥) → first_of (cut_by g) (pairs_with e l) ≡ none
  unfolding pairs_with first_of
  no_with e [] n = refl
  no_with e (d ∷ l) n = first_no (cut_by g) (e ∷ (d ∷ [])) (pairs_with e l) (not_two e d (λ x y. n x)) ∙ no_with e l n

-- those above e before d are no cut together with e, and d has its label
pub record With (g : Graph) (labels dead : List ℕ) (m e d : ℕ) : Type 0 where
  pub above : e < d
  pub high : d < m
  pub like : Like labels dead (get_or labels e 0) d
  pub so_far : first_with g m e ≡ first_of (cut_by g) (pairs_with e (from d m))

-- the edge that is tried next together with e, or none: then none of them is such a cut
abbrev pub Reaching : Graph → List ℕ → List ℕ → ℕ → ℕ → Option ℕ → Type 0
Reaching g labels dead m e (Some d) = With g labels dead m e d
Reaching g labels dead m e None = first_with g m e ≡ none

-- what is left to try
abbrev pub rest : ℕ → Option ℕ → ℕ
rest m (Some d) = m - d
rest m None = 0

pub rest_less : (labels dead : List ℕ) (label : ℕ) {d m : ℕ} (r : Option ℕ) → d < m → LowestLike labels dead label (d + 1) m r → rest m r < m - d
rest_less labels dead label (Some r) h l = omega (arith, h, l.low, l.high)
rest_less labels dead label None h l = omega (arith, h)

-- marks that are the same
pub with_same : {g : Graph} {labels dead dead' : List ℕ} {m e d : ℕ} → dead' ≡ dead → With g labels dead m e d → With g labels dead' m e d
with_same {g} {labels} {m = m} {e = e} {d = d} q w = subst (λ (x : List ℕ). With g labels x m e d) (sym q) w

module _ (p : Plan) (dead : List ℕ) (live : (e : ℕ) → Edge (graph p) e → get_or dead e 0 ≡ 0) where
  abbrev g : Graph
  g = graph p

  -- an entry with a mark is no edge, and no first one of a cut
  pub pass_two : {m e : ℕ} → e < m → (get_or dead e 0 ≡ 0 → ⊥) → first_of (cut_by g) (pairs (from e m)) ≡ first_of (cut_by g) (pairs (from (e + 1) m))
  pass_two {m} {e} h n = two_next (cut_by g) e m h (no_with g e (from (e + 1) m) (λ x. n (live e x)))

  module _ {labels : List ℕ} {m : ℕ} where
    pub pass_one : {e : ℕ} → Shown p labels m → e < m → (Like labels dead 0 e → ⊥) → first_of (cut_by g) (singles (from e m)) ≡ first_of (cut_by g) (singles (from (e + 1) m))
    pass_one {e} s h n = one_next (cut_by g) e m h (elim (T-dec (is_edge g e)) [
      | no k ↦ not_one g e (λ x. k ((is_edge_lem g e).1 x))
      | yes t ↦ let x = (is_edge_lem g e).0 t in by_one g e x ∙ s.one e x (λ z. n (live e x, z))
    ])

    module _ (s : ShownBoth p labels m) where
      other : (e d : ℕ) → e < d → (Paired labels dead e d → ⊥) → cut_by g (e ∷ (d ∷ [])) ≡ false
      other e d o n = elim (T-dec (is_edge g e)) [
        | no h ↦ not_two g e d (λ x y. h ((is_edge_lem g e).1 x))
        | yes t ↦ elim (T-dec (is_edge g d)) [
          | no h ↦ not_two g e d (λ x y. h ((is_edge_lem g d).1 y))
          | yes u ↦ let x = (is_edge_lem g e).0 t in let y = (is_edge_lem g d).0 u in by_two g e d x y ∙ s.two e d o x y (λ q. n (live e x, (live d y, sym q)))
        ]
      ]

      skip : (e d r : ℕ) → e < d → d ≤ r → r ≤ m → NoneLike labels dead (get_or labels e 0) d r
          → first_of (cut_by g) (pairs_with e (from d m)) ≡ first_of (cut_by g) (pairs_with e (from r m))
      skip e d r o low high n = steps (λ (k : ℕ). first_of (cut_by g) (pairs_with e (from k m))) d r low
          (λ k a b. let h : k < m = omega (arith, high) in with_next (cut_by g) e k m h (other e k (omega arith) (λ t. n k b a t.1)))

      pass_with : (e d : ℕ) (r : Option ℕ) → e < d → d ≤ m → first_with g m e ≡ first_of (cut_by g) (pairs_with e (from d m)) → LowestLike labels dead (get_or labels e 0) d m r → Reaching g labels dead m e r
      pass_with e d (Some r) o h q l = record { above = omega (arith, l.low); high = l.high; like = l.like; so_far = q ∙ skip e d r o l.low (omega (arith, l.high)) l.between }
      pass_with e d None o h q l = q ∙ skip e d m o h (omega arith) l ∙ with_over (cut_by g) e m m refl

      pub with_start : (e : ℕ) (r : Option ℕ) → e < m → LowestLike labels dead (get_or labels e 0) (e + 1) m r → Reaching g labels dead m e r
      with_start e r h l = pass_with e (e + 1) r (omega arith) (omega (arith, h)) refl l

      pub with_on : (e d : ℕ) (r : Option ℕ) → With g labels dead m e d → cut_by g (e ∷ (d ∷ [])) ≡ false → LowestLike labels dead (get_or labels d 0) (d + 1) m r → Reaching g labels dead m e r
      with_on e d r w t l = pass_with e (d + 1) r (omega (arith, w.above)) (omega (arith, w.high)) (w.so_far ∙ with_next (cut_by g) e d m w.high t)
          (subst (λ (x : ℕ). LowestLike labels dead x (d + 1) m r) w.like.1 l)
