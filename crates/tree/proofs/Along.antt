-- The construction along the tree: what the steps so far are, what they keep, and their places.
use mathlib.Core.Path.{◌≡◌, refl, sym, subst}
use mathlib.Core.Logic.{◌⊎◌, inl, inr}
use mathlib.Core.List.{List, ◌∷◌, ◌++◌, Memᴰ as In}
use Prim.Native.Nat.{ℕ, ◌+◌}
use native.Mathlib.Omega.{arith}
use native.Mathlib.Decide.{ℕ_discrete, dec_le}
use Rattle.connectivity.specs.Graph.{Graph, Edge, Joins}
use Rattle.connectivity.specs.Reach.{ThreeEdgeConnected}
use Rattle.connectivity.specs.Walk.{Leg, froms, inner, edges_of, all_edges, degree, Built, Branch}
use Rattle.connectivity.specs.Mader.{MaderPath, mader, Builds, rows}
use Rattle.connectivity.proofs.Degree.{degree-append, start-degree, stop-degree, on_inner, inner_most, inner_least}
use Rattle.connectivity.proofs.Stage.{Stage}
use Rattle.connectivity.proofs.Sound.{stage}
use Rattle.connectivity.proofs.Link.{degree_two}
use Rattle.connectivity.proofs.Grow.{next_edge, all_branches}
use Rattle.tree.specs.Tree.{Pointers, Tree, Back, Climb}
use Rattle.tree.specs.Filed.{Filed}
use Rattle.tree.specs.State.{Along, Places}
use Rattle.tree.proofs.Step.{step, step_once, step_held}
use Rattle.tree.proofs.Splitting.{filed_map}

pub along_stage : {g : Graph} {t : Pointers} {walks : List (List Leg)} → Along g t walks → Stage g (all_edges walks)
along_stage a = stage a.steps a.once

-- one step more
pub along_step : {g : Graph} {t : Pointers} {walks : List (List Leg)} {f s w x : ℕ} {legs : List Leg} → Tree g t → Along g t walks
    → Back g t f s w → (In f (all_edges walks) → ⊥) → Climb g t (Built g (all_edges walks)) w legs x → MaderPath g (all_edges walks) s (step f s legs) x
    → Along g t (step f s legs ∷ walks)
along_step tree a b n k r = record {
  steps = mader a.steps r;
  once = step_once tree a.held b n r.begins k a.once;
  held = step_held tree a.held b n r.begins k (along_stage a);
}

-- when every edge is built, the steps build the graph
pub along_end : {g : Graph} {t : Pointers} {walks : List (List Leg)} → ThreeEdgeConnected g → Along g t walks
    → ((e : ℕ) → Edge g e → In e (all_edges walks)) → Builds g (rows walks)
along_end {walks = walks} three a every = record {
  walks = walks;
  numbers = refl;
  steps = a.steps;
  every = every;
  once = a.once;
  branches = all_branches three (along_stage a) every;
}

-- while some edge is not built, one that is not built has a built end
pub along_more : {g : Graph} {t : Pointers} {walks : List (List Leg)} → ThreeEdgeConnected g → Tree g t → Along g t walks
    → ((e v w : ℕ) → Joins g e v w → Built g (all_edges walks) v → In e (all_edges walks)) → (e : ℕ) → Edge g e → In e (all_edges walks)
along_more {t = t} three tree a f = next_edge three f t.root tree.start (omega (arith, a.held.rooted))

-- The places after a step.

module _ {g : Graph} {built : List ℕ} {u w : ℕ} {legs : List Leg} (stage : Stage g built) (r : MaderPath g built u legs w) where
  abbrev more : List ℕ
  more = edges_of legs ++ built

  sum : (v : ℕ) → degree g more v ≡ degree g (edges_of legs) v + degree g built v
  sum v = degree-append g (edges_of legs) built v

  -- the branches are the old ones and the ends
  pub mader_branch : (v : ℕ) → Branch g more v → (Branch g built v ⊎ (v ≡ u)) ⊎ (v ≡ w)
  mader_branch v h = elim (ℕ_discrete v u) [
    | yes p ↦ inl (inr p)
    | no n ↦ elim (ℕ_discrete v w) [
      | yes p ↦ inr p
      | no m ↦ elim (dec_le 3 (degree g built v)) [
        | yes b ↦ inl (inl b)
        | no k ↦ let i = on_inner v r.walk n m (omega (arith, sum v, h, k)) in
            absurd (r.fresh v i (omega (arith, sum v, h, inner_most v r.walk n m r.simple)))
      ]
    ]
  ]

  pub mader_branch_is : (v : ℕ) → (Branch g built v ⊎ (v ≡ u)) ⊎ (v ≡ w) → Branch g more v
  mader_branch_is v (inl (inl b)) = omega (arith, sum v, b)
  mader_branch_is v (inl (inr p)) = subst (Branch g more) (sym p) (omega (arith, sum u, start-degree r.walk, degree_two u stage r.begins))
  mader_branch_is v (inr p) = subst (Branch g more) (sym p) (omega (arith, sum w, stop-degree r.walk, degree_two w stage r.ends))

  -- what is built is what was, and the inner vertices
  pub mader_built : (v : ℕ) → Built g more v → Built g built v ⊎ In v (inner legs)
  mader_built v h = elim (dec_le 1 (degree g built v)) [
    | yes b ↦ inl b
    | no n ↦ inr (on_inner v r.walk (λ p. n (subst (Built g built) (sym p) r.begins)) (λ p. n (subst (Built g built) (sym p) r.ends)) (omega (arith, sum v, h, n)))
  ]

  pub mader_built_is : (v : ℕ) → Built g built v ⊎ In v (inner legs) → Built g more v
  mader_built_is v (inl b) = omega (arith, sum v, b)
  mader_built_is v (inr i) = omega (arith, sum v, inner_least v r.walk i)

-- the ends made branches, and the inside filed, the places are those of what is built with the step
pub places_step : {g : Graph} {t : Pointers} {built : List ℕ} {place : ℕ → ℕ} {f s x : ℕ} {legs : List Leg} → Stage g built
    → MaderPath g built s (step f s legs) x
    → Filed g t (λ v. Built g built v ⊎ In v (froms legs)) (λ v. (Branch g built v ⊎ (v ≡ s)) ⊎ (v ≡ x)) place
    → Places g t (edges_of (step f s legs) ++ built) place
places_step stage r h = filed_map (mader_built_is stage r) (mader_built stage r) (mader_branch_is stage r) (mader_branch stage r) h
