-- An example: two vertices and three edges between them. What the laws ask of a tree can be had.
use mathlib.Core.Path.{◌≡◌, refl, sym, subst}
use mathlib.Core.Logic.{inl, inr}
use mathlib.Core.Bool.{true, cond}
use mathlib.Core.List.{[], ◌∷◌}
use Prim.Native.Nat.{ℕ, ◌<◌}
use native.Mathlib.Omega.{arith}
use native.Mathlib.Decide.{ℕ_discrete}
use lib.Dec.{eqb}
use borrow.Author.Tests.{ne_eqb}
use Rattle.connectivity.specs.Graph.{Graph, Vertex, Joins}
use Rattle.connectivity.proofs.Reach.{joins_sym}
use Rattle.connectivity.proofs.Legs.{leg}
use Rattle.tree.specs.Tree.{Pointers, Child, Above, same, higher, Tree, Passing, Highest, Overs, there, on}
use Rattle.tree.proofs.Above.{above_cases}
use Rattle.tree.proofs.Step.{step}
use Rattle.tree.specs.State.{Along}
use Rattle.tree.proofs.Opening.{along_begin}

abbrev bond : Graph
bond = record { bound = 2; kept = λ v. true; size = 3; left = λ e. 0; right = λ e. 1 }

-- edge 0 is in the tree
abbrev stem : Pointers
stem = record { root = 0; parent = λ v. 0; first = λ v. 0; rank = λ v. v }

abbrev across : ℕ → ℕ
across e = cond (eqb e 0) 1 e

vertex : {v : ℕ} → v < 2 → Vertex bond v
vertex h = record { below = h; kept = tt }

joined : {e : ℕ} → e < 3 → Joins bond e 0 1
joined h = record { edge = record { below = h; left = vertex (omega arith); right = vertex (omega arith) }; ends = inl (refl, refl) }

one_child : Child bond stem 1
one_child = record { vertex = vertex (omega arith); other = λ p. omega (arith, p) }

child_is : {v : ℕ} → Child bond stem v → v ≡ 1
child_is {v} c = elim (ℕ_discrete v 0) [ yes p ↦ absurd (c.other p) | no n ↦ omega (arith, c.vertex.below, n) ]

under : Above bond stem 0 1
under = higher one_child same

pub bond_tree : Tree bond stem
bond_tree = record {
  start = vertex (omega arith);
  joins = λ v c. subst (λ (x : ℕ). Joins bond 0 x 0) (sym (child_is c)) (joins_sym (joined (omega arith)));
  falls = λ v c. omega (arith, child_is c);
  upright = λ e u v j. elim j.ends [
    | inl (p, q) ↦ inl (subst (λ (x : ℕ). Above bond stem x v) p (subst (Above bond stem 0) q under))
    | inr (p, q) ↦ inr (subst (λ (x : ℕ). Above bond stem x u) p (subst (Above bond stem 0) q under))
  ];
}

-- edges 1 and 2 lead past edge 0
past : (e : ℕ) → e < 3 → (e ≡ 0 → ⊥) → Passing bond stem 1 e 0 1
past e h n = record { back = record { joins = joined h; above = under; off = λ v c p. n p }; below = same; above = same }

pub bond_overs : Overs bond stem across
bond_overs = record {
  itself = λ e h off. rw (ne_eqb e 0 (λ p. off 1 one_child p)) refl;
  highest = λ c h. subst (λ (v : ℕ). Highest bond stem v 1) (sym (child_is h)) top;
}
  where
    top : Highest bond stem 1 1
    top = record {
      upper = 0;
      lower = 1;
      passing = past 1 (omega arith) (λ p. omega (arith, p));
      highest = λ d s w k. elim (above_cases k.above) [ inl p ↦ subst (Above bond stem 0) (sym p) same | inr r ↦ absurd (r.0.other refl) ];
    }

-- the first three walks: over edge 0, over edge 1, over edge 2
pub bond_along : Along bond stem (step 2 0 [] ∷ step 1 0 [] ∷ (leg 0 1 ∷ []) ∷ [])
bond_along = along_begin bond_tree one_child (past 1 (omega arith) (λ p. omega (arith, p))) (past 2 (omega arith) (λ p. omega (arith, p)))
    (λ p. omega (arith, p)) (there same) (there refl) (on one_child (λ p. omega (arith, p)) (there refl))
