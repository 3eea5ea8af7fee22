-- Cuts of at most two edges: which one is the lowest, and how it is found.
use Rattle.std.specs.Prelude.{◌≡◌, ◌⊎◌, Bool, not, cond, ◌&&◌, ◌||◌, ℕ, zero, suc, ◌≤◌, ◌<◌, eqb, length}
use mathlib.Core.List.{List, [], ◌∷◌, ◌++◌, Memᴰ as In}
use Rattle.std.proofs.Math.Option.{Option, none, some}
use Rattle.connectivity.specs.Lists.{Ordered, any, keep, mem, empty}
use Rattle.connectivity.specs.Graph.{Graph, Edge, vertices, edges}
use Rattle.connectivity.specs.Reach.{Connected, Disconnects}

-- What is the lowest cut.

-- 01: a set of tabs, in ascending order
pub record EdgeSet (g : Graph) (l : List ℕ) : Type 0 where
  pub ascending : Ordered ◌<◌ l
  pub members : (e : ℕ) → In e l → Edge g e

-- 01: a weak verdict's tabs: two at most, ascending, the plan's, and they part the sheet
pub record Cut (g : Graph) (l : List ℕ) : Type 0 where
  pub set : EdgeSet g l
  pub small : length l ≤ 2
  pub parts : Disconnects g l

-- the first place at which two lists differ has the lower number in the first list
pub data Lower : List ℕ → List ℕ → Type 0 where
  here : {e d : ℕ} {k l : List ℕ} → e < d → Lower (e ∷ k) (d ∷ l)
  next : {e d : ℕ} {k l : List ℕ} → e ≡ d → Lower k l → Lower (e ∷ k) (d ∷ l)

-- 01: fewer tabs, or as many and the first tab is lower, then the second
abbrev pub Before : List ℕ → List ℕ → Type 0
Before k l = (length k < length l) ⊎ ((length k ≡ length l) × Lower k l)

-- 01: what our weak verdict names: the fewest edges, and of those sets the lowest
pub record LowestCut (g : Graph) (l : List ℕ) : Type 0 where
  pub cut : Cut g l
  pub lowest : (other : List ℕ) → EdgeSet g other → Before other l → Connected g other

-- How it is found.

-- a live edge joins v to a vertex that has been seen
unfoldable pub near : Graph → List ℕ → List ℕ → ℕ → Bool
near g live seen v =
    any (λ e. (eqb (g.left e) v && mem (g.right e) seen) || (eqb (g.right e) v && mem (g.left e) seen)) live

-- what is left of `rest` once everything that hangs on `seen` over live edges has been taken out, round by round
unfoldable pub spread : Graph → List ℕ → ℕ → List ℕ → List ℕ → List ℕ
spread g live zero seen rest = rest
spread g live (suc k) seen rest =
    let new = keep (near g live seen) rest in
    let left = spread g live k (new ++ seen) (keep (λ v. not (near g live seen v)) rest) in
    cond (empty new) rest left

-- the vertices that u does not reach over live edges
unfoldable pub unreached : Graph → (ℕ → Bool) → ℕ → List ℕ
unreached g live u =
    let rest = keep (λ v. not (eqb u v)) (vertices g) in
    spread g (keep live (edges g)) (length rest) (u ∷ []) rest

-- the same from the first of some vertices
unfoldable pub unreached_from : Graph → (ℕ → Bool) → List ℕ → List ℕ
unreached_from g live [] = []
unreached_from g live (u ∷ others) = unreached g live u

-- the vertices that the lowest one does not reach once the edges of `cut` are removed
unfoldable pub cut_off : Graph → List ℕ → List ℕ
cut_off g cut = unreached_from g (λ e. not (mem e cut)) (vertices g)

-- 01: the set parts the sheet, computed
unfoldable pub disconnects : Graph → List ℕ → Bool
disconnects g cut = not (empty (cut_off g cut))

-- the sets of one edge, in order
unfoldable pub singles : List ℕ → List (List ℕ)
singles [] = []
singles (e ∷ l) = (e ∷ []) ∷ singles l

-- the sets of e and one of some edges, in order
unfoldable pub pairs_with : ℕ → List ℕ → List (List ℕ)
pairs_with e [] = []
pairs_with e (d ∷ l) = (e ∷ d ∷ []) ∷ pairs_with e l

-- the sets of two edges, in order
unfoldable pub pairs : List ℕ → List (List ℕ)
pairs [] = []
pairs (e ∷ l) = pairs_with e l ++ pairs l

-- the first of some sets that passes a test
unfoldable pub first_of : (List ℕ → Bool) → List (List ℕ) → Option (List ℕ)
first_of f [] = none
first_of f (c ∷ l) = let next = first_of f l in cond (f c) (some c) next

-- 01: the fewest tabs whose loss parts the sheet, the lowest such set; none where it takes more than two
unfoldable pub lowest_cut : Graph → Option (List ℕ)
lowest_cut g = first_of (disconnects g) ([] ∷ (singles (edges g) ++ pairs (edges g)))
