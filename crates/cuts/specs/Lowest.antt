-- What the parts of the search for the lowest cut answer.
use Rattle.std.specs.Prelude.{◌≡◌, Bool, false, ◌&&◌, List, [], ◌∷◌, ℕ, ◌+◌, ◌-◌, ◌/◌, ◌≤◌, ◌<◌, length, get_or, Option, Some, None}
use Rattle.std.proofs.Math.Option.{none, some}
use Rattle.std.proofs.Math.Option as meaning
use Rattle.connectivity.specs.Lists.{range, all}
use Rattle.connectivity.specs.Plan.{Plan, graph, Limits}
use Rattle.connectivity.specs.Graph.{Graph, Edge, is_edge}
use Rattle.connectivity.specs.Cut.{disconnects, singles, pairs_with, pairs, first_of}
use Rattle.labels.specs.Label.{Balanced}
use Rattle.connectivity.specs.Admission.{Admitted}
use Rattle.graph.specs.Marks.{read}
use Rattle.cuts.specs.declared.lowest.Lowest.{Lowest}

-- a set of the graph's edges that disconnects
unfoldable pub cut_by : Graph → List ℕ → Bool
cut_by g c = all (is_edge g) c && disconnects g c

-- the labels hide no cut of one edge, and none of two
abbrev pub ShowsOne : Graph → List ℕ → Type 0
ShowsOne g labels = (e : ℕ) → Edge g e → (get_or labels e 0 ≡ 0 → ⊥) → disconnects g (e ∷ []) ≡ false

abbrev pub ShowsTwo : Graph → List ℕ → Type 0
ShowsTwo g labels = (e d : ℕ) → e < d → Edge g e → Edge g d → (get_or labels e 0 ≡ get_or labels d 0 → ⊥) → disconnects g (e ∷ (d ∷ [])) ≡ false

-- what the searches for one edge and for two ask
pub record Shown (p : Plan) (labels : List ℕ) (m : ℕ) : Type 0 where
  pub edges : m ≡ length p.ends / 2
  pub room : m ≤ length labels
  pub one : ShowsOne (graph p) labels

pub record ShownBoth (p : Plan) (labels : List ℕ) (m : ℕ) : Type 0 where
  pub shown : Shown p labels m
  pub two : ShowsTwo (graph p) labels

-- the set of an edge that was found, if one was; that of e and such an edge
abbrev pub one_told : Option ℕ → meaning.Option (List ℕ)
one_told (Some e) = some (e ∷ [])
one_told None = none

abbrev pub two_told : ℕ → Option ℕ → meaning.Option (List ℕ)
two_told e (Some d) = some (e ∷ (d ∷ []))
two_told e None = none

-- the first of the sets of one edge; of those of e and a higher one; of two
abbrev pub first_one : Graph → ℕ → meaning.Option (List ℕ)
first_one g m = first_of (cut_by g) (singles (range 0 (m - 0)))

abbrev pub first_with : Graph → ℕ → ℕ → meaning.Option (List ℕ)
first_with g m e = first_of (cut_by g) (pairs_with e (range (e + 1) (m - (e + 1))))

abbrev pub first_two : Graph → ℕ → meaning.Option (List ℕ)
first_two g m = first_of (cut_by g) (pairs (range 0 (m - 0)))

-- how many edges, and which, unused places 0
pub data Told : Option Lowest → meaning.Option (List ℕ) → Type 0 where
  parted : Told (Some (record { count = 0; first = 0; second = 0 })) (some [])
  one : (e : ℕ) → Told (Some (record { count = 1; first = e; second = 0 })) (some (e ∷ []))
  two : (e d : ℕ) → Told (Some (record { count = 2; first = e; second = d })) (some (e ∷ (d ∷ [])))
  uncut : Told None none

-- a connected plan with labels that cancel around every vertex
pub record Whole (most : Limits) (p : Plan) (labels : List ℕ) : Type 0 where
  pub admitted : Admitted most p
  pub room : length p.ends / 2 ≤ length labels
  pub connected : disconnects (graph p) [] ≡ false
  pub balanced : Balanced (graph p) (read labels)
