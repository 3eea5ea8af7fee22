-- The construction along the tree never sticks, and how a program sees it: what it looks at inside a link has an exit.
use mathlib.Core.Path.{◌≡◌, sym, ◌∙◌}
use mathlib.Core.Logic.{◌⊎◌, inl, inr}
use mathlib.Core.List.{List, Memᴰ as In}
use Prim.Native.Nat.{ℕ, suc, ◌≤◌}
use native.Mathlib.Omega.{arith}
use native.Mathlib.Decide.{ℕ_discrete, dec_le}
use Rattle.connectivity.specs.Graph.{Graph, Edge, Joins}
use Rattle.connectivity.specs.Reach.{ThreeEdgeConnected}
use Rattle.connectivity.specs.Walk.{Leg, all_edges, degree, Built, Branch}
use Rattle.connectivity.specs.Mader.{MaderPath}
use Rattle.connectivity.proofs.Lists.{in_dec}
use Rattle.connectivity.proofs.Reach.{joins_sym, joins_vertex}
use Rattle.connectivity.proofs.Stage.{Stage}
use Rattle.connectivity.proofs.Link.{some_link}
use Rattle.connectivity.proofs.Grow.{Inside, inside_built}
use Rattle.tree.specs.Tree.{Pointers, Above, Tree, Back, Overs, Climb, Held}
use Rattle.tree.specs.State.{Along, Places}
use Rattle.tree.specs.Filed.{Tips, Belows}
use Rattle.tree.proofs.Inside.{inside_dec, built_up, climb_built}
use Rattle.tree.proofs.Leaving.{exit_law}
use Rattle.tree.proofs.Step.{step, step_at_lem, over_back, exit_mader, branch_mader}
use Rattle.tree.proofs.Filing.{exit_places, exit_place_mader}
use Rattle.tree.proofs.Under.{ends_below, from_below}
use Rattle.tree.proofs.Along.{along_stage, along_more}

-- Where no step along the tree is a Mader-path, every edge is built.

module _ {g : Graph} {t : Pointers} {over : ℕ → ℕ} {walks : List (List Leg)} (three : ThreeEdgeConnected g) (tree : Tree g t) (overs : Overs g t over)
    (a : Along g t walks)
    (stuck : (f s w x : ℕ) (legs : List Leg) → Back g t f s w → (In f (all_edges walks) → ⊥) → Climb g t (Built g (all_edges walks)) w legs x
    → MaderPath g (all_edges walks) s (step f s legs) x → ⊥) where
  abbrev built : List ℕ
  built = all_edges walks

  -- a step over an edge at a vertex inside a link stays in the link
  stays : {p : ℕ} → Built g built p → (Branch g built p → ⊥) → (v e u s w x : ℕ) (legs : List Leg) → Inside g built p v → Joins g e v u
      → (In e built → ⊥) → Back g t (over e) s w → Climb g t (Built g built) w legs x → Built g built v → Inside g built p s × Inside g built p x
  stays {p} hp n v e u s w x legs i j m b k hv = let l = some_link p (along_stage a) hp n in go (inside_dec l s) (inside_dec l x)
    where
      out : (Inside g built p s → Inside g built p x → ⊥) → ⊥
      out o = stuck (over e) s w x legs b (step_at_lem tree a.held overs j m b k hv).new k (exit_mader tree a.held overs j m b k hp i o)

      go : Dec (Inside g built p s) → Dec (Inside g built p x) → Inside g built p s × Inside g built p x
      go (yes q) (yes r) = (q, r)
      go (yes q) (no r) = absurd (out (λ y z. r z))
      go (no q) r = absurd (out (λ y z. q y))

  -- so every built vertex is a branch
  branches : (v : ℕ) → Built g built v → Branch g built v
  branches v h = elim (dec_le 3 (degree g built v)) [
    | yes b ↦ b
    | no n ↦ absurd (exit_law three tree overs a.held (along_stage a) h n
        (λ y e u s w x legs i j m b k. stays h n y e u s w x legs i j m b k (inside_built h i)))
  ]

  -- and every edge at one is built
  at_built : (e v u : ℕ) → Joins g e v u → Built g built v → In e built
  at_built e v u j h = elim (in_dec e built) [
    | yes i ↦ i
    | no n ↦
        let (s, w, b) = over_back tree overs j in
        let (legs, x, k) = climb_built tree a.held (joins_vertex (joins_sym b.joins)) in
        absurd (stuck (over e) s w x legs b (step_at_lem tree a.held overs j n b k h).new k (branch_mader tree a.held overs j n b k branches h))
  ]

  pub never_stuck : (e : ℕ) → Edge g e → In e built
  never_stuck = along_more three tree a at_built

-- The program's test at an edge, without a climb: the upper end of the edge that the step begins with is at another place, or its lower end hangs
-- on the built child below the link.

module _ {g : Graph} {t : Pointers} {over : ℕ → ℕ} {built : List ℕ} {place below : ℕ → ℕ} {m top bottom : ℕ} (tree : Tree g t) (held : Held g t built)
    (overs : Overs g t over) (filed : Places g t built place) (h : Belows g t (λ v. Built g built v) place below)
    (tips : Tips g t place m top bottom) (large : 2 ≤ m) where
  -- not every edge of the link fails the test
  pub exit_there : ThreeEdgeConnected g → Stage g built
      → ((v e u s w : ℕ) → place v ≡ m → Joins g e v u → (In e built → ⊥) → Back g t (over e) s w
      → (place s ≡ m) × ((c : ℕ) → below bottom ≡ suc c → Above g t c w → ⊥))
      → ⊥
  exit_there three stage none = exit_places tree held filed {p = bottom} three overs stage (omega (arith, large, tips.has_bottom))
      (λ v e u s w x legs p j n b k. let (q, r) = none v e u s w (p ∙ tips.has_bottom) j n b in
      (q ∙ sym tips.has_bottom, inside w x legs k s b.above q r ∙ sym tips.has_bottom))
    where
      inside : (w x : ℕ) (legs : List Leg) → Climb g t (Built g built) w legs x → (s : ℕ) → Above g t s w → place s ≡ m
          → ((c : ℕ) → below bottom ≡ suc c → Above g t c w → ⊥) → place x ≡ m
      inside w x legs k s a q r = elim (ℕ_discrete (place x) m) [
        | yes e ↦ e
        | no n ↦ let (c, e, d) = ends_below tree (built_up tree held) filed h tips large a q k n in absurd (r c e d)
      ]

  -- and where one passes, the step over it is a Mader-path
  pub exit_passes : {v e u s w x : ℕ} {legs : List Leg} → place v ≡ m → Joins g e v u → (In e built → ⊥) → Back g t (over e) s w
      → Climb g t (Built g built) w legs x → (place s ≡ m → ⊥) ⊎ ((c : ℕ) × (below bottom ≡ suc c) × Above g t c w)
      → MaderPath g built s (step (over e) s legs) x
  exit_passes {v} {x = x} p j n b k test = exit_place_mader tree held filed overs (omega (arith, large, p)) j n b k (λ q r. elim test [
    | inl o ↦ o (q ∙ p)
    | inr (c, e, d) ↦ from_below tree (built_up tree held) filed h tips large b.above (q ∙ p) k e d (r ∙ p)
  ])
