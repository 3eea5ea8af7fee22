-- Places: two vertices have the same place exactly if they lie inside one link; so a test on places tells a Mader-path, and an exit.
use mathlib.Core.Path.{◌≡◌, refl, sym, ◌∙◌, subst}
use mathlib.Core.Logic.{◌⊎◌, inl, inr}
use mathlib.Core.List.{List, Memᴰ as In}
use Prim.Native.Nat.{ℕ, ◌≤◌}
use native.Mathlib.Omega.{arith}
use native.Mathlib.Decide.{dec_le}
use Rattle.connectivity.specs.Graph.{Graph, Joins}
use Rattle.connectivity.specs.Reach.{Reach, here, over, ThreeEdgeConnected}
use Rattle.connectivity.specs.Walk.{Leg, Built, Branch}
use Rattle.connectivity.specs.Mader.{MaderPath}
use Rattle.connectivity.proofs.Reach.{joins_sym, reach_sym, closed_reach}
use Rattle.connectivity.proofs.Degree.{hits_from, in_degree}
use Rattle.connectivity.proofs.Stage.{Stage, Bare, bare_edge}
use Rattle.connectivity.proofs.Link.{link_bare}
use Rattle.connectivity.proofs.Grow.{Inside}
use Rattle.tree.specs.Tree.{Pointers, Above, same, higher, Tree, Back, Overs, Climb, Held}
use Rattle.tree.specs.State.{Places}
use Rattle.tree.proofs.Inside.{bare_ends, bare_first}
use Rattle.tree.proofs.Leaving.{exit_law}
use Rattle.tree.proofs.Step.{step, step_mader, step_at_lem}

module _ {g : Graph} {t : Pointers} {built : List ℕ} {place : ℕ → ℕ} (tree : Tree g t) (held : Held g t built) (filed : Places g t built place) where
  -- a built vertex that is no branch lies inside a link
  pub place_plain : {v : ℕ} → Built g built v → (Branch g built v → ⊥) → 2 ≤ place v
  place_plain {v} b n = go (dec_le 1 (place v)) (dec_le 2 (place v))
    where
      go : Dec (1 ≤ place v) → Dec (2 ≤ place v) → 2 ≤ place v
      go p (yes q) = q
      go (yes p) (no q) = absurd (n (filed.branch v (omega (arith, p, q))))
      go (no p) (no q) = absurd (filed.off v (omega (arith, p)) b)

  -- a way up at one place is a way over bare edges
  line_bare : {u v : ℕ} → Above g t u v → 2 ≤ place u → place u ≡ place v → Reach g (Bare g built) v u
  line_bare same h p = here
  line_bare {u} (higher {v = v} c a) h p =
      let q : place (t.parent v) ≡ place u = filed.between u (t.parent v) v a (higher c same) h p in
      let b = filed.built v (omega (arith, h, p)) in
      over (t.first v)
      (bare_edge (tree.joins v c) (held.upwards v c b) (filed.plain v (omega (arith, h, p))) (filed.plain (t.parent v) (omega (arith, h, q))))
      (tree.joins v c) (line_bare a h (sym q))

  -- vertices at one place lie inside one link
  pub place_inside : {u v : ℕ} → 2 ≤ place u → place u ≡ place v → Inside g built u v
  place_inside {u} {v} h p = elim (filed.line u v h p) [
    | inl a ↦ reach_sym (line_bare a h p)
    | inr a ↦ line_bare a (omega (arith, h, p)) (sym p)
  ]

  -- and the other way round: a bare edge keeps the place
  bare_place : (e u v : ℕ) → Bare g built e → Joins g e u v → place u ≡ place v
  bare_place e u v b j =
      let (n, m) = bare_ends j b in
      let hu = place_plain (in_degree g u b.0 (hits_from j)) n in
      let hv = place_plain (in_degree g v b.0 (hits_from (joins_sym j))) m in
      elim (bare_first tree held j b) [
        | inl (c, p) ↦ filed.kept u c hu (subst (λ (y : ℕ). 2 ≤ place y) p hv) ∙ sym (subst (λ (y : ℕ). place v ≡ place y) p refl)
        | inr (c, p) ↦ subst (λ (y : ℕ). place u ≡ place y) p refl ∙ sym (filed.kept v c hv (subst (λ (y : ℕ). 2 ≤ place y) p hu))
      ]

  pub inside_place : {u v : ℕ} → Inside g built u v → place u ≡ place v
  inside_place {u} r = closed_reach (λ v. place u ≡ place v) (λ e x y b j p. p ∙ bare_place e x y b j) r refl

  -- the test: a step from a branch, or to another place, is a Mader-path
  pub place_mader : {f s w x : ℕ} {legs : List Leg} → Back g t f s w → (In f built → ⊥) → Built g built s → Climb g t (Built g built) w legs x
      → (place s ≡ 1) ⊎ (place s ≡ place x → ⊥) → MaderPath g built s (step f s legs) x
  place_mader {f} {s} {w} {x} b n h k test = step_mader tree held b n h k
      (λ p. elim test [ inl q ↦ filed.branch s q | inr m ↦ absurd (m (subst (λ (y : ℕ). place s ≡ place y) p refl)) ])
      (λ m o l. elim test [ inl q ↦ m (filed.branch s q) | inr r ↦ r (inside_place (link_bare l)) ])

  -- the law of the exit: not all of the edges at one place that are not built have both ends of the step over them there
  pub exit_places : {over : ℕ → ℕ} {p : ℕ} → ThreeEdgeConnected g → Overs g t over → Stage g built → 2 ≤ place p
      → ((v e u s w x : ℕ) (legs : List Leg) → place v ≡ place p → Joins g e v u → (In e built → ⊥) → Back g t (over e) s w
      → Climb g t (Built g built) w legs x → (place s ≡ place p) × (place x ≡ place p))
      → ⊥
  exit_places {over} {p} three overs stage h none = exit_law three tree overs held stage (filed.built p (omega (arith, h))) (filed.plain p h)
      (λ v e u s w x legs i j n b k. let r = none v e u s w x legs (sym (inside_place i)) j n b k in
      (place_inside h (sym r.0), place_inside h (sym r.1)))

  -- a step over an edge at a vertex inside a link, one of whose ends is at another place, is a Mader-path
  pub exit_place_mader : {over : ℕ → ℕ} {v e u s w x : ℕ} {legs : List Leg} → Overs g t over → 2 ≤ place v → Joins g e v u → (In e built → ⊥)
      → Back g t (over e) s w → Climb g t (Built g built) w legs x → (place s ≡ place v → place x ≡ place v → ⊥)
      → MaderPath g built s (step (over e) s legs) x
  exit_place_mader {over} {v} {e} {u} {s} {w} {x} overs h j n b k out =
      let a = step_at_lem tree held overs j n b k (filed.built v (omega (arith, h))) in
      place_mader b a.new a.begins k (inr (λ q. elim a.at [
        | inl r ↦ let z : place s ≡ place v = subst (λ (y : ℕ). place s ≡ place y) r refl in out z (sym q ∙ z)
        | inr r ↦ let z : place x ≡ place v = subst (λ (y : ℕ). place x ≡ place y) r refl in out (q ∙ z) z
      ]))
