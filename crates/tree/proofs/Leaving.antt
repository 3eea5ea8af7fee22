-- The law of the exit: out of the inside of a link leads a step over an edge that is not built, at one of its vertices.
use mathlib.Core.Path.{sym, ◌∙◌, subst}
use mathlib.Core.Logic.{inl, inr}
use mathlib.Core.List.Memᴰ.{head as first}
use mathlib.Core.List.Memᴰ.{tail as later}
use mathlib.Core.List.{List, [], ◌∷◌, Memᴰ as In}
use Prim.Native.Nat.{ℕ}
use native.Mathlib.Omega.{arith}
use native.Mathlib.Decide.{dec_le}
use Rattle.connectivity.specs.Graph.{Graph, Joins}
use Rattle.connectivity.specs.Reach.{Reach, here, Without, ThreeEdgeConnected}
use Rattle.connectivity.specs.Walk.{Leg, inner, edges_of, degree, Built, Branch}
use Rattle.connectivity.specs.Link.{SameLink}
use Rattle.connectivity.proofs.Lists.{in_dec}
use Rattle.connectivity.proofs.Reach.{joins_sym, joins_vertex, closed_reach}
use Rattle.connectivity.proofs.Degree.{hits_from, in_degree, walk_from}
use Rattle.connectivity.proofs.Stage.{Stage}
use Rattle.connectivity.proofs.Link.{lead, some_link, link_full, link_closed, link_bare, not_outer}
use Rattle.connectivity.proofs.Legs.{leg, final}
use Rattle.connectivity.proofs.Grow.{Inside, inside_built}
use Rattle.tree.specs.Tree.{Pointers, Above, Tree, OffTree, Back, Overs, Climb, there, on, Held}
use Rattle.tree.proofs.Above.{first_leads, tree_cases, climb_here, climb_one, climb_below, climb_last, climb_part, climb_join}
use Rattle.tree.proofs.Inside.{built_is_vertex, built_up, first_new, climb_built, inside_between}

-- no edge that is not built, at a vertex inside the link of p, has a step over it that leads out: both ends of the step lie inside
abbrev pub Closed : Graph → Pointers → (ℕ → ℕ) → List ℕ → ℕ → Type 0
Closed g t over built p = (v e u s w x : ℕ) (legs : List Leg) → Inside g built p v → Joins g e v u → (In e built → ⊥)
    → Back g t (over e) s w → Climb g t (Built g built) w legs x → Inside g built p s × Inside g built p x

-- v hangs on the inside of the link of p: the first built vertex on its way up lies there
record Hangs (g : Graph) (t : Pointers) (built : List ℕ) (p v : ℕ) : Type 0 where
  legs : List Leg
  to : ℕ
  climb : Climb g t (Built g built) v legs to
  inside : Inside g built p to

module _ {g : Graph} {t : Pointers} {over : ℕ → ℕ} {built : List ℕ} {p : ℕ} (tree : Tree g t) (held : Held g t built) (overs : Overs g t over)
    (l : SameLink g built p p) (b : Built g built p) (none : Closed g t over built p) where
  within : {v : ℕ} → Inside g built p v → Hangs g t built p v
  within {v} i = record { legs = []; to = v; climb = there (inside_built b i); inside = i }

  -- a built vertex that hangs there lies there
  inside_if : {v : ℕ} → Built g built v → Hangs g t built p v → Inside g built p v
  inside_if h k = subst (Inside g built p) (climb_here h k.climb) k.inside

  -- the step over an edge that is not in the tree begins with the edge itself
  itself : {e u v s w : ℕ} → Joins g e u v → (In e built → ⊥) → Inside g built p u → Back g t e s w → Inside g built p s × Hangs g t built p w
  itself {e} {u} {v} {s} {w} j n i h =
      let (legs, x, k) = climb_built tree held (joins_vertex (joins_sym h.joins)) in
      let r = none u e v s w x legs i j n (subst (λ (f : ℕ). Back g t f s w) (sym (overs.itself e j.edge h.off)) h) k in
      (r.0, record { legs = legs; to = x; climb = k; inside = r.1 })

  -- an edge that is not built, from what hangs there down
  down : {e u v : ℕ} → Joins g e u v → (In e built → ⊥) → Above g t u v → Hangs g t built p u → Hangs g t built p v
  down {e} {u} {v} j n a h = elim (dec_le 1 (degree g built u)) [
    | no m ↦ let r = climb_join (built_up tree held) h.climb a m in record { legs = r.0; to = h.to; climb = r.1; inside = h.inside }
    | yes k ↦ elim (tree_cases tree j) [
      | inl (inl (c, q)) ↦ absurd (n (subst (λ (d : ℕ). In d built) (sym q) (held.upwards u c k)))
      | inl (inr (c, q)) ↦
          let up = first_leads tree c q (joins_sym j) in
          let new : Built g built v → ⊥ = λ m. n (subst (λ (d : ℕ). In d built) (sym q) (held.upwards v c m)) in
          record { legs = leg (t.first v) v ∷ []; to = t.parent v; climb = on c new (there (subst (Built g built) up k)); inside = subst (Inside g built p) up (inside_if k h) }
      | inr off ↦ (itself j n (inside_if k h) (record { joins = j; above = a; off = off })).1
    ]
  ]

  -- an edge that is not built and not in the tree, from below an edge at x, inside, up to a built vertex v: `over` there ends above v, and inside
  past : {e u v : ℕ} → Joins g e u v → OffTree g t e → Above g t v u → Built g built v → (Built g built u → ⊥) → Hangs g t built p u
      → Inside g built p v
  past {e} {u} {v} j off a k m h =
      let c = climb_last m h.climb in
      let d = t.first c.at in
      let top = overs.highest c.at c.child in
      let f = top.passing.back in
      let (legs, x, q) = climb_built tree held (joins_vertex (joins_sym f.joins)) in
      let at : Joins g d h.to c.at = subst (λ (y : ℕ). Joins g d y c.at) c.leads (joins_sym (tree.joins c.at c.child)) in
      let r = none h.to d c.at top.upper top.lower x legs h.inside at (first_new tree held c.child c.new) f q in
      let up = climb_below h.climb a k in
      let beside = top.highest e v u (record {
        back = record { joins = joins_sym j; above = a; off = off };
        below = c.above;
        above = subst (Above g t v) (sym c.leads) up;
      }) in
      inside_between tree held l r.0 beside up h.inside

  -- an edge that is not built, up
  upward : {e u v : ℕ} → Joins g e u v → (In e built → ⊥) → Above g t v u → Hangs g t built p u → Hangs g t built p v
  upward {e} {u} {v} j n a h = elim (dec_le 1 (degree g built v)) [
    | no m ↦ let r = climb_part (built_up tree held) h.climb a m in record { legs = r.0; to = h.to; climb = r.1; inside = h.inside }
    | yes k ↦ elim (tree_cases tree j) [
      | inl (inl (c, q)) ↦
          let up = first_leads tree c q j in
          let new : Built g built u → ⊥ = λ m. n (subst (λ (d : ℕ). In d built) (sym q) (held.upwards u c m)) in
          within (subst (Inside g built p) (climb_one new (subst (Built g built) up k) h.climb ∙ sym up) h.inside)
      | inl (inr (c, q)) ↦ absurd (n (subst (λ (d : ℕ). In d built) (sym q) (held.upwards v c k)))
      | inr off ↦ elim (dec_le 1 (degree g built u)) [
        | yes m ↦ within (itself j n (inside_if m h) (record { joins = joins_sym j; above = a; off = off })).0
        | no m ↦ within (past j off a k m h)
      ]
    ]
  ]

  -- so an edge that leads out of what hangs there is one of the link's outer two
  hangs_step : (e u v : ℕ) → (In e (edges_of l.legs) → In v (inner l.legs)) → Joins g e u v → Hangs g t built p u → Hangs g t built p v
  hangs_step e u v f j h = elim (in_dec e built) [
    | yes i ↦
        let k = link_closed l.link l.here (inside_if (in_degree g u i (hits_from j)) h) in
        within (link_bare (record { a = l.a; legs = l.legs; b = l.b; link = l.link; here = l.here; there = f (link_full l.link u e k i (hits_from j)) }))
    | no n ↦ elim (tree.upright e u v j) [ inl a ↦ down j n a h | inr a ↦ upward j n a h ]
  ]

-- out of the link of p leads a step over an edge at one of its vertices: else the link's outer two edges would cut off what hangs on its inside
pub exit_law : {g : Graph} {t : Pointers} {over : ℕ → ℕ} {built : List ℕ} {p : ℕ} → ThreeEdgeConnected g → Tree g t → Overs g t over
    → Held g t built → Stage g built → Built g built p → (Branch g built p → ⊥) → Closed g t over built p → ⊥
exit_law {g} {t} {over} {built} {p} three tree overs held s b n none =
    let l = some_link p s b n in
    let k = l.link.walk in
    let c = lead l.legs in
    let d = final l.legs in
    let way : Reach g (Without (c ∷ d ∷ [])) p l.a = three.still (c ∷ d ∷ []) (omega arith) p l.a (built_is_vertex tree held b) (walk_from k) in
    let at_a : Hangs g t built p l.a = closed_reach (Hangs g t built p)
    (λ e u v m j q. hangs_step tree held overs l b none e u v
    (λ i. not_outer k i (hits_from (joins_sym j)) (λ r. m (first r)) (λ r. m (later (first r)))) j q)
    way (within tree held overs l b none here) in
    let a-inside = link_closed l.link l.here (inside_if tree held overs l b none (omega (arith, l.link.from)) at_a) in
    omega (arith, l.link.from, l.link.two l.a a-inside)
