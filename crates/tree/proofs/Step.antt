-- A step along the tree: an edge that is not in it, from its built upper end, and the way up from its lower end to the first built vertex. What
-- is built with it is held as before, and it is a Mader-path out of a link, or where every built vertex is a branch.
use mathlib.Core.Path.{◌≡◌, sym, ◌∙◌, subst}
use mathlib.Core.Logic.{◌⊎◌, inl, inr}
use mathlib.Core.List.Memᴰ
use mathlib.Core.List.Memᴰ.{append_cases as in-cases}
use mathlib.Core.List.Memᴰ.{append_left as in_left}
use mathlib.Core.List.Memᴰ.{append_right as in_right}
use mathlib.Core.List.Memᴰ.{cases_cons as in-cons}
use mathlib.Core.List.Memᴰ.{tail as later}
use mathlib.Core.List.{List, ◌∷◌, ◌++◌, Memᴰ as In}
use Prim.Native.Nat.{ℕ, ◌+◌}
use native.Mathlib.Omega.{arith}
use native.Mathlib.Decide.{dec_le}
use Rattle.connectivity.specs.Lists.{Distinct, one}
use Rattle.connectivity.specs.Graph.{Graph, Edge, Joins}
use Rattle.connectivity.specs.Walk.{Leg, Walk, froms, edges_of, degree, Built, Branch}
use Rattle.connectivity.specs.Link.{SameLink}
use Rattle.connectivity.specs.Mader.{MaderPath}
use Rattle.connectivity.proofs.Reach.{joins_sym, reach_trans, reach_sym}
use Rattle.connectivity.proofs.Distinct.{join_distinct}
use Rattle.connectivity.proofs.Degree.{degree-append, hits_from, hits_on, in_degree, on}
use Rattle.connectivity.proofs.Stage.{Stage}
use Rattle.connectivity.proofs.Link.{degree_two, link_bare}
use Rattle.connectivity.proofs.Legs.{leg}
use Rattle.connectivity.proofs.Grow.{Inside, inside_built}
use Rattle.tree.specs.Tree.{Pointers, Child, Above, Tree, Back, Overs, Climb, Held}
use Rattle.tree.proofs.Above.{first_leads, tree_cases, back_once, climb_end, climb_new, climb_here, climb_one, climb_part, climb_once, climb_first, climb_edge, climb_edges, climb_walk}
use Rattle.tree.proofs.Inside.{built_up, built_above}

-- the legs of a step over f from s
abbrev pub step : ℕ → ℕ → List Leg → List Leg
step f s legs = leg f s ∷ legs

module _ {g : Graph} {t : Pointers} {built : List ℕ} {f s w x : ℕ} {legs : List Leg} (tree : Tree g t) (held : Held g t built)
    (b : Back g t f s w) (new : In f built → ⊥) (hs : Built g built s) (k : Climb g t (Built g built) w legs x) where
  -- The walk.

  pub step_walk : Walk g s (step f s legs) x
  step_walk = climb_walk tree b.joins k

  -- its edges are not built
  step_new : (e : ℕ) → In e (edges_of (step f s legs)) → In e built → ⊥
  step_new e i m = elim (in-cons i) [
    | inl p ↦ new (Memᴰ.cast (sym p) m)
    | inr o ↦ let r = climb_edge tree k o in
        climb_new k r.2 (in_degree g r.0 (Memᴰ.cast (sym r.3) m) (hits_from (tree.joins r.0 r.1)))
  ]

  -- and all different
  pub step_once : Distinct built → Distinct (edges_of (step f s legs) ++ built)
  step_once d = join_distinct (edges_of (step f s legs))
      (one {x = f} (λ i. let r = climb_edge tree k i in b.off r.0 r.1 r.3) (climb_edges tree k)) d step_new

  -- it is a Mader-path under the conditions on its ends
  pub step_mader : (s ≡ x → Branch g built s) → ((Branch g built s → ⊥) → (Branch g built x → ⊥) → SameLink g built s x → ⊥)
      → MaderPath g built s (step f s legs) x
  step_mader c l = record {
    walk = step_walk;
    begins = hs;
    ends = climb_end k;
    fresh = λ v i. climb_new k i;
    simple = climb_once tree k;
    closed = c;
    links = l;
  }

  -- What is built with it.

  module _ (stage : Stage g built) where
    sum : (v : ℕ) → degree g (edges_of (step f s legs) ++ built) v ≡ degree g (edges_of (step f s legs)) v + degree g built v
    sum v = degree-append g (edges_of (step f s legs)) built v

    upper_branch : Branch g (edges_of (step f s legs) ++ built) s
    upper_branch = omega (arith, sum s, hits_from b.joins, degree_two s stage hs)

    cases : {e : ℕ} → In e (edges_of (step f s legs) ++ built)
        → (e ≡ f) ⊎ (((v : ℕ) × Child g t v × In v (froms legs) × (e ≡ t.first v)) ⊎ In e built)
    cases i = elim (in-cases (edges_of (step f s legs)) i) [
      | inl m ↦ elim (in-cons m) [ inl p ↦ inl p | inr o ↦ inr (inl (climb_edge tree k o)) ]
      | inr m ↦ inr (inr m)
    ]

    step_upwards : (v : ℕ) → Child g t v → Built g (edges_of (step f s legs) ++ built) v → In (t.first v) (edges_of (step f s legs) ++ built)
    step_upwards v c h = elim (dec_le 1 (degree g built v)) [
      | yes m ↦ in_right (edges_of (step f s legs)) (held.upwards v c m)
      | no n ↦ elim (on v step_walk (omega (arith, sum v))) [
        | inl i ↦ elim (in-cons i) [
          | inl p ↦ absurd (n (subst (Built g built) (sym p) hs))
          | inr m ↦ in_left built (later (climb_first tree k m))
        ]
        | inr p ↦ absurd (n (subst (Built g built) (sym p) (climb_end k)))
      ]
    ]

    pub step_held : Held g t (edges_of (step f s legs) ++ built)
    step_held = record {
      edges = λ e i. elim (cases i) [
        | inl p ↦ subst (Edge g) (sym p) b.joins.edge
        | inr (inl r) ↦ subst (Edge g) (sym r.3) (tree.joins r.0 r.1).edge
        | inr (inr m) ↦ held.edges e m
      ];
      rooted = omega (arith, sum t.root, held.rooted);
      upwards = step_upwards;
      hung = λ d y z q i. elim (cases i) [
        | inl p ↦ subst (Branch g (edges_of (step f s legs) ++ built)) (sym (back_once tree b (subst (λ (e : ℕ). Back g t e y z) p q)).0) upper_branch
        | inr (inl r) ↦ absurd (q.off r.0 r.1 r.3)
        | inr (inr m) ↦ omega (arith, sum y, held.hung d y z q m)
      ];
    }

-- The edge that a step begins with.

-- `over` leads to an edge that is not in the tree
pub over_back : {g : Graph} {t : Pointers} {over : ℕ → ℕ} {e u v : ℕ} → Tree g t → Overs g t over → Joins g e u v
    → (s : ℕ) × (w : ℕ) × Back g t (over e) s w
over_back {g} {t} {over} {e} {u} {v} tree overs j = elim (tree_cases tree j) [
  | inl (inl (c, p)) ↦ first_back u c p
  | inl (inr (c, p)) ↦ first_back v c p
  | inr off ↦ elim (tree.upright e u v j) [
    | inl a ↦ (u, v, rw (overs.itself e j.edge off) (record { joins = j; above = a; off = off }))
    | inr a ↦ (v, u, rw (overs.itself e j.edge off) (record { joins = joins_sym j; above = a; off = off }))
  ]
]
  where
    first_back : (c : ℕ) → Child g t c → e ≡ t.first c → (s : ℕ) × (w : ℕ) × Back g t (over e) s w
    first_back c h p = let top = overs.highest c h in
        (top.upper, top.lower, subst (λ (d : ℕ). Back g t (over d) top.upper top.lower) (sym p) top.passing.back)

-- an edge that is not built, at a built vertex v: `over` is not built, its upper end is, and v is an end of the step over it
pub record StepAt (g : Graph) (built : List ℕ) (v f s x : ℕ) : Type 0 where
  pub new : In f built → ⊥
  pub begins : Built g built s
  pub at : (s ≡ v) ⊎ (x ≡ v)

module _ {g : Graph} {t : Pointers} {over : ℕ → ℕ} {built : List ℕ} {v e u s w x : ℕ} {legs : List Leg} (tree : Tree g t) (held : Held g t built)
    (overs : Overs g t over) (j : Joins g e v u) (n : In e built → ⊥) (b : Back g t (over e) s w)
    (k : Climb g t (Built g built) w legs x) where
  over_down : Built g built v → Child g t u → e ≡ t.first u → StepAt g built v (over e) s x
  over_down hv c p =
      let up = first_leads tree c p (joins_sym j) in
      let off : Built g built u → ⊥ = λ m. n (Memᴰ.cast p (held.upwards u c m)) in
      let top = overs.highest u c in
      let (q, r) = back_once tree top.passing.back (subst (λ (d : ℕ). Back g t (over d) s w) p b) in
      let below : Above g t u w = subst (Above g t u) (sym r) top.passing.below in
      let (rest, m) = climb_part (built_up tree held) k below off in
      record {
        new = λ i. off (built_above tree held below (in_degree g w i (hits_from (joins_sym b.joins))));
        begins = built_above tree held (subst (λ (y : ℕ). Above g t y (t.parent u)) (sym q) top.passing.above) (subst (Built g built) up hv);
        at = inr (climb_one off (subst (Built g built) up hv) m ∙ sym up);
      }

  pub step_at_lem : Built g built v → StepAt g built v (over e) s x
  step_at_lem hv = elim (tree_cases tree j) [
    | inl (inl (c, p)) ↦ absurd (n (Memᴰ.cast p (held.upwards v c hv)))
    | inl (inr (c, p)) ↦ over_down hv c p
    | inr off ↦ let same = overs.itself e j.edge off in
        let i : Joins g e s w = subst (λ (d : ℕ). Joins g d s w) same b.joins in
        let new : In (over e) built → ⊥ = λ m. n (Memᴰ.cast (sym same) m) in
        elim (hits_on v i (omega (arith, hits_from j))) [
          | inl p ↦ record { new = new; begins = subst (Built g built) p hv; at = inl (sym p) }
          | inr p ↦ let h = subst (Built g built) p hv in
              record { new = new; begins = built_above tree held b.above h; at = inr (climb_here h k ∙ sym p) }
        ]
  ]

  -- where v lies inside the link of p and the step leads out of it, it is a Mader-path
  pub exit_mader : {p : ℕ} → Built g built p → Inside g built p v → (Inside g built p s → Inside g built p x → ⊥) → MaderPath g built s (step (over e) s legs) x
  exit_mader {p} hp i out = let a = step_at_lem (inside_built hp i) in step_mader tree held b a.new a.begins k
      (λ q. elim a.at [
        | inl r ↦ absurd (out (subst (Inside g built p) (sym r) i) (subst (Inside g built p) (sym r ∙ q) i))
        | inr r ↦ absurd (out (subst (Inside g built p) (sym r ∙ sym q) i) (subst (Inside g built p) (sym r) i))
      ])
      (λ m o l. elim a.at [
        | inl r ↦ let h = subst (Inside g built p) (sym r) i in out h (reach_trans h (link_bare l))
        | inr r ↦ let h = subst (Inside g built p) (sym r) i in out (reach_trans h (reach_sym (link_bare l))) h
      ])

  -- where every built vertex is a branch, it is a Mader-path
  pub branch_mader : ((y : ℕ) → Built g built y → Branch g built y) → Built g built v → MaderPath g built s (step (over e) s legs) x
  branch_mader all hv = let a = step_at_lem hv in
      step_mader tree held b a.new a.begins k (λ q. all s a.begins) (λ m o l. m (all s a.begins))
