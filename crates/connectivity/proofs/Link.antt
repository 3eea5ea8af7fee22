-- At a stage every built vertex that is no branch lies inside a link, and bare edges lead from it to just the vertices inside that link.
use mathlib.Core.Path.{◌≡◌, refl, sym, ◌∙◌}
use mathlib.Core.Logic.{inl, inr, ◌↔◌}
use mathlib.Core.List.Memᴰ
use mathlib.Core.List.Memᴰ.{cases_cons as in-cons}
use mathlib.Core.List.Memᴰ.{eq_of_singleton}
use mathlib.Core.List.Memᴰ.{head as first}
use mathlib.Core.List.Memᴰ.{not-nil as not_in}
use mathlib.Core.List.Memᴰ.{tail as later}
use mathlib.Core.List.{List, [], ◌∷◌, Memᴰ as In}
use Prim.Native.Nat.{ℕ, ◌≤◌}
use native.Mathlib.Omega.{arith}
use native.Mathlib.Decide.{dec_le}
use Rattle.connectivity.specs.Lists.{Distinct, no_member, one}
use Rattle.connectivity.specs.Graph.{Graph, Joins}
use Rattle.connectivity.specs.Reach.{Reach, here, over}
use Rattle.connectivity.specs.Walk.{Leg, Walk, last, then, froms, inner, edges_of, hits, degree, Built, Branch}
use Rattle.connectivity.specs.Link.{Link, SameLink}
use Rattle.connectivity.proofs.Reach.{joins_sym, reach_trans, reach_sym, reach_map, closed_reach}
use Rattle.connectivity.proofs.Lists.{in_dec}
use Rattle.connectivity.proofs.Degree.{hits_from, hits_on, in_degree, part-degree, full, from_first, froms_cases, on, on_inner, inner_least}
use Rattle.connectivity.proofs.Stage.{LessOne, Stage, Bare, bare_edge}
use Rattle.connectivity.proofs.Legs.{leg, final, final_cons}

-- a walk to a branch over vertices that are no branches and all different, and over live edges
data Arm (g : Graph) (built : List ℕ) (live : ℕ → Type 0) : ℕ → List Leg → ℕ → Type 0 where
  end : {u v : ℕ} (e : ℕ) → live e → Joins g e u v → (Branch g built u → ⊥) → Branch g built v
      → Arm g built live u (record { edge = e; from = u } ∷ []) v
  more : {u v w : ℕ} {legs : List Leg} (e : ℕ) → live e → Joins g e u v → (Branch g built u → ⊥) → (In u (froms legs) → ⊥)
      → Arm g built live v legs w → Arm g built live u (record { edge = e; from = u } ∷ legs) w

-- the first edge
abbrev pub lead : List Leg → ℕ
lead [] = 0
lead (l ∷ legs) = l.edge

module _ {g : Graph} {built : List ℕ} {live : ℕ → Type 0} where
  arm_walk : {u w : ℕ} {legs : List Leg} → Arm g built live u legs w → Walk g u legs w
  arm_walk (end e l j n b) = last e j
  arm_walk (more e l j n f a) = then e j (arm_walk a)

  arm_branch : {u w : ℕ} {legs : List Leg} → Arm g built live u legs w → Branch g built w
  arm_branch (end e l j n b) = b
  arm_branch (more e l j n f a) = arm_branch a

  arm_live : {c u w : ℕ} {legs : List Leg} → Arm g built live u legs w → In c (edges_of legs) → live c
  arm_live (end e l j n b) i = rw (eq_of_singleton i) l
  arm_live (more e l j n f a) (first p) = rw p l
  arm_live (more e l j n f a) (later i) = arm_live a i

  arm_plain : {v u w : ℕ} {legs : List Leg} → Arm g built live u legs w → In v (froms legs) → Branch g built v → ⊥
  arm_plain (end e l j n b) i = rw (eq_of_singleton i) n
  arm_plain (more e l j n f a) (first p) = rw p n
  arm_plain (more e l j n f a) (later i) = arm_plain a i

  -- no edge of an arm ends at a vertex that is off it and no branch
  arm_off : {e u v w : ℕ} {legs : List Leg} → Arm g built live v legs w → (Branch g built u → ⊥) → (In u (froms legs) → ⊥)
      → In e (edges_of legs) → hits g e u ≡ 1 → ⊥
  arm_off {u = u} a n f i h = elim (on u (arm_walk a) (in_degree g u i h)) [ inl m ↦ f m | inr p ↦ n (rw p (arm_branch a)) ]

  arm_once : {u w : ℕ} {legs : List Leg} → Arm g built live u legs w → Distinct (edges_of legs)
  arm_once (end e l j n b) = one not_in no_member
  arm_once (more e l j n f a) = one (λ i. arm_off a n f i (hits_from j)) (arm_once a)

  lead_in : {u w : ℕ} {legs : List Leg} → Arm g built live u legs w → In (lead legs) (edges_of legs)
  lead_in (end e l j n b) = first refl
  lead_in (more e l j n f a) = first refl

  lead_only : {c u w : ℕ} {legs : List Leg} → Arm g built live u legs w → In c (edges_of legs) → hits g c u ≡ 1 → c ≡ lead legs
  lead_only (end e l j n b) i h = eq_of_singleton i
  lead_only (more e l j n f a) (first p) h = p
  lead_only (more e l j n f a) (later i) h = absurd (arm_off a n f i h)

  -- the part of an arm from a vertex on
  suffix : {u w : ℕ} {legs : List Leg} (x : ℕ) → Arm g built live u legs w → In x (froms legs) → (rest : List Leg) × Arm g built live x rest w
  suffix x (end {u = u} e l j n b) i = rw (eq_of_singleton i) (record { edge = e; from = u } ∷ [], end e l j n b)
  suffix x (more {u = u} {legs = legs} e l j n f a) (first p) = rw p (record { edge = e; from = u } ∷ legs, more e l j n f a)
  suffix x (more e l j n f a) (later i) = suffix x a i

  -- a way to a branch, without its detours
  arm : {x z : ℕ} → Reach g live x z → Branch g built z → (Branch g built x → ⊥) → (legs : List Leg) × (to : ℕ) × Arm g built live x legs to
  arm here h n = absurd (n h)
  arm (over {u} {v} e l j r) h n = elim (dec_le 3 (degree g built v)) [
    | yes b ↦ (record { edge = e; from = u } ∷ [], v, end e l j n b)
    | no m ↦ let (legs, to, a) = arm r h m in elim (in_dec u (froms legs)) [
      | yes i ↦ let (rest, k) = suffix u a i in (rest, to, k)
      | no f ↦ (record { edge = e; from = u } ∷ legs, to, more e l j n f a)
    ]
  ]

-- two arms of y with different first edges: the first one backwards, then the second one, is a link
weld : {g : Graph} {built : List ℕ} {c y z t : ℕ} {legs arms : List Leg} → Arm g built (LessOne built c) y legs z
    → Arm g built (λ e. In e built) y arms t → (lead legs ≡ lead arms → ⊥) → (x : ℕ) → In x (froms arms) → SameLink g built x x
weld {g} {built} {t = t} {arms = arms} (end {u = y} {v = z} e l j n b) a f x i = record {
  a = z;
  legs = record { edge = e; from = z } ∷ arms;
  b = t;
  link = record {
    walk = k;
    over = inside;
    once = once;
    from = b;
    to = arm_branch a;
    two = λ v i. let n = arm_plain a i in omega (arith, inner_least v k i, part-degree g (e ∷ edges_of arms) built v once inside);
  };
  here = i;
  there = i;
}
  where
    k : Walk g z (record { edge = e; from = z } ∷ arms) t
    k = then e (joins_sym j) (arm_walk a)

    inside : (d : ℕ) → In d (e ∷ edges_of arms) → In d built
    inside d i = elim (in-cons i) [ inl p ↦ Memᴰ.cast p l.0 | inr m ↦ arm_live a m ]

    once : Distinct (e ∷ edges_of arms)
    once = one (λ i. f (lead_only a i (hits_from j))) (arm_once a)
weld {g} {built} {arms = arms} (more {u = y} {v = v} e l j n m q) a f x i =
    weld q (more e l.0 (joins_sym j) (arm_plain q (from_first (arm_walk q))) off a)
    (λ p. arm_off q n m (Memᴰ.cast (sym p) (lead_in q)) (hits_from j)) x (later i)
  where
    -- else e, which ends at v, were an edge of the second arm, and its first one, since it ends at y too
    off : In v (froms arms) → ⊥
    off i = elim (froms_cases (arm_walk a) i) [
      | inl p ↦ m (Memᴰ.cast (sym p) (from_first (arm_walk q)))
      | inr k ↦
          let h = inner_least v (arm_walk a) k in
          let both = full g (edges_of arms) built v e (arm_once a) (λ d. arm_live a) (arm_plain a i) h l.0 (hits_from (joins_sym j)) in
          f (lead_only a both (hits_from j))
    ]

-- every built vertex that is no branch lies inside a link
pub some_link : {g : Graph} {built : List ℕ} (x : ℕ) → Stage g built → Built g built x → (Branch g built x → ⊥) → SameLink g built x x
some_link {g} {built} x s h n =
    let r = s.two 0 x h in
    let (arms, t, a) = arm (reach_map (λ e l. l.0) r.reach) r.branch n in
    let k = s.two (lead arms) x h in
    let (legs, z, q) = arm k.reach k.branch n in
    weld q a (arm_live q (lead_in q)).1 x (from_first (arm_walk a))

-- a link has every built edge at its inner vertices
pub link_full : {g : Graph} {built : List ℕ} {a b : ℕ} {legs : List Leg} → Link g built a legs b → (x e : ℕ) → In x (inner legs) → In e built → hits g e x ≡ 1
    → In e (edges_of legs)
link_full {g} {built} {legs = legs} k x e i = full g (edges_of legs) built x e k.once k.over (λ b. omega (arith, k.two x i)) (inner_least x k.walk i)

-- a built vertex has at least two built edges
pub degree_two : {g : Graph} {built : List ℕ} (x : ℕ) → Stage g built → Built g built x → 2 ≤ degree g built x
degree_two {g} {built} x s h = elim (dec_le 3 (degree g built x)) [
  | yes b ↦ omega arith
  | no n ↦ let l = some_link x s h n in omega (arith, l.link.two x l.here)
]

-- bare edges do not leave a link
pub link_closed : {g : Graph} {built : List ℕ} {a b : ℕ} {legs : List Leg} {u w : ℕ} → Link g built a legs b → In u (inner legs)
    → Reach g (Bare g built) u w → In w (inner legs)
link_closed {g} {built} {legs = legs} k i r = closed_reach (λ v. In v (inner legs)) step r i
  where
    step : (e x y : ℕ) → Bare g built e → Joins g e x y → In x (inner legs) → In y (inner legs)
    step e x y bare j i =
        on_inner y k.walk (λ p. plain (rw p k.from)) (λ p. plain (rw p k.to)) (in_degree g y (link_full k x e i bare.0 (hits_from j)) (hits_from (joins_sym j)))
      where
        plain : Branch g built y → ⊥
        plain b = elim j.ends [ inl p ↦ bare.2 (rw p.1 b) | inr p ↦ bare.1 (rw p.0 b) ]

pub same_link_lem : {g : Graph} {built : List ℕ} {u w : ℕ} → Stage g built → Built g built u → (Branch g built u → ⊥)
    → Reach g (Bare g built) u w → SameLink g built u w
same_link_lem {u = u} s h n r = let l = some_link u s h n in
    record { a = l.a; legs = l.legs; b = l.b; link = l.link; here = l.here; there = link_closed l.link l.here r }

-- from the first vertex of a walk over vertices that are no branches to each of them
bare_along : {g : Graph} {built : List ℕ} {u w : ℕ} {legs : List Leg} → Walk g u legs w → ((e : ℕ) → In e (edges_of legs) → In e built)
    → ((v : ℕ) → In v (froms legs) → Branch g built v → ⊥) → (x : ℕ) → In x (froms legs) → Reach g (Bare g built) u x
bare_along (last e j) o n x i = rw (eq_of_singleton i) here
bare_along (then e j k) o n x (first p) = rw p here
bare_along (then {u = u} {v = v} e j k) o n x (later i) =
    over e (bare_edge j (o e (first refl)) (n u (first refl)) (n v (later (from_first k)))) j
    (bare_along k (λ d m. o d (later m)) (λ y m. n y (later m)) x i)

-- inside one link bare edges lead from each vertex to each
pub link_bare : {g : Graph} {built : List ℕ} {u w : ℕ} → SameLink g built u w → Reach g (Bare g built) u w
link_bare {g} {built} {u} {w} s = go s.link.walk s.link.over (λ v i b. omega (arith, s.link.two v i)) s.here s.there
  where
    go : {a b : ℕ} {legs : List Leg} → Walk g a legs b → ((e : ℕ) → In e (edges_of legs) → In e built)
        → ((v : ℕ) → In v (inner legs) → Branch g built v → ⊥) → In u (inner legs) → In w (inner legs) → Reach g (Bare g built) u w
    go (last e j) o n i k = absurd (not_in i)
    go (then e j q) o n i k = let along = bare_along q (λ d m. o d (later m)) n in reach_trans (reach_sym (along u i)) (along w k)

pub same_link_iff : {g : Graph} {built : List ℕ} {u w : ℕ} → Stage g built → Built g built u → (Branch g built u → ⊥)
    → SameLink g built u w ↔ Reach g (Bare g built) u w
same_link_iff s h n = (link_bare, same_link_lem s h n)

-- each edge of a walk leaves one of its vertices
pub walk_edge : {g : Graph} {e u w : ℕ} {legs : List Leg} → Walk g u legs w → In e (edges_of legs) → (v : ℕ) × In v (froms legs) × (hits g e v ≡ 1)
walk_edge (last {u = u} d j) m = (u, first refl, rw (eq_of_singleton m) (hits_from j))
walk_edge (then {u = u} d j k) (first p) = (u, first refl, rw p (hits_from j))
walk_edge (then d j k) (later m) = let q = walk_edge k m in (q.0, later q.1, q.2)

-- each edge of a walk that has an inner vertex ends at one
edge_inner : {g : Graph} {e u w x : ℕ} {legs : List Leg} → Walk g u legs w → In x (inner legs) → In e (edges_of legs) → (v : ℕ) × In v (inner legs) × (hits g e v ≡ 1)
edge_inner (last d j) i m = absurd (not_in i)
edge_inner {g} (then {v = v} d j k) i (first p) = (v, from_first k, rw p (hits_from (joins_sym j)))
edge_inner {g} (then {v = v} d j k) i (later m) = let q = walk_edge k m in (q.0, q.1, q.2)

-- no two links have an inner vertex in common: a link with an inner vertex of another has its inner vertices and its edges
pub link_inner : {g : Graph} {built : List ℕ} {a b c d : ℕ} {k l : List Leg} {x : ℕ} → Link g built a k b → Link g built c l d
    → In x (inner k) → In x (inner l) → (v : ℕ) → In v (inner k) → In v (inner l)
link_inner p q i j v m = link_closed q j (link_bare (record { a = _; legs = _; b = _; link = p; here = i; there = m }))

pub link_edges : {g : Graph} {built : List ℕ} {a b c d : ℕ} {k l : List Leg} {x : ℕ} → Link g built a k b → Link g built c l d
    → In x (inner k) → In x (inner l) → (e : ℕ) → In e (edges_of k) → In e (edges_of l)
link_edges p q i j e m = let r = edge_inner p.walk i m in link_full q r.0 e (link_inner p q i j r.0 r.1) (p.over e m) r.2

-- The outer edges of a link.

-- an edge of a walk that is not its last ends at vertices that the walk leaves from
not_last : {g : Graph} {u w e x : ℕ} {legs : List Leg} → Walk g u legs w → In e (edges_of legs) → hits g e x ≡ 1
    → (e ≡ final legs → ⊥) → In x (froms legs)
not_last (last d j) i h n = absurd (n (eq_of_singleton i))
not_last {x = x} (then {u = u} d j k) i h n = elim (in-cons i) [
  | inl p ↦ elim (hits_on x j (omega (arith, rw p at h))) [ inl q ↦ first q | inr q ↦ later (Memᴰ.cast q (from_first k)) ]
  | inr m ↦ later (not_last k m h (λ p. n (p ∙ sym (final_cons (leg d u) k))))
]

-- and one that is not its first either, at inner vertices
pub not_outer : {g : Graph} {u w e x : ℕ} {legs : List Leg} → Walk g u legs w → In e (edges_of legs) → hits g e x ≡ 1
    → (e ≡ lead legs → ⊥) → (e ≡ final legs → ⊥) → In x (inner legs)
not_outer (last d j) i h n m = absurd (n (eq_of_singleton i))
not_outer (then {u = u} d j k) i h n m = elim (in-cons i) [
  | inl p ↦ absurd (n p)
  | inr q ↦ not_last k q h (λ p. m (p ∙ sym (final_cons (leg d u) k)))
]
