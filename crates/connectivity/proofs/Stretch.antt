-- Links are stretches of walks: two vertices inside a step's walk lie inside one link exactly if no branch stands between them on it.
use mathlib.Core.Path.{◌≡◌, refl, sym, ap, ◌∙◌, subst}
use mathlib.Core.Logic.{◌⊎◌, inl, inr, ⊎_swap, ◌↔◌}
use mathlib.Core.List.Memᴰ.{append_left as in_left}
use mathlib.Core.List.Memᴰ.{append_right as in_right}
use mathlib.Core.List.Memᴰ.{cases_cons as in-cons}
use mathlib.Core.List.Memᴰ.{head as first}
use mathlib.Core.List.Memᴰ.{not-nil as not_in}
use mathlib.Core.List.Memᴰ.{tail as later}
use mathlib.Core.List.{List, [], ◌∷◌, ◌++◌, Memᴰ as In}
use Prim.Native.Nat.{ℕ, zero, suc, ◌≤◌}
use native.Mathlib.Omega.{arith}
use native.Mathlib.Decide.{ℕ_discrete, dec_le}
use Rattle.connectivity.specs.Lists.{Distinct}
use Rattle.connectivity.specs.Graph.{Graph, Joins}
use Rattle.connectivity.specs.Reach.{Reach, here, over}
use Rattle.connectivity.specs.Walk.{Leg, Walk, last, then, froms, inner, edges_of, all_inner, all_edges, Branch}
use Rattle.connectivity.specs.Link.{SameLink}
use Rattle.connectivity.specs.Mader.{Theta, Steps, theta, mader}
use Rattle.connectivity.proofs.Reach.{reach_trans, reach_sym, closed_reach}
use Rattle.connectivity.proofs.Distinct.{head_distinct, tail_distinct, left_distinct, right_distinct}
use Rattle.connectivity.proofs.Degree.{degree-append, hits_from, in_degree, froms_cases, start-degree, stop-degree, full, inner_least}
use Rattle.connectivity.proofs.Stage.{Bare, bare_edge, all_degree}
use Rattle.connectivity.proofs.Link.{degree_two, same_link_iff}
use Rattle.connectivity.proofs.Sound.{stage}
use Rattle.connectivity.proofs.Fresh.{froms-distinct}

-- Each walk of a stage.

-- a walk over built edges, none twice, with no vertex left twice, whose ends are branches
pub record WalkIn (g : Graph) (built : List ℕ) (legs : List Leg) : Type 0 where
  pub from : ℕ
  pub to : ℕ
  pub walk : Walk g from legs to
  pub simple : Distinct (froms legs)
  pub among : (e : ℕ) → In e (edges_of legs) → In e built
  pub once : Distinct (edges_of legs)
  pub branch_from : Branch g built from
  pub branch_to : Branch g built to

-- it stays one when edges are added
grown : {g : Graph} {built : List ℕ} {legs : List Leg} (new : List ℕ) → WalkIn g built legs → WalkIn g (new ++ built) legs
grown {g} {built} new w = record {
  from = w.from;
  to = w.to;
  walk = w.walk;
  simple = w.simple;
  among = λ e i. in_right new (w.among e i);
  once = w.once;
  branch_from = omega (arith, degree-append g new built w.from, w.branch_from);
  branch_to = omega (arith, degree-append g new built w.to, w.branch_to);
}

-- one of several walks
pub inner_of : (walks : List (List Leg)) {legs : List Leg} → In legs walks → (v : ℕ) → In v (inner legs) → In v (all_inner walks)
inner_of [] m v i = elim m [ ]
inner_of (k ∷ walks) (first p) v i = in_left (all_inner walks) (subst (λ (l : List Leg). In v (inner l)) p i)
inner_of (k ∷ walks) (later m) v i = in_right (inner k) (inner_of walks m v i)

inner_simple : (walks : List (List Leg)) {legs : List Leg} → In legs walks → Distinct (all_inner walks) → Distinct (inner legs)
inner_simple [] m d = elim m [ ]
inner_simple (k ∷ walks) (first p) d = subst (λ (l : List Leg). Distinct (inner l)) (sym p) (left_distinct (inner k) (all_inner walks) d)
inner_simple (k ∷ walks) (later m) d = inner_simple walks m (right_distinct (inner k) d)

pub edges_of_lem : (walks : List (List Leg)) {legs : List Leg} → In legs walks → (e : ℕ) → In e (edges_of legs) → In e (all_edges walks)
edges_of_lem [] m e i = elim m [ ]
edges_of_lem (k ∷ walks) (first p) e i = in_left (all_edges walks) (subst (λ (l : List Leg). In e (edges_of l)) p i)
edges_of_lem (k ∷ walks) (later m) e i = in_right (edges_of k) (edges_of_lem walks m e i)

edges_once : (walks : List (List Leg)) {legs : List Leg} → In legs walks → Distinct (all_edges walks) → Distinct (edges_of legs)
edges_once [] m d = elim m [ ]
edges_once (k ∷ walks) (first p) d = subst (λ (l : List Leg). Distinct (edges_of l)) (sym p) (left_distinct (edges_of k) (all_edges walks) d)
edges_once (k ∷ walks) (later m) d = edges_once walks m (right_distinct (edges_of k) d)

module _ {g : Graph} {a b : ℕ} where
  path_in : (walks : List (List Leg)) {legs : List Leg} → Theta g a b walks → Distinct (all_edges walks) → In legs walks → WalkIn g (all_edges walks) legs
  path_in walks {legs} t d i = elim (t.between legs i) [
    | inl k ↦ record {
      from = a;
      to = b;
      walk = k;
      simple = froms-distinct k (λ j. head_distinct t.simple (later (inner_of walks i a j))) distinct;
      among = edges_of_lem walks i;
      once = edges_once walks i d;
      branch_from = at_a;
      branch_to = at_b;
    }
    | inr k ↦ record {
      from = b;
      to = a;
      walk = k;
      simple = froms-distinct k (λ j. head_distinct (tail_distinct t.simple) (inner_of walks i b j)) distinct;
      among = edges_of_lem walks i;
      once = edges_once walks i d;
      branch_from = at_b;
      branch_to = at_a;
    }
  ]
    where
      distinct : Distinct (inner legs)
      distinct = inner_simple walks i (tail_distinct (tail_distinct t.simple))

      at_a : Branch g (all_edges walks) a
      at_a = omega (arith, t.three, all_degree walks t.between)

      at_b : Branch g (all_edges walks) b
      at_b = omega (arith, t.three, all_degree {g = g} {a = b} {b = a} walks (λ l k. ⊎_swap (t.between l k)))

pub walk_in : {g : Graph} {walks : List (List Leg)} {legs : List Leg} → Steps g walks → Distinct (all_edges walks) → In legs walks → WalkIn g (all_edges walks) legs
walk_in (theta {walks = walks} t) d i = path_in walks t d i
walk_in {g} {legs = legs} (mader {walks = walks} {u = u} {w = w} {legs = new} p k) d i = elim (in-cons i) [
  | inl q ↦ subst (WalkIn g (edges_of new ++ all_edges walks)) (sym q) (record {
    from = u;
    to = w;
    walk = k.walk;
    simple = froms-distinct k.walk (λ j. k.fresh u j k.begins) k.simple;
    among = λ e m. in_left (all_edges walks) m;
    once = left_distinct (edges_of new) (all_edges walks) d;
    branch_from = omega (arith, degree-append g (edges_of new) (all_edges walks) u, start-degree k.walk, degree_two u (stage p rest) k.begins);
    branch_to = omega (arith, degree-append g (edges_of new) (all_edges walks) w, stop-degree k.walk, degree_two w (stage p rest) k.ends);
  })
  | inr m ↦ grown (edges_of new) (walk_in p rest m)
]
  where
    rest : Distinct (all_edges walks)
    rest = right_distinct (edges_of new) d

-- Places on a walk.

-- the leg at place k is over e from v
pub data Place : List Leg → ℕ → ℕ → ℕ → Type 0 where
  now : {e v : ℕ} {legs : List Leg} → Place (record { edge = e; from = v } ∷ legs) 0 e v
  next : {l : Leg} {k e v : ℕ} {legs : List Leg} → Place legs k e v → Place (l ∷ legs) (suc k) e v

pub place_vertex : {k e v : ℕ} {legs : List Leg} → Place legs k e v → In v (froms legs)
place_vertex now = first refl
place_vertex (next p) = later (place_vertex p)

pub place_edge : {k e v : ℕ} {legs : List Leg} → Place legs k e v → In e (edges_of legs)
place_edge now = first refl
place_edge (next p) = later (place_edge p)

pub edge_place : {e : ℕ} (legs : List Leg) → In e (edges_of legs) → (k : ℕ) × (v : ℕ) × Place legs k e v
edge_place [] i = absurd (not_in i)
edge_place (l ∷ legs) (first p) = rw p (0, l.from, now)
edge_place (l ∷ legs) (later i) = let q = edge_place legs i in (suc q.0, q.1, next q.2)

-- one vertex at a place, and on a simple walk one place for a vertex
place_same : {k e d v w : ℕ} {legs : List Leg} → Place legs k e v → Place legs k d w → v ≡ w
place_same now now = refl
place_same (next p) (next q) = place_same p q

place_only : {k m e d v w : ℕ} {legs : List Leg} → Distinct (froms legs) → Place legs k e v → Place legs m d w → v ≡ w → k ≡ m
place_only s now now is = refl
place_only s now (next q) is = absurd (head_distinct s (rw is (place_vertex q)))
place_only s (next p) now is = absurd (head_distinct s (rw (sym is) (place_vertex p)))
place_only s (next p) (next q) is = ap suc (place_only (tail_distinct s) p q is)

place_once : {k m e d v : ℕ} {legs : List Leg} → Distinct (froms legs) → Place legs k e v → Place legs m d v → k ≡ m
place_once s p q = place_only s p q refl

module _ {g : Graph} where
  -- a leg leads to the vertex of the next one, or to the walk's last
  pub leads : {k e u v w : ℕ} {legs : List Leg} → Walk g u legs w → Place legs k e v
      → (x : ℕ) × Joins g e v x × ((x ≡ w) ⊎ ((d : ℕ) × Place legs (suc k) d x))
  leads (last {v = v} e j) now = (v, j, inl refl)
  leads (then {v = v} e j k) now = (v, j, inr (opens k))
    where
      opens : {l : Leg} {u w : ℕ} {legs : List Leg} → Walk g u legs w → (d : ℕ) × Place (l ∷ legs) 1 d u
      opens (last d i) = (d, next now)
      opens (then d i q) = (d, next now)
  leads (last e j) (next p) = elim p [ ]
  leads (then e j k) (next p) = let q = leads k p in (q.0, q.1, elim q.2 [ inl r ↦ inl r | inr r ↦ inr (r.0, next r.1) ])

  -- the leg before a place leads to it
  before : {k e u v w : ℕ} {legs : List Leg} → Walk g u legs w → Place legs (suc k) e v → (d : ℕ) × (x : ℕ) × Place legs k d x × Joins g d x v
  before (last e j) (next p) = absurd (not_in (place_vertex p))
  before (then {u = u} d j (last e i)) (next now) = (d, u, now, j)
  before (then {u = u} d j (then e i q)) (next now) = (d, u, now, j)
  before (then d j q) (next (next p)) = let r = before q (next p) in (r.0, r.1, next r.2, r.3)

  -- an edge joins one pair
  joins_pair : {e u v x y : ℕ} → Joins g e u v → Joins g e x y → ((x ≡ u) × (y ≡ v)) ⊎ ((x ≡ v) × (y ≡ u))
  joins_pair j k = elim j.ends [
    | inl p ↦ elim k.ends [ inl q ↦ inl (sym q.0 ∙ p.0, sym q.1 ∙ p.1) | inr q ↦ inr (sym q.1 ∙ p.1, sym q.0 ∙ p.0) ]
    | inr p ↦ elim k.ends [ inl q ↦ inr (sym q.0 ∙ p.0, sym q.1 ∙ p.1) | inr q ↦ inl (sym q.1 ∙ p.1, sym q.0 ∙ p.0) ]
  ]

-- The stretch between two places.

abbrev pub Within : ℕ → ℕ → ℕ → Type 0
Within i j k = ((i ≤ k) × (k ≤ j)) ⊎ ((j ≤ k) × (k ≤ i))

-- no branch stands at the two places or between them
abbrev pub Clear : Graph → List ℕ → List Leg → ℕ → ℕ → Type 0
Clear g built legs i j = (k e v : ℕ) → Within i j k → Place legs k e v → Branch g built v → ⊥

module _ {g : Graph} {built : List ℕ} {legs : List Leg} (w : WalkIn g built legs) where
  -- over a clear stretch bare edges lead from place to place
  forward : {i c x : ℕ} (j : ℕ) {d y : ℕ} → Place legs i c x → Place legs j d y → i ≤ j → Clear g built legs i j → Reach g (Bare g built) x y
  forward {i} zero {d} {y} p q l h = rw (place_same p (subst (λ k. Place legs k d y) (omega (arith, l)) q)) here
  forward {i} (suc j) {d} {y} p q l h = elim (ℕ_discrete i (suc j)) [
    | yes e ↦ rw (place_same p (subst (λ k. Place legs k d y) (sym e) q)) here
    | no n ↦
        let (c, v, r, k) = before w.walk q in
        reach_trans (forward j p r (omega (arith, l, n)) (λ m e u b. h m e u (elim b [
          | inl a ↦ inl (a.0, omega (arith, a.1))
          | inr a ↦ inl (omega (arith, a.0, l, n), omega (arith, a.1, l, n))
        ])))
        (over c (bare_edge k (w.among c (place_edge r)) (h j c v (inl (omega (arith, l, n), omega arith)) r) (h (suc j) d y (inl (l, omega arith)) q)) k here)
  ]

  -- the place of a vertex that is no branch and that a clear stretch joins to place i
  record Seen (i v : ℕ) : Type 0 where
    plain : Branch g built v → ⊥
    at : ℕ
    edge : ℕ
    place : Place legs at edge v
    clear : Clear g built legs i at

  -- it is inside the walk, and the walk has every built edge at it
  inside : {i v : ℕ} → Seen i v → In v (inner legs)
  inside s = elim (froms_cases w.walk (place_vertex s.place)) [ inl p ↦ absurd (s.plain (rw p w.branch_from)) | inr k ↦ k ]

  has_edge : {i v e y : ℕ} → Seen i v → In e built → Joins g e v y → In e (edges_of legs)
  has_edge {v = v} {e = e} s b j = full g (edges_of legs) built v e w.once w.among s.plain (inner_least v w.walk (inside s)) b (hits_from j)

  -- one place on, and one back
  on_one : {i v y d : ℕ} (s : Seen i v) → (Branch g built y → ⊥) → Place legs (suc s.at) d y → Seen i y
  on_one {i} {y = y} {d = d} s n p = record { plain = n; at = suc s.at; edge = d; place = p; clear = clear }
    where
      clear : Clear g built legs i (suc s.at)
      clear k e u b q = elim (ℕ_discrete k (suc s.at)) [
        | yes r ↦ λ h. n (subst (Branch g built) (place_same (subst (λ m. Place legs m e u) r q) p) h)
        | no r ↦ s.clear k e u (elim b [ inl a ↦ inl (a.0, omega (arith, a.1, r)) | inr a ↦ inr (omega (arith, a.0), a.1) ]) q
      ]

  back_one : {i v y d : ℕ} (m : ℕ) (s : Seen i v) → suc m ≡ s.at → (Branch g built y → ⊥) → Place legs m d y → Seen i y
  back_one {i} {y = y} {d = d} m s z n p = record { plain = n; at = m; edge = d; place = p; clear = clear }
    where
      clear : Clear g built legs i m
      clear k e u b q = elim (ℕ_discrete k m) [
        | yes r ↦ λ h. n (subst (Branch g built) (place_same (subst (λ t. Place legs t e u) r q) p) h)
        | no r ↦ s.clear k e u (elim b [ inl a ↦ inl (a.0, omega (arith, a.1, z)) | inr a ↦ inr (omega (arith, a.0, r, z), a.1) ]) q
      ]

  seen_step : {i : ℕ} (e v y : ℕ) → Bare g built e → Joins g e v y → Seen i v → Seen i y
  seen_step {i} e v y b j s = follow (edge_place legs (has_edge s b.0 j))
    where
      plain : Branch g built y → ⊥
      plain h = elim j.ends [ inl p ↦ b.2 (rw p.1 h) | inr p ↦ b.1 (rw p.0 h) ]

      go : {m x z : ℕ} → Place legs m e x → Joins g e x z → (z ≡ w.to) ⊎ ((d : ℕ) × Place legs (suc m) d z) → Seen i y
      go {m} p k r = elim (joins_pair k j) [
        | inl q ↦ elim r [
          | inl t ↦ absurd (plain (rw (q.1 ∙ t) w.branch_to))
          | inr (d, t) ↦
              let same = place_once w.simple (subst (Place legs m e) (sym q.0) p) s.place in
              on_one s plain (subst (λ a. Place legs (suc a) d y) same (subst (Place legs (suc m) d) (sym q.1) t))
        ]
        | inr q ↦ elim r [
          | inl t ↦ absurd (s.plain (rw (q.0 ∙ t) w.branch_to))
          | inr (d, t) ↦
              back_one m s (place_once w.simple (subst (Place legs (suc m) d) (sym q.0) t) s.place) plain
              (subst (Place legs m e) (sym q.1) p)
        ]
      ]

      follow : (m : ℕ) × (x : ℕ) × Place legs m e x → Seen i y
      follow (m, x, p) = let (z, k, r) = leads w.walk p in go p k r

  begin : {i c x : ℕ} → Place legs i c x → (Branch g built x → ⊥) → Seen i x
  begin {i} {c} p n = record {
    plain = n;
    at = i;
    edge = c;
    place = p;
    clear = λ k e v b r h. n (subst (Branch g built) (place_same (subst (λ m. Place legs m e v) (elim b [ inl a ↦ omega (arith, a.0, a.1) | inr a ↦ omega (arith, a.0, a.1) ]) r) p) h);
  }

  -- bare edges do not leave the inside of a walk
  pub stays : {i c x y : ℕ} → Place legs i c x → (Branch g built x → ⊥) → Reach g (Bare g built) x y → In y (inner legs)
  stays p n r = inside (closed_reach (Seen _) seen_step r (begin p n))

  -- and they lead from one vertex of it to another exactly if no branch stands at their places or between them
  pub stretch : {i j c d x y : ℕ} → Place legs i c x → Place legs j d y → (Branch g built x → ⊥)
      → Reach g (Bare g built) x y ↔ Clear g built legs i j
  stretch {i} {j} {c} {d} {x} {y} p q n = (there, back)
    where
      there : Reach g (Bare g built) x y → Clear g built legs i j
      there r = let s = closed_reach (Seen i) seen_step r (begin p n) in
          subst (Clear g built legs i) (place_once w.simple s.place q) s.clear

      back : Clear g built legs i j → Reach g (Bare g built) x y
      back h = elim (dec_le i j) [
        | yes l ↦ forward j p q l h
        | no m ↦ reach_sym (forward i q p (omega (arith, m)) (λ k e v b. h k e v (⊎_swap b)))
      ]

-- two vertices that a step leaves, the first no branch, lie inside one link exactly if no branch stands at their rows or between them
pub same_link_stretch : {g : Graph} {walks : List (List Leg)} {legs : List Leg} {i j c d x y : ℕ} → Steps g walks → Distinct (all_edges walks)
    → In legs walks → Place legs i c x → Place legs j d y → (Branch g (all_edges walks) x → ⊥)
    → SameLink g (all_edges walks) x y ↔ Clear g (all_edges walks) legs i j
same_link_stretch {g} {walks} {c = c} {x = x} p k i f t n = let w = walk_in p k i in
    let along = stretch w f t n in
    let link = same_link_iff (stage p k) (in_degree g x (w.among c (place_edge f)) (hits_from (leads w.walk f).1)) n in
    (λ s. along.0 (link.0 s), λ h. link.1 (along.1 h))
