-- The invariant of a stage of the construction: three paths between two vertices have it, and a Mader-path keeps it.
use mathlib.Core.Path.{◌≡◌, refl, sym, ◌∙◌, subst}
use mathlib.Core.Logic.{◌⊎◌, inl, inr, ⊎_map, ⊎_swap}
use mathlib.Core.List.Memᴰ
use mathlib.Core.List.Memᴰ.{append_left as in_left}
use mathlib.Core.List.Memᴰ.{append_right as in_right}
use mathlib.Core.List.Memᴰ.{eq_of_singleton}
use mathlib.Core.List.Memᴰ.{head as first}
use mathlib.Core.List.Memᴰ.{tail as later}
use mathlib.Core.List.{List, [], ◌∷◌, ◌++◌, Memᴰ as In}
use Prim.Native.Nat.{ℕ, ◌+◌, ◌≤◌, ◌<◌}
use native.Mathlib.Omega.{arith}
use native.Mathlib.Decide.{ℕ_discrete, dec_le}
use lib.ListN.{length}
use Rattle.connectivity.specs.Lists.{Distinct}
use Rattle.connectivity.specs.Graph.{Graph, Joins}
use Rattle.connectivity.specs.Reach.{Reach, here, over, Without}
use Rattle.connectivity.specs.Walk.{Leg, Walk, last, then, Between, froms, inner, edges_of, all_inner, all_edges, degree, Built, Branch}
use Rattle.connectivity.specs.Mader.{Theta, MaderPath}
use Rattle.connectivity.proofs.Reach.{joins_sym, reach_trans, reach_sym, reach_map}
use Rattle.connectivity.proofs.Distinct.{common, head_distinct, tail_distinct, left_distinct, right_distinct, apart_distinct}
use Rattle.connectivity.proofs.Degree.{degree-append, hits_from, hits_on, remove, from_first, walk_reach, start-degree, stop-degree, on, on_inner, inner_most}

-- the built edges less one, and less two
abbrev pub LessOne : List ℕ → ℕ → ℕ → Type 0
LessOne built c e = In e built × (e ≡ c → ⊥)

abbrev pub LessTwo : List ℕ → ℕ → ℕ → ℕ → Type 0
LessTwo built c d e = In e built × (e ≡ c → ⊥) × (e ≡ d → ⊥)

-- a branch that is reached over live edges
pub record Exit (g : Graph) (built : List ℕ) (live : ℕ → Type 0) (x : ℕ) : Type 0 where
  pub to : ℕ
  pub branch : Branch g built to
  pub reach : Reach g live x to

-- any two branches reach each other over the built edges less any two, and each built vertex a branch over those less any one
pub record Stage (g : Graph) (built : List ℕ) : Type 0 where
  pub three : (c d x y : ℕ) → Branch g built x → Branch g built y → Reach g (LessTwo built c d) x y
  pub two : (c x : ℕ) → Built g built x → Exit g built (LessOne built c) x

-- a built edge neither of whose ends is a branch
abbrev pub Bare : Graph → List ℕ → ℕ → Type 0
Bare g built e = In e built × (Branch g built (g.left e) → ⊥) × (Branch g built (g.right e) → ⊥)

pub bare_edge : {g : Graph} {built : List ℕ} {e u v : ℕ} → Joins g e u v → In e built
    → (Branch g built u → ⊥) → (Branch g built v → ⊥) → Bare g built e
bare_edge {g} {built} j i n m = elim j.ends [
  | inl p ↦ (i, (λ h. n (subst (Branch g built) p.0 h)), (λ h. m (subst (Branch g built) p.1 h)))
  | inr p ↦ (i, (λ h. m (subst (Branch g built) p.0 h)), (λ h. n (subst (Branch g built) p.1 h)))
]

-- if neither is a branch, bare edges do not lead from one to the other
abbrev pub BareApart : Graph → List ℕ → ℕ → ℕ → Type 0
BareApart g built u w = (Branch g built u → ⊥) → (Branch g built w → ⊥) → Reach g (Bare g built) u w → ⊥

-- a way to y, and on from there: what was a branch still is one, and what was live still is
exit_via : {g : Graph} {built more : List ℕ} {live alive : ℕ → Type 0} {x y : ℕ} → ((v : ℕ) → Branch g built v → Branch g more v)
    → ((e : ℕ) → live e → alive e) → Reach g alive x y → Exit g built live y → Exit g more alive x
exit_via b f r q = record { to = q.to; branch = b q.to q.branch; reach = reach_trans r (reach_map f q.reach) }

-- What keeps a vertex from a branch.

-- x is no branch, and comes to an end of c, which is no branch, over bare edges
record Beside (g : Graph) (built : List ℕ) (x c : ℕ) : Type 0 where
  start : Branch g built x → ⊥
  at : ℕ
  other : ℕ
  stop : Branch g built at → ⊥
  bare : Reach g (Bare g built) x at
  joins : Joins g c at other
  edge : In c built

-- a way to a branch that misses c: it misses d as well, or d is beside x
scan : {g : Graph} {built : List ℕ} {c x z : ℕ} (d : ℕ) → Reach g (LessOne built c) x z → Branch g built z
    → Exit g built (LessTwo built c d) x ⊎ Beside g built x d
scan {x = x} d here h = inl (record { to = x; branch = h; reach = here })
scan {g} {built} d (over {u} {v} e l j p) h = elim (dec_le 3 (degree g built u)) [
  | yes k ↦ inl (record { to = u; branch = k; reach = here })
  | no n ↦ elim (ℕ_discrete e d) [
    | yes q ↦ inr (record { start = n; at = u; other = v; stop = n; bare = here; joins = rw (← q) j; edge = Memᴰ.cast (sym q) l.0 })
    | no m ↦ elim (scan d p h) [
      | inl r ↦ inl (exit_via (λ y b. b) (λ y k. k) (over e (l.0, l.1, m) j here) r)
      | inr r ↦ inr (record {
        start = n;
        at = r.at;
        other = r.other;
        stop = r.stop;
        bare = over e (bare_edge j l.0 n r.start) j r.bare;
        joins = r.joins;
        edge = r.edge;
      })
    ]
  ]
]

-- a built vertex gets to a branch past c and d, or both are beside it
leave : {g : Graph} {built : List ℕ} (c d x : ℕ) → Stage g built → Built g built x
    → Exit g built (LessTwo built c d) x ⊎ (Beside g built x c × Beside g built x d)
leave c d x s h = let r = s.two c x h in let t = s.two d x h in elim (scan d r.reach r.branch) [
  | inl p ↦ inl p
  | inr p ↦ elim (scan c t.reach t.branch) [
    | inl q ↦ inl (exit_via (λ y b. b) (λ e l. (l.0, l.2, l.1)) here q)
    | inr q ↦ inr (q, p)
  ]
]

-- two vertices that are beside one edge reach each other over bare edges
meet : {g : Graph} {built : List ℕ} {u w c : ℕ} → Beside g built u c → Beside g built w c → Reach g (Bare g built) u w
meet {g} {built} {u} {w} {c} p q = reach_trans p.bare (elim (hits_on q.at p.joins (omega (arith, hits_from q.joins))) [
  | inl e ↦ reach_sym (subst (Reach g (Bare g built) w) e q.bare)
  | inr e ↦ let j : Joins g c p.at q.at = rw e p.joins in over c (bare_edge j p.edge p.stop q.stop) j (reach_sym q.bare)
])

-- A Mader-path.

-- an end u of a Mader-path reaches an old branch past c and d, by the old edges or over the Mader-path to its other end w
leave_end : {g : Graph} {built new : List ℕ} (c d : ℕ) {u w : ℕ} → Stage g built → Built g built u → Built g built w
    → Distinct (new ++ built) → Reach g (λ e. In e new) u w → BareApart g built u w → Exit g built (LessTwo (new ++ built) c d) u
leave_end {g} {built} {new} c d {u} {w} s hu hw once r apart = elim (leave c d u s hu) [
  | inl k ↦ via here k
  | inr k ↦ elim (leave c d w s hw) [
    | inl q ↦ via (reach_map (λ e i. (in_left built i, misses i k.0.edge, misses i k.1.edge)) r) q
    | inr q ↦ absurd (apart k.0.start q.0.start (meet k.0 q.0))
  ]
]
  where
    via : {x y : ℕ} → Reach g (LessTwo (new ++ built) c d) x y → Exit g built (LessTwo built c d) y
        → Exit g built (LessTwo (new ++ built) c d) x
    via r q = exit_via (λ y b. b) (λ e l. (in_right new l.0, l.1, l.2)) r q

    misses : {e f : ℕ} → In e new → In f built → e ≡ f → ⊥
    misses i j p = apart_distinct new once i (Memᴰ.cast p j)

-- x reaches u or w over the given edges less c
abbrev ToEither : Graph → List ℕ → ℕ → ℕ → ℕ → ℕ → Type 0
ToEither g edges c x u w = Reach g (LessOne edges c) x u ⊎ Reach g (LessOne edges c) x w

-- from a vertex of a walk to one of its ends, past c
to_an_end : {g : Graph} {u w : ℕ} {legs : List Leg} (c x : ℕ) → Walk g u legs w → Distinct (edges_of legs) → In x (froms legs)
    → ToEither g (edges_of legs) c x u w
to_an_end c x (last e j) d i = inl (rw (eq_of_singleton i) here)
to_an_end c x (then e j k) d (first p) = inl (rw p here)
to_an_end c x (then e j k) d (later i) = elim (ℕ_discrete e c) [
  | yes q ↦ inr (reach_map (λ y l. (later l, λ p. head_distinct d (Memᴰ.cast (q ∙ sym p) l))) (walk_reach x k i))
  | no n ↦ ⊎_map (λ r. reach_trans (reach_map (λ y l. (later l.0, l.1)) r) (over e (first refl, n) (joins_sym j) here))
      (reach_map (λ y l. (later l.0, l.1))) (to_an_end c x k (tail_distinct d) i)
]

-- the same from whatever the walk's edges end at
walk_exit : {g : Graph} {u w : ℕ} {legs : List Leg} (c x : ℕ) → Walk g u legs w → Distinct (edges_of legs) → Built g (edges_of legs) x
    → ToEither g (edges_of legs) c x u w
walk_exit c x k d h = elim (on x k h) [ inl i ↦ to_an_end c x k d i | inr p ↦ inr (rw p here) ]

module _ {g : Graph} {built : List ℕ} {u w : ℕ} {legs : List Leg} (s : Stage g built) (k : MaderPath g built u legs w)
    (once : Distinct (edges_of legs ++ built)) (apart : BareApart g built u w) where
  sum : (x : ℕ) → degree g (edges_of legs ++ built) x ≡ degree g (edges_of legs) x + degree g built x
  sum x = degree-append g (edges_of legs) built x

  -- a branch is an old one, or an end of the Mader-path
  branches : (x : ℕ) → Branch g (edges_of legs ++ built) x → Branch g built x ⊎ ((x ≡ u) ⊎ (x ≡ w))
  branches x h = elim (ℕ_discrete x u) [
    | yes p ↦ inr (inl p)
    | no n ↦ elim (ℕ_discrete x w) [
      | yes p ↦ inr (inr p)
      | no m ↦ elim (dec_le 3 (degree g built x)) [
        | yes b ↦ inl b
        | no f ↦ let i = on_inner x k.walk n m (omega (arith, sum x)) in
            absurd (k.fresh x i (omega (arith, sum x, inner_most x k.walk n m k.simple)))
      ]
    ]
  ]

  -- so it reaches an old branch past c and d
  leave_branch : (c d x : ℕ) → Branch g (edges_of legs ++ built) x → Exit g built (LessTwo (edges_of legs ++ built) c d) x
  leave_branch c d x h = elim (branches x h) [
    | inl b ↦ record { to = x; branch = b; reach = here }
    | inr (inl p) ↦ rw p (leave_end c d s k.begins k.ends once along apart)
    | inr (inr p) ↦ rw p (leave_end c d s k.ends k.begins once (reach_sym along) (λ n m r. apart m n (reach_sym r)))
  ]
    where
      along : Reach g (λ e. In e (edges_of legs)) u w
      along = walk_reach u k.walk (from_first k.walk)

  -- what comes to an old vertex y over the Mader-path less c goes on from there
  exit : (c x y : ℕ) → Reach g (LessOne (edges_of legs) c) x y → Built g built y
      → Exit g (edges_of legs ++ built) (LessOne (edges_of legs ++ built) c) x
  exit c x y r h = exit_via (λ v b. omega (arith, sum v)) (λ e l. (in_right (edges_of legs) l.0, l.1))
      (reach_map (λ e l. (in_left built l.0, l.1)) r) (s.two c y h)

  pub stage_path : Stage g (edges_of legs ++ built)
  stage_path = record {
    three = λ c d x y hx hy.
        let p = leave_branch c d x hx in
        let q = leave_branch c d y hy in
        let r = s.three c d p.to q.to p.branch q.branch in
        reach_trans p.reach (reach_trans (reach_map (λ e l. (in_right (edges_of legs) l.0, l.1, l.2)) r) (reach_sym q.reach));
    two = λ c x h. elim (dec_le 1 (degree g built x)) [
      | yes b ↦ exit c x x here b
      | no n ↦ elim (walk_exit c x k.walk (left_distinct (edges_of legs) built once) (omega (arith, sum x))) [
        | inl r ↦ exit c x u r k.begins
        | inr r ↦ exit c x w r k.ends
      ]
    ];
  }

-- Three paths.

-- a walk between a and b, in either direction
module _ {g : Graph} {a b : ℕ} {legs : List Leg} where
  between_degree : Between g a legs b → 1 ≤ degree g (edges_of legs) a
  between_degree (inl k) = start-degree k
  between_degree (inr k) = stop-degree k

  between_reach : Between g a legs b → Reach g (λ e. In e (edges_of legs)) a b
  between_reach (inl k) = walk_reach a k (from_first k)
  between_reach (inr k) = reach_sym (walk_reach b k (from_first k))

  between_inner : (x : ℕ) → Between g a legs b → (x ≡ a → ⊥) → (x ≡ b → ⊥) → Built g (edges_of legs) x → In x (inner legs)
  between_inner x (inl k) n m h = on_inner x k n m h
  between_inner x (inr k) n m h = on_inner x k m n h

  between_most : (x : ℕ) → Between g a legs b → (x ≡ a → ⊥) → (x ≡ b → ⊥) → Distinct (inner legs) → degree g (edges_of legs) x ≤ 2
  between_most x (inl k) n m d = inner_most x k n m d
  between_most x (inr k) n m d = inner_most x k m n d

  between_exit : (c x : ℕ) → Between g a legs b → Distinct (edges_of legs) → Built g (edges_of legs) x → ToEither g (edges_of legs) c x a b
  between_exit c x (inl k) d h = walk_exit c x k d h
  between_exit c x (inr k) d h = ⊎_swap (walk_exit c x k d h)

-- several walks between a and b
abbrev pub AllBetween : Graph → ℕ → List (List Leg) → ℕ → Type 0
AllBetween g a walks b = (legs : List Leg) → In legs walks → Between g a legs b

module _ {g : Graph} {a b : ℕ} where
  -- each of them has an edge at a
  pub all_degree : (walks : List (List Leg)) → AllBetween g a walks b → length walks ≤ degree g (all_edges walks) a
  all_degree [] f = omega arith
  all_degree (legs ∷ walks) f = let rest = all_degree walks (λ l i. f l (later i)) in
      omega (arith, degree-append g (edges_of legs) (all_edges walks) a, between_degree (f legs (first refl)))

  -- what they touch besides a and b is inside one of them, and has at most two edges
  pub all_inner_lem : (walks : List (List Leg)) (x : ℕ) → AllBetween g a walks b → (x ≡ a → ⊥) → (x ≡ b → ⊥) → Built g (all_edges walks) x
      → In x (all_inner walks)
  all_inner_lem [] x f n m h = absurd (omega arith)
  all_inner_lem (legs ∷ walks) x f n m h = elim (dec_le 1 (degree g (edges_of legs) x)) [
    | yes p ↦ in_left (all_inner walks) (between_inner x (f legs (first refl)) n m p)
    | no q ↦ let rest : Built g (all_edges walks) x = omega (arith, degree-append g (edges_of legs) (all_edges walks) x) in
        in_right (inner legs) (all_inner_lem walks x (λ l i. f l (later i)) n m rest)
  ]

  pub all_most : (walks : List (List Leg)) (x : ℕ) → AllBetween g a walks b → (x ≡ a → ⊥) → (x ≡ b → ⊥) → Distinct (all_inner walks)
      → degree g (all_edges walks) x ≤ 2
  all_most [] x f n m d = omega arith
  all_most (legs ∷ walks) x f n m d =
      let sum = degree-append g (edges_of legs) (all_edges walks) x in
      let this = f legs (first refl) in
      let others : AllBetween g a walks b = λ l i. f l (later i) in
      let p = between_most x this n m (left_distinct (inner legs) (all_inner walks) d) in
      let q = all_most walks x others n m (right_distinct (inner legs) d) in
      elim (dec_le 1 (degree g (edges_of legs) x)) [
        | yes h ↦ elim (dec_le 1 (degree g (all_edges walks) x)) [
          | yes i ↦ absurd (apart_distinct (inner legs) d (between_inner x this n m h) (all_inner_lem walks x others n m i))
          | no i ↦ omega arith
        ]
        | no h ↦ omega arith
      ]

  -- past c each vertex that they touch reaches a or b
  all_exit : (walks : List (List Leg)) (c x : ℕ) → AllBetween g a walks b → Distinct (all_edges walks) → Built g (all_edges walks) x
      → ToEither g (all_edges walks) c x a b
  all_exit [] c x f d h = absurd (omega arith)
  all_exit (legs ∷ walks) c x f d h = elim (dec_le 1 (degree g (edges_of legs) x)) [
    | yes p ↦ widen (λ e. in_left (all_edges walks)) (between_exit c x (f legs (first refl)) (left_distinct (edges_of legs) (all_edges walks) d) p)
    | no q ↦ let rest : Built g (all_edges walks) x = omega (arith, degree-append g (edges_of legs) (all_edges walks) x) in
        widen (λ e. in_right (edges_of legs)) (all_exit walks c x (λ l i. f l (later i)) (right_distinct (edges_of legs) d) rest)
  ]
    where
      widen : {part : List ℕ} → ((e : ℕ) → In e part → In e (edges_of legs ++ all_edges walks)) → ToEither g part c x a b
          → ToEither g (edges_of legs ++ all_edges walks) c x a b
      widen i r = ⊎_map (reach_map (λ e l. (i e l.0, l.1))) (reach_map (λ e l. (i e l.0, l.1))) r

  -- of more walks than edges are cut, one misses them all
  all_cross : (cut : List ℕ) (walks : List (List Leg)) → length cut < length walks → AllBetween g a walks b → Distinct (all_edges walks)
      → Reach g (λ e. In e (all_edges walks) × Without cut e) a b
  all_cross cut [] h f d = absurd (omega arith)
  all_cross cut (legs ∷ walks) h f d = elim (common cut (edges_of legs)) [
    | inl (c, i, j) ↦
        let r = remove g i in
        let other : (e : ℕ) → In e (all_edges walks) → e ≡ c → ⊥ = λ e m p. apart_distinct (edges_of legs) d j (Memᴰ.cast (sym p) m) in
        reach_map (λ e l. (in_right (edges_of legs) l.0, λ k. l.1 (r.kept e (other e l.0) k)))
        (all_cross r.rest walks (omega (arith, r.fewer)) (λ l i. f l (later i)) (right_distinct (edges_of legs) d))
    | inr n ↦ reach_map (λ e i. (in_left (all_edges walks) i, λ k. n e k i)) (between_reach (f legs (first refl)))
  ]

pub stage_theta : {g : Graph} {a b : ℕ} {walks : List (List Leg)} → Theta g a b walks → Distinct (all_edges walks) → Stage g (all_edges walks)
stage_theta {g} {a} {b} {walks} t once = record { three = three; two = two }
  where
    ends : (x : ℕ) → Branch g (all_edges walks) x → (x ≡ a) ⊎ (x ≡ b)
    ends x h = elim (ℕ_discrete x a) [
      | yes p ↦ inl p
      | no n ↦ elim (ℕ_discrete x b) [
        | yes p ↦ inr p
        | no m ↦ absurd (omega (arith, all_most walks x t.between n m (tail_distinct (tail_distinct t.simple))))
      ]
    ]

    cross : (c d : ℕ) → Reach g (LessTwo (all_edges walks) c d) a b
    cross c d = reach_map (λ e l. (l.0, (λ p. l.1 (first p)), (λ p. l.1 (later (first p)))))
        (all_cross (c ∷ (d ∷ [])) walks (omega (arith, t.three)) t.between once)

    three : (c d x y : ℕ) → Branch g (all_edges walks) x → Branch g (all_edges walks) y → Reach g (LessTwo (all_edges walks) c d) x y
    three c d x y hx hy = elim (ends x hx) [
      | inl p ↦ elim (ends y hy) [ inl q ↦ rw (p, q) here | inr q ↦ rw (p, q) (cross c d) ]
      | inr p ↦ elim (ends y hy) [ inl q ↦ rw (p, q) (reach_sym (cross c d)) | inr q ↦ rw (p, q) here ]
    ]

    two : (c x : ℕ) → Built g (all_edges walks) x → Exit g (all_edges walks) (LessOne (all_edges walks) c) x
    two c x h = elim (all_exit walks c x t.between once h) [
      | inl r ↦ record { to = a; branch = omega (arith, t.three, all_degree walks t.between); reach = r }
      | inr r ↦ record { to = b; branch = omega (arith, t.three, all_degree walks (λ l i. ⊎_swap (t.between l i))); reach = r }
    ]
