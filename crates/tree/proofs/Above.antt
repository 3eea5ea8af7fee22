-- The laws of a tree: which vertices are above which, which edges are in it, and where a climb leads.
use mathlib.Core.Path.{◌≡◌, refl, sym, ap, ◌∙◌, subst}
use mathlib.Core.Logic.{◌⊎◌, inl, inr}
use mathlib.Core.List.Memᴰ.{cases_cons as in-cons}
use mathlib.Core.List.Memᴰ.{head as first}
use mathlib.Core.List.Memᴰ.{not-nil as not_in}
use mathlib.Core.List.Memᴰ.{tail as later}
use mathlib.Core.List.{List, [], ◌∷◌, Memᴰ as In}
use Prim.Native.Nat.{ℕ, zero, suc, ◌≤◌, ◌<◌}
use native.Mathlib.Omega.{arith}
use native.Mathlib.Decide.{ℕ_discrete}
use Rattle.connectivity.specs.Lists.{Distinct, no_member, one}
use Rattle.connectivity.specs.Graph.{Graph, Vertex, Joins}
use Rattle.connectivity.specs.Walk.{Leg, Walk, last, then, froms, edges_of, hits}
use Rattle.connectivity.proofs.Reach.{joins_sym, joins_vertex}
use Rattle.connectivity.proofs.Degree.{hits_from, hits_on}
use Rattle.connectivity.proofs.Legs.{leg}
use Rattle.tree.specs.Tree.{Pointers, Child, Above, same, higher, Tree, Preorder, OffTree, Back, Climb, there, on}

pub same_suc : {x y : ℕ} → suc x ≡ suc y → x ≡ y
same_suc p = omega (arith, p)

-- a vertex is the root or has a parent
pub child_or_root : {g : Graph} (t : Pointers) {v : ℕ} → Vertex g v → (v ≡ t.root) ⊎ Child g t v
child_or_root t {v} h = elim (ℕ_discrete v t.root) [ yes p ↦ inl p | no n ↦ inr (record { vertex = h; other = n }) ]

pub above_trans : {g : Graph} {t : Pointers} {u v w : ℕ} → Above g t u v → Above g t v w → Above g t u w
above_trans a same = a
above_trans a (higher c b) = higher c (above_trans a b)

-- what is above v is v, or above its parent
pub above_cases : {g : Graph} {t : Pointers} {u v : ℕ} → Above g t u v → (u ≡ v) ⊎ (Child g t v × Above g t u (t.parent v))
above_cases same = inl refl
above_cases (higher c a) = inr (c, a)

-- of two vertices above a third, one is above the other
pub above_both : {g : Graph} {t : Pointers} {u v w : ℕ} → Above g t u w → Above g t v w → Above g t u v ⊎ Above g t v u
above_both same b = inr b
above_both (higher c a) same = inl (higher c a)
above_both (higher c a) (higher d b) = above_both a b

module _ {g : Graph} {t : Pointers} (tree : Tree g t) where
  pub above_rank : {u v : ℕ} → Above g t u v → t.rank u ≤ t.rank v
  above_rank same = omega arith
  above_rank (higher {v = v} c a) = omega (arith, above_rank a, tree.falls v c)

  pub above_once : {u v : ℕ} → Above g t u v → Above g t v u → u ≡ v
  above_once same b = refl
  above_once (higher {v = v} c a) b = absurd (omega (arith, above_rank a, tree.falls v c, above_rank b))

  -- no vertex is above its parent
  pub not_over : {v : ℕ} → Child g t v → Above g t v (t.parent v) → ⊥
  not_over {v} c a = omega (arith, above_rank a, tree.falls v c)

  pub parent_vertex : {v : ℕ} → Child g t v → Vertex g (t.parent v)
  parent_vertex {v} c = joins_vertex (joins_sym (tree.joins v c))

  -- the root is above every vertex
  pub root_above : {v : ℕ} → Vertex g v → Above g t t.root v
  root_above {v} h = go (suc (t.rank v)) v (omega arith) h
    where
      go : (m v : ℕ) → t.rank v < m → Vertex g v → Above g t t.root v
      go zero v l h = absurd (omega arith)
      go (suc m) v l h = elim (child_or_root t h) [
        | inl p ↦ rw p same
        | inr c ↦ higher c (go m (t.parent v) (omega (arith, tree.falls v c)) (parent_vertex c))
      ]

  -- the first edge of a vertex leads to its parent
  pub first_leads : {e u v : ℕ} → Child g t u → e ≡ t.first u → Joins g e u v → v ≡ t.parent u
  first_leads {e} {u} {v} c p j = elim (hits_on v up (omega (arith, hits_from (joins_sym j)))) [
    | inl q ↦ elim (hits_on (t.parent u) j (omega (arith, hits_from (joins_sym up)))) [
      | inl r ↦ absurd (loop r)
      | inr r ↦ sym r
    ]
    | inr q ↦ q
  ]
    where
      up : Joins g e u (t.parent u)
      up = subst (λ (d : ℕ). Joins g d u (t.parent u)) (sym p) (tree.joins u c)

      loop : t.parent u ≡ u → ⊥
      loop r = not_over c (rw r same)

  -- an edge is the first one of one of its ends, or not in the tree
  pub tree_cases : {e u v : ℕ} → Joins g e u v
      → ((Child g t u × (e ≡ t.first u)) ⊎ (Child g t v × (e ≡ t.first v))) ⊎ OffTree g t e
  tree_cases {e} {u} {v} j = go (ask u (joins_vertex j)) (ask v (joins_vertex (joins_sym j)))
    where
      ask : (x : ℕ) → Vertex g x → (Child g t x × (e ≡ t.first x)) ⊎ (Child g t x → e ≡ t.first x → ⊥)
      ask x h = elim (child_or_root t h) [
        | inl p ↦ inr (λ c q. c.other p)
        | inr c ↦ elim (ℕ_discrete e (t.first x)) [ yes q ↦ inl (c, q) | no n ↦ inr (λ d. n) ]
      ]

      go : (Child g t u × (e ≡ t.first u)) ⊎ (Child g t u → e ≡ t.first u → ⊥)
          → (Child g t v × (e ≡ t.first v)) ⊎ (Child g t v → e ≡ t.first v → ⊥)
          → ((Child g t u × (e ≡ t.first u)) ⊎ (Child g t v × (e ≡ t.first v))) ⊎ OffTree g t e
      go (inl p) q = inl (inl p)
      go (inr n) (inl q) = inl (inr q)
      go (inr n) (inr m) = inr (λ x c p.
          let up : Joins g e x (t.parent x) = subst (λ (d : ℕ). Joins g d x (t.parent x)) (sym p) (tree.joins x c) in
          elim (hits_on x j (omega (arith, hits_from up))) [
            | inl q ↦ n (subst (Child g t) q c) (subst (λ (y : ℕ). e ≡ t.first y) q p)
            | inr q ↦ m (subst (Child g t) q c) (subst (λ (y : ℕ). e ≡ t.first y) q p)
          ])

  -- no two vertices have one first edge
  pub first_once : {u v : ℕ} → Child g t u → Child g t v → t.first u ≡ t.first v → u ≡ v
  first_once {u} {v} c d p = elim (hits_on v (tree.joins u c) (omega (arith, hits_from below))) [
    | inl q ↦ sym q
    | inr q ↦ elim (hits_on u below (omega (arith, hits_from (tree.joins u c)))) [
      | inl r ↦ r
      | inr r ↦ absurd (omega (arith, lower (sym q) (tree.falls u c), lower (sym r) (tree.falls v d)))
    ]
  ]
    where
      lower : {x y z : ℕ} → x ≡ y → t.rank x < t.rank z → t.rank y < t.rank z
      lower {z = z} q h = subst (λ (y : ℕ). t.rank y < t.rank z) q h

      below : Joins g (t.first u) v (t.parent v)
      below = subst (λ (e : ℕ). Joins g e v (t.parent v)) (sym p) (tree.joins v d)

  -- an edge that is not in the tree has one upper end and one lower end
  pub back_once : {f s w y z : ℕ} → Back g t f s w → Back g t f y z → (y ≡ s) × (z ≡ w)
  back_once {f} {s} {w} {y} {z} p q = go (on_p y (hits_from q.joins)) (on_p z (hits_from (joins_sym q.joins))) (on_q s (hits_from p.joins))
      (on_q w (hits_from (joins_sym p.joins)))
    where
      on_p : (x : ℕ) → hits g f x ≡ 1 → (x ≡ s) ⊎ (x ≡ w)
      on_p x h = hits_on x p.joins (omega arith)

      on_q : (x : ℕ) → hits g f x ≡ 1 → (x ≡ y) ⊎ (x ≡ z)
      on_q x h = hits_on x q.joins (omega arith)

      go : (y ≡ s) ⊎ (y ≡ w) → (z ≡ s) ⊎ (z ≡ w) → (s ≡ y) ⊎ (s ≡ z) → (w ≡ y) ⊎ (w ≡ z) → (y ≡ s) × (z ≡ w)
      go (inl a) (inr b) k l = (a, b)
      go (inl a) (inl b) k (inl d) = (a, cc)
      go (inl a) (inl b) k (inr d) = (a, sym d)
      go (inr a) (inr b) (inl k) l = (sym k, b)
      go (inr a) (inr b) (inr k) l = (cc, b)
      go (inr a) (inl b) k l = let h : s ≡ w = above_once p.above (subst (λ (x : ℕ). Above g t x s) a (subst (Above g t y) b q.above)) in (a ∙ sym h, b ∙ h)

-- where what comes between a vertex and one below it is below it, the last number below a vertex tells what is
pub preorder_from : {g : Graph} {t : Pointers} {last : ℕ → ℕ}
    → ((u v w : ℕ) → Vertex g u → Vertex g v → Above g t u w → t.rank u ≤ t.rank v → t.rank v ≤ t.rank w → Above g t u v)
    → ((c : ℕ) → Vertex g c → (z : ℕ) × Above g t c z × (last c ≡ t.rank z))
    → ((c w : ℕ) → Above g t c w → Vertex g c → t.rank w ≤ last c) → Preorder g t last
preorder_from between some most = record {
  within = most;
  below = λ c w hc hw low high. let (z, a, p) = some c hc in between c w z hc hw a low (omega (arith, high, p));
}

-- Climbs.

-- what is in S, its parent is
abbrev pub UpClosed : Graph → Pointers → (ℕ → Type 0) → Type 0
UpClosed g t S = (v : ℕ) → Child g t v → S v → S (t.parent v)

-- the vertex below w on the way up from v
pub record Last (g : Graph) (t : Pointers) (S : ℕ → Type 0) (v w : ℕ) : Type 0 where
  pub at : ℕ
  pub child : Child g t at
  pub leads : t.parent at ≡ w
  pub above : Above g t at v
  pub new : S at → ⊥

module _ {g : Graph} {t : Pointers} {S : ℕ → Type 0} where
  pub up_closed : UpClosed g t S → {u v : ℕ} → Above g t u v → S v → S u
  up_closed f same s = s
  up_closed f (higher {v = v} c a) s = up_closed f a (f v c s)

  pub climb_end : {v w : ℕ} {legs : List Leg} → Climb g t S v legs w → S w
  climb_end (there s) = s
  climb_end (on c n k) = climb_end k

  pub climb_above : {v w : ℕ} {legs : List Leg} → Climb g t S v legs w → Above g t w v
  climb_above (there s) = same
  climb_above (on c n k) = higher c (climb_above k)

  pub climb_new : {v w x : ℕ} {legs : List Leg} → Climb g t S v legs w → In x (froms legs) → S x → ⊥
  climb_new (there s) i = absurd (not_in i)
  climb_new (on c n k) i = elim (in-cons i) [ inl p ↦ rw p n | inr m ↦ climb_new k m ]

  -- from what is in S no leg leads
  pub climb_here : {v w : ℕ} {legs : List Leg} → S v → Climb g t S v legs w → w ≡ v
  climb_here s (there h) = refl
  climb_here s (on c n k) = absurd (n s)

  -- from below in S to the parent
  pub climb_one : {v w : ℕ} {legs : List Leg} → (S v → ⊥) → S (t.parent v) → Climb g t S v legs w → w ≡ t.parent v
  climb_one n s (there h) = absurd (n h)
  climb_one n s (on c m k) = climb_here s k

  -- what is in S and above the start is above the end
  pub climb_below : {u v w : ℕ} {legs : List Leg} → Climb g t S v legs w → Above g t u v → S u → Above g t u w
  climb_below (there s) a h = a
  climb_below (on c n k) same h = absurd (n h)
  climb_below (on c n k) (higher d a) h = climb_below k a h

  pub climb_last : {v w : ℕ} {legs : List Leg} → (S v → ⊥) → Climb g t S v legs w → Last g t S v w
  climb_last n (there s) = absurd (n s)
  climb_last n (on {v = v} c m (there s)) = record { at = v; child = c; leads = refl; above = same; new = m }
  climb_last n (on c m (on d o k)) = let r = climb_last o (on d o k) in
      record { at = r.at; child = r.child; leads = r.leads; above = higher c r.above; new = r.new }

  -- from a vertex above the start that is not in S, the same end
  pub climb_part : UpClosed g t S → {u v w : ℕ} {legs : List Leg} → Climb g t S v legs w → Above g t u v → (S u → ⊥)
      → (rest : List Leg) × Climb g t S u rest w
  climb_part f {legs = legs} k same n = (legs, k)
  climb_part f (there s) (higher c a) n = absurd (n (up_closed f (higher c a) s))
  climb_part f (on c m k) (higher d a) n = climb_part f k a n

  -- and from one below it
  pub climb_join : UpClosed g t S → {u v w : ℕ} {legs : List Leg} → Climb g t S u legs w → Above g t u v → (S u → ⊥)
      → (more : List Leg) × Climb g t S v more w
  climb_join f {legs = legs} k same n = (legs, k)
  climb_join f k (higher {v = v} c a) n = let r = climb_join f k a n in
      (leg (t.first v) v ∷ r.0, on c (λ s. n (up_closed f (higher c a) s)) r.1)

-- the same climb to another set, of which it meets only the end
pub climb_as : {g : Graph} {t : Pointers} {S R : ℕ → Type 0} {v w : ℕ} {legs : List Leg} → Climb g t S v legs w → R w
    → ((x : ℕ) → In x (froms legs) → R x → ⊥) → Climb g t R v legs w
climb_as (there s) r f = there r
climb_as (on {v = v} c n k) r f = on c (f v (first refl)) (climb_as k r (λ x i. f x (later i)))

-- there is one climb from a vertex to a set
pub climb_same : {g : Graph} {t : Pointers} {S : ℕ → Type 0} {v w y : ℕ} {legs more : List Leg} → Climb g t S v legs w → Climb g t S v more y
    → (legs ≡ more) × (w ≡ y)
climb_same (there s) (there r) = (refl, refl)
climb_same (there s) (on d o j) = absurd (o s)
climb_same (on c n k) (there r) = absurd (n r)
climb_same {t = t} (on {v = v} c n k) (on d o j) = let r = climb_same k j in (ap (λ (l : List Leg). leg (t.first v) v ∷ l) r.0, r.1)

-- every climb ends, where S is decided and has a vertex above the start
pub climb_to : {g : Graph} {t : Pointers} {S : ℕ → Type 0} → ((v : ℕ) → Dec (S v)) → {u v : ℕ} → Above g t u v → S u
    → (legs : List Leg) × (w : ℕ) × Climb g t S v legs w
climb_to d (same {v = v}) s = ([], v, there s)
climb_to {t = t} d (higher {v = v} c a) s = elim (d v) [
  | yes h ↦ ([], v, there h)
  | no n ↦ let r = climb_to d a s in (leg (t.first v) v ∷ r.0, r.1, on c n r.2)
]

-- from a vertex up to one above it
pub way_up : {g : Graph} {t : Pointers} {u w : ℕ} → Above g t w u → (legs : List Leg) × Climb g t (λ y. y ≡ w) u legs w
way_up {g} {t} {u} {w} a = let (legs, x, k) = climb_to (λ y. ℕ_discrete y w) a refl in
    (legs, subst (λ (z : ℕ). Climb g t (λ y. y ≡ w) u legs z) (climb_end k) k)

-- what is above the start is left, or above the end
pub climb_cases : {g : Graph} {t : Pointers} {S : ℕ → Type 0} {v w z : ℕ} {legs : List Leg} → Climb g t S v legs w → Above g t z v
    → In z (froms legs) ⊎ Above g t z w
climb_cases (there h) a = inr a
climb_cases (on c n k) a = elim (above_cases a) [
  | inl p ↦ inl (first p)
  | inr b ↦ elim (climb_cases k b.1) [ inl i ↦ inl (later i) | inr h ↦ inr h ]
]

-- what is below c is c, or a child of c or below it
pub above_child : {g : Graph} {t : Pointers} {c w : ℕ} → Above g t c w → (w ≡ c) ⊎ ((d : ℕ) × Child g t d × (t.parent d ≡ c) × Above g t d w)
above_child {c = c} {w = w} a = elim (ℕ_discrete w c) [
  | yes p ↦ inl p
  | no n ↦ let (legs, z, k) = climb_to (λ v. ℕ_discrete v c) a refl in let d = climb_last n k in
      inr (d.at, d.child, d.leads ∙ climb_end k, d.above)
]

module _ {g : Graph} {t : Pointers} {S : ℕ → Type 0} (tree : Tree g t) where
  climb_rank : {v w x : ℕ} {legs : List Leg} → Climb g t S v legs w → In x (froms legs) → t.rank x ≤ t.rank v
  climb_rank (there s) i = absurd (not_in i)
  climb_rank (on {v = v} c n k) i = elim (in-cons i) [ inl p ↦ rw p (omega arith) | inr m ↦ omega (arith, climb_rank k m, tree.falls v c) ]

  -- a climb leaves no vertex twice
  pub climb_once : {v w : ℕ} {legs : List Leg} → Climb g t S v legs w → Distinct (froms legs)
  climb_once (there s) = no_member
  climb_once (on {v = v} {legs = legs} c n k) = one {x = v} (λ (i : In v (froms legs)). omega (arith, climb_rank k i, tree.falls v c)) (climb_once k)

  -- its edges are first edges of what it leaves
  pub climb_first : {v w x : ℕ} {legs : List Leg} → Climb g t S v legs w → In x (froms legs) → In (t.first x) (edges_of legs)
  climb_first (there s) i = absurd (not_in i)
  climb_first (on c n k) i = elim (in-cons i) [ inl p ↦ rw p (first refl) | inr m ↦ later (climb_first k m) ]

  pub climb_edge : {v w e : ℕ} {legs : List Leg} → Climb g t S v legs w → In e (edges_of legs)
      → (x : ℕ) × Child g t x × In x (froms legs) × (e ≡ t.first x)
  climb_edge (there s) i = absurd (not_in i)
  climb_edge (on {v = v} c n k) i = elim (in-cons i) [
    | inl p ↦ (v, c, first refl, p)
    | inr m ↦ let r = climb_edge k m in (r.0, r.1, later r.2, r.3)
  ]

  -- and all different
  pub climb_edges : {v w : ℕ} {legs : List Leg} → Climb g t S v legs w → Distinct (edges_of legs)
  climb_edges (there s) = no_member
  climb_edges (on {v = v} {legs = legs} c n k) = one {x = t.first v} off (climb_edges k)
    where
      off : In (t.first v) (edges_of legs) → ⊥
      off i = let r = climb_edge k i in
          omega (arith, tree.falls v c, rw (← first_once tree c r.1 r.3) at (climb_rank k r.2))

  pub climb_child : {v w x : ℕ} {legs : List Leg} → Climb g t S v legs w → In x (froms legs) → Child g t x
  climb_child (there s) i = absurd (not_in i)
  climb_child (on c n k) i = elim (in-cons i) [ inl p ↦ subst (Child g t) (sym p) c | inr m ↦ climb_child k m ]

  pub climb_on : {v w x : ℕ} {legs : List Leg} → Climb g t S v legs w → In x (froms legs) → Above g t x v
  climb_on (there s) i = absurd (not_in i)
  climb_on (on c n k) i = elim (in-cons i) [ inl p ↦ rw p same | inr m ↦ higher c (climb_on k m) ]

  -- where it leads from what it leaves
  pub climb_next : {v w x : ℕ} {legs : List Leg} → Climb g t S v legs w → In x (froms legs) → In (t.parent x) (froms legs) ⊎ (t.parent x ≡ w)
  climb_next (there s) i = absurd (not_in i)
  climb_next (on {v = v} c n (there s)) i = elim (in-cons i) [ inl p ↦ inr (ap t.parent p) | inr m ↦ absurd (not_in m) ]
  climb_next (on {v = v} c n (on d o k)) i = elim (in-cons i) [
    | inl p ↦ inl (later (first (ap t.parent p)))
    | inr m ↦ elim (climb_next (on d o k) m) [ inl h ↦ inl (later h) | inr h ↦ inr h ]
  ]

  -- it leaves what lies between what it leaves
  pub climb_between : {v w x y : ℕ} {legs : List Leg} → Climb g t S v legs w → In x (froms legs) → Above g t x y → Above g t y v → In y (froms legs)
  climb_between (there s) i a b = absurd (not_in i)
  climb_between {y = y} (on {v = v} c n k) i a b = elim (above_cases b) [
    | inl p ↦ first p
    | inr h ↦ elim (in-cons i) [
      | inl p ↦ absurd (not_over tree c (above_trans (subst (λ (x : ℕ). Above g t x y) p a) h.1))
      | inr m ↦ later (climb_between k m a h.1)
    ]
  ]

  -- its end is above what it leaves
  pub climb_under : {v w x : ℕ} {legs : List Leg} → Climb g t S v legs w → In x (froms legs) → Above g t w x
  climb_under (there s) i = absurd (not_in i)
  climb_under {w = w} (on c m k) i = elim (in-cons i) [ inl p ↦ subst (Above g t w) (sym p) (higher c (climb_above k)) | inr o ↦ climb_under k o ]

  -- an edge, then a climb
  pub climb_walk : {f s v w : ℕ} {legs : List Leg} → Joins g f s v → Climb g t S v legs w → Walk g s (leg f s ∷ legs) w
  climb_walk j (there h) = last _ j
  climb_walk {f = f} {s = s} j (on {v = v} c n k) = then _ j (climb_walk {f = t.first v} {s = v} (tree.joins v c) k)
