-- A vertex inside a link becomes a branch: of the parts above and below it one keeps the place of the link, the other gets the next free one.
-- The tips of the parts are known, and a new link is named after the vertex.
use mathlib.Core.Path.{◌≡◌, refl, sym, ap, ◌∙◌, subst}
use mathlib.Core.Logic.{◌⊎◌, inl, inr}
use mathlib.Core.List.Memᴰ.{cases_cons as in-cons}
use mathlib.Core.List.{List, ◌∷◌, Memᴰ as In}
use Prim.Native.Nat.{ℕ, suc, ◌+◌, ◌≤◌, ◌<◌}
use native.Mathlib.Omega.{arith}
use native.Mathlib.Decide.{ℕ_discrete}
use Rattle.connectivity.specs.Lists.{one}
use Rattle.connectivity.specs.Graph.{Graph, Vertex}
use Rattle.connectivity.specs.Walk.{Leg, froms}
use Rattle.tree.specs.Tree.{Pointers, Child, Above, same, higher, Tree, Climb}
use Rattle.tree.specs.Filed.{Split, Marked, parted, Tips, Belows}
use Rattle.tree.specs.Links.{Shelved, Tipped, gone, tipped, Namer, branch as on_branch, bottom as on-bottom, Links}
use Rattle.tree.proofs.Above.{same_suc, above_trans, above_cases, above_both, above_once, not_over, parent_vertex, climb_cases, climb_on, climb_under, climb_above}
use Rattle.tree.proofs.Splitting.{split_before, tips_upper, tips_lower, none_lower, tips_away}
use Rattle.tree.proofs.Under.{link_up, link_down}
use Rattle.tree.proofs.NewLink.{vertices_most}

-- Ways up.

pub above_vertex : {g : Graph} {t : Pointers} {u v : ℕ} → Tree g t → Above g t u v → Vertex g v → Vertex g u
above_vertex tree same h = h
above_vertex tree (higher c a) h = above_vertex tree a (parent_vertex tree c)

-- a climb passes all that lies between its ends
climb_all : {g : Graph} {t : Pointers} {S : ℕ → Type 0} {u w y : ℕ} {legs : List Leg} → Tree g t → Climb g t S u legs w → Above g t w y → Above g t y u
    → In y (froms legs) ⊎ (y ≡ w)
climb_all tree k a b = elim (climb_cases k b) [ inl i ↦ inl i | inr h ↦ inr (above_once tree h a) ]

-- and nothing else
climb_in : {g : Graph} {t : Pointers} {S : ℕ → Type 0} {u w y : ℕ} {legs : List Leg} → Tree g t → Climb g t S u legs w → In y (froms legs) ⊎ (y ≡ w)
    → Above g t w y × Above g t y u
climb_in tree k (inl i) = (climb_under tree k i, climb_on tree k i)
climb_in {g} {t} {u = u} {w = w} tree k (inr p) = (subst (Above g t w) (sym p) same, subst (λ (x : ℕ). Above g t x u) (sym p) (climb_above k))

-- What is renamed.

-- v gets the place 1, what is at its place and in P gets the place m, and nothing else changes
pub record Recast (place after : ℕ → ℕ) (P : ℕ → Type 0) (v m : ℕ) : Type 0 where
  pub at : after v ≡ 1
  pub new : (y : ℕ) → place y ≡ place v → (y ≡ v → ⊥) → P y → after y ≡ m
  pub rest : (y : ℕ) → (y ≡ v → ⊥) → (place y ≡ place v → P y → ⊥) → after y ≡ place y

-- v alone gets the place 1
pub record Lone (place after : ℕ → ℕ) (v : ℕ) : Type 0 where
  pub at : after v ≡ 1
  pub off : (y : ℕ) → (y ≡ v → ⊥) → after y ≡ place y

-- what some legs leave, and their end, gets the place m
pub record Renamed (place after : ℕ → ℕ) (legs : List Leg) (w m : ℕ) : Type 0 where
  pub on : (y : ℕ) → In y (froms legs) → after y ≡ m
  pub end : after w ≡ m
  pub off : (y : ℕ) → (In y (froms legs) → ⊥) → (y ≡ w → ⊥) → after y ≡ place y

-- a table stays as it is below `next`, but for one place
pub record Stays (table table' : ℕ → ℕ) (next m : ℕ) : Type 0 where
  pub off : (k : ℕ) → k < next → (k ≡ m → ⊥) → table' k ≡ table k

-- some legs are where P is
record Covers (place : ℕ → ℕ) (P : ℕ → Type 0) (v : ℕ) (legs : List Leg) (w : ℕ) : Type 0 where
  pub all : (y : ℕ) → place y ≡ place v → (y ≡ v → ⊥) → P y → In y (froms legs) ⊎ (y ≡ w)
  pub only : (y : ℕ) → In y (froms legs) ⊎ (y ≡ w) → (place y ≡ place v) × (y ≡ v → ⊥) × P y

-- first v is marked, then all that some legs leave and their end
recast : {place mid after : ℕ → ℕ} {P : ℕ → Type 0} {v m w : ℕ} {legs : List Leg} → Covers place P v legs w → Lone place mid v → Renamed mid after legs w m
    → Recast place after P v m
recast {after = after} {v = v} {m = m} c o r = record {
  at = r.off v (λ i. (c.only v (inl i)).1 refl) (λ p. (c.only v (inr p)).1 refl) ∙ o.at;
  new = λ y e n p. elim (c.all y e n p) [ inl i ↦ r.on y i | inr q ↦ subst (λ (x : ℕ). after x ≡ m) (sym q) r.end ];
  rest = λ y n out. r.off y (λ i. let d = c.only y (inl i) in out d.0 d.2) (λ p. let d = c.only y (inr p) in out d.0 d.2) ∙ o.off y n;
}

-- a place that has no vertex gets none
abbrev pub StayGone : (ℕ → ℕ) → (ℕ → ℕ) → ℕ → Type 0
StayGone place after next = (k : ℕ) → 2 ≤ k → k < next → ((y : ℕ) → place y ≡ k → ⊥) → (y : ℕ) → after y ≡ k → ⊥

-- what holds when v has become a branch
abbrev pub Becomes : Graph → Pointers → ℕ → (ℕ → ℕ) → ℕ → (ℕ → ℕ) → (ℕ → ℕ) → (ℕ → ℕ) → ℕ → Type 0
Becomes g t v place next after top' bottom' next' =
    Marked g t (λ y. place y ≡ 1) place after v × Links g t after top' bottom' next' × StayGone place after next

-- The new links, as far as they don't depend on what is renamed.

-- no link is named after a vertex inside one that is not its bottom
unnamed : {g : Graph} {t : Pointers} {place top bottom : ℕ → ℕ} {next v x z : ℕ} → Tree g t → (l : Links g t place top bottom next) → 2 ≤ place v
    → Tips g t place (place v) x z → (v ≡ z → ⊥) → In v l.names → ⊥
unnamed {v = v} {z = z} tree l large tips n i = elim (l.namer v i) [
  | on_branch p ↦ absurd (omega (arith, p, large))
  | on-bottom h low ↦ n (above_once tree (tips.lowest v refl) (low z tips.has_bottom))
]

module _ {g : Graph} {t : Pointers} {place after top bottom top' bottom' : ℕ → ℕ} {next v a b : ℕ} (tree : Tree g t) (f : Shelved g t place)
    (l : Links g t place top bottom next) (s : Split g t place after v a b)
    (fresh : (k : ℕ) → k < next → (k ≡ place v → ⊥) → (k ≡ a → ⊥) × (k ≡ b → ⊥))
    (tops : Stays top top' next (place v)) (bottoms : Stays bottom bottom' next (place v)) where
  two_after : {y : ℕ} → 2 ≤ place y → (y ≡ v → ⊥) → 2 ≤ after y
  two_after {y} h n = elim (ℕ_discrete (place y) (place v)) [
    | yes q ↦ elim (f.line y v h q) [
      | inl k ↦ omega (arith, s.upper y q n k, s.large.0)
      | inr k ↦ omega (arith, s.lower y q n k, s.large.1)
    ]
    | no m ↦ omega (arith, s.away y m)
  ]

  -- a kept name
  namer_after : {o : ℕ} → Namer g t place o → Namer g t after o
  namer_after {o} (on_branch p) = on_branch (s.away o (λ q. omega (arith, p, q, s.inside)) ∙ p)
  namer_after {o} (on-bottom h low) = elim (ℕ_discrete o v) [
    | yes p ↦ on_branch (subst (λ (x : ℕ). after x ≡ 1) (sym p) s.at)
    | no n ↦ on-bottom (two_after h n) (λ y e. low y (sym (split_before tree f s (two_after h n) (sym e))))
  ]

  -- what is afterwards at the place of another link was there
  old_place : {k y : ℕ} → 2 ≤ k → k < next → (k ≡ place v → ⊥) → after y ≡ k → place y ≡ k
  old_place {k} {y} h i n e = elim (ℕ_discrete y v) [
    | yes p ↦ absurd (omega (arith, h, e, subst (λ (x : ℕ). after x ≡ 1) (sym p) s.at))
    | no m ↦ elim (ℕ_discrete (place y) (place v)) [
      | yes q ↦ elim (f.line y v (omega (arith, q, s.inside)) q) [
        | inl j ↦ absurd ((fresh k i n).0 (sym e ∙ s.upper y q m j))
        | inr j ↦ absurd ((fresh k i n).1 (sym e ∙ s.lower y q m j))
      ]
      | no o ↦ sym (s.away y o) ∙ e
    ]
  ]

  -- another link
  tipped_after : {k : ℕ} → 2 ≤ k → k < next → (k ≡ place v → ⊥) → Tipped g t after top' bottom' k
  tipped_after {k} h i n = elim (l.each k h i) [
    | gone p none ↦ gone (tops.off k i n ∙ p) (λ y e. none y (old_place h i n e))
    | tipped x z p q tips ↦ tipped x z (tops.off k i n ∙ p) (bottoms.off k i n ∙ q) (tips_away tree f s h n tips)
  ]

  -- no link is new
  links_same : ((y : ℕ) → after y < next) → Tipped g t after top' bottom' (place v) → Links g t after top' bottom' next
  links_same few own = record {
    each = λ k h i. elim (ℕ_discrete k (place v)) [ yes p ↦ subst (λ (m : ℕ). Tipped g t after top' bottom' m) (sym p) own | no n ↦ tipped_after h i n ];
    below = few;
    names = l.names;
    count = l.count;
    once = l.once;
    vertex = l.vertex;
    namer = λ o i. namer_after (l.namer o i);
  }

  -- one is, named after v, which is not the bottom of its own
  links_new : {x z : ℕ} → Tips g t place (place v) x z → (v ≡ z → ⊥) → Vertex g v → ((y : ℕ) → after y < next + 1)
      → Tipped g t after top' bottom' (place v) → Tipped g t after top' bottom' next → Links g t after top' bottom' (next + 1)
  links_new {x} {z} tips n here few own new = record {
    each = λ k h i. elim (ℕ_discrete k next) [
      | yes p ↦ subst (λ (m : ℕ). Tipped g t after top' bottom' m) (sym p) new
      | no o ↦ elim (ℕ_discrete k (place v)) [
        | yes p ↦ subst (λ (m : ℕ). Tipped g t after top' bottom' m) (sym p) own
        | no j ↦ tipped_after h (omega (arith, i, o)) j
      ]
    ];
    below = few;
    names = v ∷ l.names;
    count = omega (arith, l.count);
    once = one (unnamed tree l s.inside tips n) l.once;
    vertex = λ o i. elim (in-cons i) [ inl p ↦ subst (Vertex g) (sym p) here | inr j ↦ l.vertex o j ];
    namer = λ o i. elim (in-cons i) [
      | inl p ↦ on_branch (subst (λ (y : ℕ). after y ≡ 1) (sym p) s.at)
      | inr j ↦ namer_after (l.namer o j)
    ];
  }

  -- a place that had no vertex stays without
  gone_after : StayGone place after next
  gone_after k h i none y e = none y (old_place h i (λ p. none v (sym p)) e)

  few_after : a ≤ next → b ≤ next → (y : ℕ) → after y < next + 1
  few_after p q y = elim (ℕ_discrete (place y) (place v)) [
    | no n ↦ omega (arith, s.away y n, l.below y)
    | yes e ↦ elim (ℕ_discrete y v) [
      | yes i ↦ omega (arith, subst (λ (x : ℕ). after x ≡ 1) (sym i) s.at, s.inside, l.below v)
      | no n ↦ elim (f.line y v (omega (arith, e, s.inside)) e) [
        | inl k ↦ omega (arith, s.upper y e n k)
        | inr k ↦ omega (arith, s.lower y e n k)
      ]
    ]
  ]

-- the tips of the link that v lies inside
pub record Within (g : Graph) (t : Pointers) (place top bottom : ℕ → ℕ) (v : ℕ) : Type 0 where
  pub high : ℕ
  pub low : ℕ
  pub at_high : top (place v) ≡ suc high
  pub at_low : bottom (place v) ≡ suc low
  pub tips : Tips g t place (place v) high low

pub within : {g : Graph} {t : Pointers} {place top bottom : ℕ → ℕ} {next v : ℕ} → Links g t place top bottom next → 2 ≤ place v
    → Within g t place top bottom v
within {v = v} l large = elim (l.each _ large (l.below v)) [
  | gone p none ↦ absurd (none v refl)
  | tipped x z p q tips ↦ record { high = x; low = z; at_high = p; at_low = q; tips = tips }
]

pub tips_vertices : {g : Graph} {t : Pointers} {place : ℕ → ℕ} {v x z : ℕ} → Tree g t → Tips g t place (place v) x z → Vertex g v → Vertex g x × Vertex g z
tips_vertices {g} {v = v} tree tips h = (
  above_vertex tree (tips.highest v refl) h,
  elim (above_cases (tips.lowest v refl)) [
    | inl p ↦ subst (Vertex g) p h
    | inr (c, a) ↦ c.vertex
  ],
)

-- The cases.

-- v lies inside a link with the tips x and z
pub record Lying (g : Graph) (t : Pointers) (place below top bottom : ℕ → ℕ) (next v x z : ℕ) : Type 0 where
  pub tree : Tree g t
  pub shelved : Shelved g t place
  pub belows : Belows g t (λ y. 1 ≤ place y) place below
  pub links : Links g t place top bottom next
  pub large : 2 ≤ place v
  pub tips : Tips g t place (place v) x z

module _ {g : Graph} {t : Pointers} {place below top bottom : ℕ → ℕ} {next v x z : ℕ} (lie : Lying g t place below top bottom next v x z) where
  -- the parent of v and the child below it, where they are inside the link
  pub not_top : (v ≡ x → ⊥) → Child g t v × (place (t.parent v) ≡ place v)
  not_top n = link_up lie.tree lie.shelved lie.belows lie.tips lie.large refl n

  pub not_bottom : (v ≡ z → ⊥) → (c : ℕ) × Child g t c × (t.parent c ≡ v) × (below v ≡ suc c) × (place c ≡ place v)
  not_bottom n = link_down lie.tree lie.shelved lie.belows lie.tips lie.large refl n

  -- a new link may be named after v
  pub part_room : (v ≡ x → ⊥) → (v ≡ z → ⊥) → next < g.bound + 2
  part_room n m = omega (
    arith,
    lie.links.count,
    vertices_most g (v ∷ lie.links.names)
        (one (unnamed lie.tree lie.links lie.large lie.tips m) lie.links.once) (named (not_top n).0.vertex),
  )
    where
      named : Vertex g v → (o : ℕ) → In o (v ∷ lie.links.names) → Vertex g o
      named k o i = elim (in-cons i) [ inl p ↦ subst (Vertex g) (sym p) k | inr j ↦ lie.links.vertex o j ]

  -- the ways that are renamed, where v lies between the tips
  cover_upper : (v ≡ x → ⊥) → {legs : List Leg} → Climb g t (λ y. y ≡ x) (t.parent v) legs x → Covers place (λ y. Above g t y v) v legs x
  cover_upper n k = let (c, e) = not_top n in record {
    all = λ y q o a. elim (above_cases a) [ inl p ↦ absurd (o p) | inr (_, b) ↦ climb_all lie.tree k (lie.tips.highest y q) b ];
    only = λ y i. let (a, b) = climb_in lie.tree k i in (
      lie.shelved.between x y v a (higher c b) (omega (arith, lie.tips.has_top, lie.large)) lie.tips.has_top ∙ lie.tips.has_top,
      λ p. not_over lie.tree c (subst (λ (w : ℕ). Above g t w (t.parent v)) p b),
      higher c b,
    );
  }

  cover_lower : {c : ℕ} {legs : List Leg} → Child g t c → t.parent c ≡ v → place c ≡ place v → Climb g t (λ y. y ≡ c) z legs c
      → Covers place (λ y. Above g t v y) v legs c
  cover_lower {c} d p e k = record {
    all = λ y q o a. climb_all lie.tree k (under y q o a) (lie.tips.lowest y q);
    only = λ y i. let (a, b) = climb_in lie.tree k i in (
      lie.shelved.between c y z a b (omega (arith, e, lie.large)) (e ∙ sym lie.tips.has_bottom) ∙ e,
      λ q. not_over lie.tree d (subst (Above g t c) (q ∙ sym p) a),
      above_trans (higher d (subst (Above g t v) (sym p) same)) a,
    );
  }
    where
      under : (y : ℕ) → place y ≡ place v → (y ≡ v → ⊥) → Above g t v y → Above g t c y
      under y q o a = elim (above_both (lie.tips.lowest c e) (lie.tips.lowest y q)) [
        | inl b ↦ b
        | inr b ↦ elim (above_cases b) [
          | inl r ↦ subst (Above g t c) (sym r) same
          | inr (_, r) ↦ absurd (o (above_once lie.tree (subst (Above g t y) p r) a))
        ]
      ]

  module _ {after : ℕ → ℕ} where
    split_above : Recast place after (λ y. Above g t y v) v next → Split g t place after v next (place v)
    split_above r = record {
      inside = lie.large;
      large = (omega (arith, lie.links.below v), lie.large);
      differ = λ p. omega (arith, p, lie.links.below v);
      at = r.at;
      upper = r.new;
      lower = λ y q n k. r.rest y n (λ _ j. n (above_once lie.tree j k)) ∙ q;
      away = λ y n. r.rest y (λ p. n (ap place p)) (λ q. absurd (n q));
      free_a = λ y p. absurd (omega (arith, p, lie.links.below y));
      free_b = λ y p. p;
    }

    split_below : Recast place after (λ y. Above g t v y) v next → Split g t place after v (place v) next
    split_below r = record {
      inside = lie.large;
      large = (lie.large, omega (arith, lie.links.below v));
      differ = λ p. omega (arith, p, lie.links.below v);
      at = r.at;
      upper = λ y q n k. r.rest y n (λ _ j. n (above_once lie.tree k j)) ∙ q;
      lower = r.new;
      away = λ y n. r.rest y (λ p. n (ap place p)) (λ q. absurd (n q));
      free_a = λ y p. p;
      free_b = λ y p. absurd (omega (arith, p, lie.links.below y));
    }

    few_alone : Lone place after v → (y : ℕ) → after y < next
    few_alone o y = elim (ℕ_discrete y v) [
      | yes p ↦ omega (arith, subst (λ (w : ℕ). after w ≡ 1) (sym p) o.at, lie.large, lie.links.below v)
      | no n ↦ omega (arith, o.off y n, lie.links.below y)
    ]

    alone_top : Lone place after v → v ≡ x → Split g t place after v next (place v)
    alone_top o p = split_above (record {
      at = o.at;
      new = λ y q n k. absurd (n (above_once lie.tree k (subst (λ (w : ℕ). Above g t w y) (sym p) (lie.tips.highest y q))));
      rest = λ y n _. o.off y n;
    })

    alone_bottom : Lone place after v → v ≡ z → Split g t place after v (place v) next
    alone_bottom o p = split_below (record {
      at = o.at;
      new = λ y q n k. absurd (n (above_once lie.tree (subst (Above g t y) (sym p) (lie.tips.lowest y q)) k));
      rest = λ y n _. o.off y n;
    })

    module _ {top' bottom' : ℕ → ℕ} (tops : Stays top top' next (place v)) (bottoms : Stays bottom bottom' next (place v)) where
      -- v is the whole link
      pub part_whole : Lone place after v → v ≡ x → v ≡ z → top' (place v) ≡ 0 → Becomes g t v place next after top' bottom' next
      part_whole o p q r = let s = alone_top o p in (
        parted next (place v) s,
        links_same lie.tree lie.shelved lie.links s (λ k i n. (λ e. omega (arith, e, i), n)) tops bottoms (few_alone o)
            (gone r (none_lower lie.tree lie.shelved s lie.tips q)),
        gone_after lie.tree lie.shelved lie.links s (λ k i n. (λ e. omega (arith, e, i), n)) tops bottoms,
      )

      -- its top
      pub part_top : Lone place after v → v ≡ x → (v ≡ z → ⊥) → top' (place v) ≡ below v → bottom' (place v) ≡ suc z
          → Becomes g t v place next after top' bottom' next
      part_top o p n r q = let s = alone_top o p in let (c, k, u, e, i) = not_bottom n in (
        parted next (place v) s,
        links_same lie.tree lie.shelved lie.links s (λ k i n. (λ e. omega (arith, e, i), n)) tops bottoms (few_alone o)
            (tipped c z (r ∙ e) q (tips_lower lie.tree lie.shelved s lie.tips k u i)),
        gone_after lie.tree lie.shelved lie.links s (λ k i n. (λ e. omega (arith, e, i), n)) tops bottoms,
      )

      -- its bottom
      pub part_bottom : Lone place after v → v ≡ z → (v ≡ x → ⊥) → top' (place v) ≡ suc x → bottom' (place v) ≡ suc (t.parent v)
          → Becomes g t v place next after top' bottom' next
      part_bottom o p n r q = let s = alone_bottom o p in (
        parted (place v) next s,
        links_same lie.tree lie.shelved lie.links s (λ k i n. (n, λ e. omega (arith, e, i))) tops bottoms (few_alone o)
            (tipped x (t.parent v) r q (tips_upper lie.tree lie.shelved s lie.tips n)),
        gone_after lie.tree lie.shelved lie.links s (λ k i n. (n, λ e. omega (arith, e, i))) tops bottoms,
      )

      -- between them, and the part above it is renamed
      pub part_upper : {mid : ℕ → ℕ} {legs : List Leg} → (v ≡ x → ⊥) → (v ≡ z → ⊥) → Lone place mid v → Climb g t (λ y. y ≡ x) (t.parent v) legs x
          → Renamed mid after legs x next
          → top' (place v) ≡ below v → bottom' (place v) ≡ suc z → top' next ≡ suc x → bottom' next ≡ suc (t.parent v)
          → Becomes g t v place next after top' bottom' (next + 1)
      part_upper n m o k r top-old bottom-old top-new bottom-new =
          let s = split_above (recast (cover_upper n k) o r) in let (c, d, u, e, i) = not_bottom m in (
            parted next (place v) s,
            links_new lie.tree lie.shelved lie.links s fresh tops bottoms lie.tips m (not_top n).0.vertex
                (few_after lie.tree lie.shelved lie.links s fresh tops bottoms (omega arith) (omega (arith, lie.links.below v)))
                (tipped c z (top-old ∙ e) bottom-old (tips_lower lie.tree lie.shelved s lie.tips d u i))
                (tipped x (t.parent v) top-new bottom-new (tips_upper lie.tree lie.shelved s lie.tips n)),
            gone_after lie.tree lie.shelved lie.links s fresh tops bottoms,
          )
        where
          fresh : (k : ℕ) → k < next → (k ≡ place v → ⊥) → (k ≡ next → ⊥) × (k ≡ place v → ⊥)
          fresh k i n = (λ e. omega (arith, e, i), n)

      -- or the part below it
      pub part_lower : {mid : ℕ → ℕ} {c : ℕ} {legs : List Leg} → (v ≡ x → ⊥) → (v ≡ z → ⊥) → Lone place mid v → below v ≡ suc c
          → Climb g t (λ y. y ≡ c) z legs c → Renamed mid after legs c next
          → top' (place v) ≡ suc x → bottom' (place v) ≡ suc (t.parent v) → top' next ≡ suc c → bottom' next ≡ suc z
          → Becomes g t v place next after top' bottom' (next + 1)
      part_lower {c = c} n m o b k r top-old bottom-old top-new bottom-new =
          let s = split_below (recast (cover_lower at.0 at.1 at.2 k) o r) in (
            parted (place v) next s,
            links_new lie.tree lie.shelved lie.links s fresh tops bottoms lie.tips m (not_top n).0.vertex
                (few_after lie.tree lie.shelved lie.links s fresh tops bottoms (omega (arith, lie.links.below v)) (omega arith))
                (tipped x (t.parent v) top-old bottom-old (tips_upper lie.tree lie.shelved s lie.tips n))
                (tipped c z top-new bottom-new (tips_lower lie.tree lie.shelved s lie.tips at.0 at.1 at.2)),
            gone_after lie.tree lie.shelved lie.links s fresh tops bottoms,
          )
        where
          at : Child g t c × (t.parent c ≡ v) × (place c ≡ place v)
          at = let (d, child, leads, e, i) = not_bottom m in let p : d ≡ c = same_suc (sym e ∙ b) in
              subst (λ (y : ℕ). Child g t y × (t.parent y ≡ v) × (place y ≡ place v)) p (child, leads, i)

          fresh : (k : ℕ) → k < next → (k ≡ place v → ⊥) → (k ≡ place v → ⊥) × (k ≡ next → ⊥)
          fresh k i n = (n, λ e. omega (arith, e, i))
