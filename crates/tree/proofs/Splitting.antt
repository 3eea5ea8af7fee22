-- Places go on: a vertex inside a link becomes a branch and parts the link, and what a climb leaves becomes the inside of a new link.
use mathlib.Core.Path.{◌≡◌, refl, sym, ap, ◌∙◌, subst}
use mathlib.Core.Logic.{◌⊎◌, inl, inr}
use mathlib.Core.List.Memᴰ.{cases_cons as in-cons}
use mathlib.Core.List.Memᴰ.{head as first}
use mathlib.Core.List.Memᴰ.{not-nil as not_in}
use mathlib.Core.List.Memᴰ.{tail as later}
use mathlib.Core.List.{List, [], ◌∷◌, Memᴰ as In}
use Prim.Native.Nat.{ℕ, ◌≤◌}
use native.Mathlib.Omega.{arith}
use native.Mathlib.Decide.{ℕ_discrete, dec_le}
use Rattle.connectivity.specs.Graph.{Graph}
use Rattle.connectivity.specs.Walk.{Leg, froms}
use Rattle.connectivity.proofs.Lists.{in_dec}
use Rattle.tree.specs.Tree.{Pointers, Child, Above, same, higher, Tree, Climb}
use Rattle.tree.specs.Filed.{Filed, Split, Grown, Tips, Noted, Belows}
use Rattle.tree.proofs.Above.{same_suc, above_trans, above_cases, above_both, above_once, not_over, UpClosed, climb_under, climb_end, climb_new, climb_on, climb_next, climb_between, climb_child}

-- the same under other words for what is built and what is a branch
pub filed_map : {g : Graph} {t : Pointers} {B C K L : ℕ → Type 0} {place : ℕ → ℕ} → ((v : ℕ) → B v → C v) → ((v : ℕ) → C v → B v)
    → ((v : ℕ) → K v → L v) → ((v : ℕ) → L v → K v) → Filed g t B K place → Filed g t C L place
filed_map bc cb kl lk f = record {
  off = λ v p c. f.off v p (cb v c);
  built = λ v h. bc v (f.built v h);
  branch = λ v p. kl v (f.branch v p);
  plain = λ v h l. f.plain v h (lk v l);
  held = f.held;
  kept = f.kept;
  between = f.between;
  line = f.line;
}

-- a branch stays one
pub filed_already : {g : Graph} {t : Pointers} {B K : ℕ → Type 0} {place : ℕ → ℕ} {v : ℕ} → K v → Filed g t B K place
    → Filed g t B (λ y. K y ⊎ (y ≡ v)) place
filed_already {K = K} k f = filed_map (λ y b. b) (λ y b. b) (λ y h. inl h) (λ y h. elim h [ inl a ↦ a | inr p ↦ subst K (sym p) k ]) f

-- whether some member of a list is a child of z
pub some_child : (t : Pointers) (z : ℕ) (l : List ℕ) → ((y : ℕ) × In y l × (t.parent y ≡ z)) ⊎ ((y : ℕ) → In y l → t.parent y ≡ z → ⊥)
some_child t z [] = inr (λ y i. absurd (not_in i))
some_child t z (x ∷ l) = elim (ℕ_discrete (t.parent x) z) [
  | yes p ↦ inl (x, first refl, p)
  | no n ↦ elim (some_child t z l) [
    | inl r ↦ inl (r.0, later r.1, r.2)
    | inr r ↦ inr (λ y i p. elim (in-cons i) [ inl q ↦ n (subst (λ (u : ℕ). t.parent u ≡ z) q p) | inr j ↦ r y j p ])
  ]
]

-- A vertex inside a link becomes a branch.

-- where a vertex y lies, seen from v
data Part (g : Graph) (t : Pointers) (place after : ℕ → ℕ) (v a b y : ℕ) : Type 0 where
  at : y ≡ v → Part g t place after v a b y
  upper : place y ≡ place v → (y ≡ v → ⊥) → Above g t y v → after y ≡ a → Part g t place after v a b y
  lower : place y ≡ place v → (y ≡ v → ⊥) → Above g t v y → after y ≡ b → Part g t place after v a b y
  away : (place y ≡ place v → ⊥) → after y ≡ place y → Part g t place after v a b y

-- two vertices at one place afterwards
data Twin (g : Graph) (t : Pointers) (place after : ℕ → ℕ) (v a b u w : ℕ) : Type 0 where
  uppers : place u ≡ place v → place w ≡ place v → (w ≡ v → ⊥) → Above g t w v → after u ≡ a → Twin g t place after v a b u w
  lowers : place u ≡ place v → place w ≡ place v → (u ≡ v → ⊥) → Above g t v u → after u ≡ b → Twin g t place after v a b u w
  aways : (place u ≡ place v → ⊥) → place u ≡ place w → after u ≡ place u → Twin g t place after v a b u w

module _ {g : Graph} {t : Pointers} {B K : ℕ → Type 0} {place after : ℕ → ℕ} {v a b : ℕ} (tree : Tree g t) (f : Filed g t B K place)
    (s : Split g t place after v a b) where
  part : (y : ℕ) → Part g t place after v a b y
  part y = elim (ℕ_discrete y v) [
    | yes p ↦ at p
    | no n ↦ elim (ℕ_discrete (place y) (place v)) [
      | yes q ↦ elim (f.line y v (omega (arith, q, s.inside)) q) [
        | inl h ↦ upper q n h (s.upper y q n h)
        | inr h ↦ lower q n h (s.lower y q n h)
      ]
      | no m ↦ away m (s.away y m)
    ]
  ]

  at_one : {y : ℕ} → y ≡ v → after y ≡ 1
  at_one p = subst (λ (x : ℕ). after x ≡ 1) (sym p) s.at

  at_two : {y : ℕ} → y ≡ v → 2 ≤ after y → ⊥
  at_two {y} p h = omega (arith, h, at_one p)

  before_two : {y : ℕ} → 2 ≤ after y → 2 ≤ place y
  before_two {y} h = elim (part y) [
    | at p ↦ absurd (at_two p h)
    | upper q n k r ↦ omega (arith, q, s.inside)
    | lower q n k r ↦ omega (arith, q, s.inside)
    | away n r ↦ omega (arith, h, r)
  ]

  before_one : {y : ℕ} → 1 ≤ after y → 1 ≤ place y
  before_one {y} h = elim (part y) [
    | at p ↦ omega (arith, subst (λ (x : ℕ). 2 ≤ place x) (sym p) s.inside)
    | upper q n k r ↦ omega (arith, q, s.inside)
    | lower q n k r ↦ omega (arith, q, s.inside)
    | away n r ↦ omega (arith, h, r)
  ]

  after_one : {y : ℕ} → 1 ≤ place y → 1 ≤ after y
  after_one {y} h = elim (part y) [
    | at p ↦ omega (arith, at_one p)
    | upper q n k r ↦ omega (arith, r, s.large.0)
    | lower q n k r ↦ omega (arith, r, s.large.1)
    | away n r ↦ omega (arith, h, r)
  ]

  twin : {u w : ℕ} → 2 ≤ after u → after u ≡ after w → Twin g t place after v a b u w
  twin {u} {w} h e = go (part u) (part w)
    where
      go : Part g t place after v a b u → Part g t place after v a b w → Twin g t place after v a b u w
      go (at p) q = absurd (at_two p h)
      go (upper p n k r) (at q) = absurd (at_two q (omega (arith, h, e)))
      go (upper p n k r) (upper q m l o) = uppers p q m l r
      go (upper p n k r) (lower q m l o) = absurd (s.differ (sym r ∙ e ∙ o))
      go (upper p n k r) (away m o) = absurd (m (s.free_a w (sym o ∙ sym e ∙ r)))
      go (lower p n k r) (at q) = absurd (at_two q (omega (arith, h, e)))
      go (lower p n k r) (upper q m l o) = absurd (s.differ (sym o ∙ sym e ∙ r))
      go (lower p n k r) (lower q m l o) = lowers p q n k r
      go (lower p n k r) (away m o) = absurd (m (s.free_b w (sym o ∙ sym e ∙ r)))
      go (away n r) (at q) = absurd (at_two q (omega (arith, h, e)))
      go (away n r) (upper q m l o) = absurd (n (s.free_a u (sym r ∙ e ∙ o)))
      go (away n r) (lower q m l o) = absurd (n (s.free_b u (sym r ∙ e ∙ o)))
      go (away n r) (away m o) = aways n (sym r ∙ e ∙ o) r

  split_kept : (y : ℕ) → Child g t y → 2 ≤ after y → 2 ≤ after (t.parent y) → after y ≡ after (t.parent y)
  split_kept y c h k = go (part y) (part (t.parent y))
    where
      old : place y ≡ place (t.parent y)
      old = f.kept y c (before_two h) (before_two k)

      go : Part g t place after v a b y → Part g t place after v a b (t.parent y) → after y ≡ after (t.parent y)
      go (at p) q = absurd (at_two p h)
      go (upper p n l r) (at q) = absurd (at_two q k)
      go (upper p n l r) (upper q m i o) = r ∙ sym o
      go (upper p n l r) (lower q m i o) = absurd (n (above_once tree l (higher c i)))
      go (upper p n l r) (away m o) = absurd (m (sym old ∙ p))
      go (lower p n l r) (at q) = absurd (at_two q k)
      go (lower p n l r) (upper q m i o) = elim (above_cases l) [ inl z ↦ absurd (n (sym z)) | inr z ↦ absurd (m (above_once tree i z.1)) ]
      go (lower p n l r) (lower q m i o) = r ∙ sym o
      go (lower p n l r) (away m o) = absurd (m (sym old ∙ p))
      go (away n r) (at q) = absurd (at_two q k)
      go (away n r) (upper q m i o) = absurd (n (old ∙ q))
      go (away n r) (lower q m i o) = absurd (n (old ∙ q))
      go (away n r) (away m o) = r ∙ old ∙ sym o

  split_between : (u y w : ℕ) → Above g t u y → Above g t y w → 2 ≤ after u → after u ≡ after w → after y ≡ after u
  split_between u y w uy yw h e = elim (twin h e) [
    | uppers p q m l r ↦
        let o = f.between u y w uy yw (before_two h) (p ∙ sym q) in
        s.upper y (o ∙ p) (λ z. m (above_once tree l (subst (λ (x : ℕ). Above g t x w) z yw))) (above_trans yw l) ∙ sym r
    | lowers p q m l r ↦
        let o = f.between u y w uy yw (before_two h) (p ∙ sym q) in
        s.lower y (o ∙ p) (λ z. m (above_once tree (subst (Above g t u) z uy) l)) (above_trans l uy) ∙ sym r
    | aways n p r ↦
        let o = f.between u y w uy yw (before_two h) p in
        s.away y (λ z. n (sym o ∙ z)) ∙ o ∙ sym r
  ]

  -- two at one place afterwards were at one place
  pub split_before : {u w : ℕ} → 2 ≤ after u → after u ≡ after w → place u ≡ place w
  split_before h e = elim (twin h e) [
    | uppers p q m l r ↦ p ∙ sym q
    | lowers p q m l r ↦ p ∙ sym q
    | aways n p r ↦ p
  ]

  split_line : (u w : ℕ) → 2 ≤ after u → after u ≡ after w → Above g t u w ⊎ Above g t w u
  split_line u w h e = f.line u w (before_two h) (split_before h e)

  pub filed_split : Filed g t B (λ y. K y ⊎ (y ≡ v)) after
  filed_split = record {
    off = λ y p c. elim (dec_le 1 (place y)) [
      | yes h ↦ absurd (omega (arith, after_one h, p))
      | no n ↦ f.off y (omega (arith, n)) c
    ];
    built = λ y h. f.built y (before_one h);
    branch = λ y p. elim (part y) [
      | at q ↦ inr q
      | upper q n k r ↦ absurd (omega (arith, p, r, s.large.0))
      | lower q n k r ↦ absurd (omega (arith, p, r, s.large.1))
      | away n r ↦ inl (f.branch y (sym r ∙ p))
    ];
    plain = λ y h k. elim k [ inl l ↦ f.plain y (before_two h) l | inr p ↦ at_two p h ];
    held = λ y c h. after_one (f.held y c (before_two h));
    kept = split_kept;
    between = split_between;
    line = split_line;
  }

  -- The tips of the parts.

  -- what is afterwards at a or b is a part of the old link
  is_upper : {y : ℕ} → after y ≡ a → (place y ≡ place v) × (y ≡ v → ⊥) × Above g t y v
  is_upper {y} e = elim (part y) [
    | at p ↦ absurd (at_two p (omega (arith, e, s.large.0)))
    | upper q n k r ↦ (q, n, k)
    | lower q n k r ↦ absurd (s.differ (sym e ∙ r))
    | away n r ↦ absurd (n (s.free_a y (sym r ∙ e)))
  ]

  is_lower : {y : ℕ} → after y ≡ b → (place y ≡ place v) × (y ≡ v → ⊥) × Above g t v y
  is_lower {y} e = elim (part y) [
    | at p ↦ absurd (at_two p (omega (arith, e, s.large.1)))
    | upper q n k r ↦ absurd (s.differ (sym r ∙ e))
    | lower q n k r ↦ (q, n, k)
    | away n r ↦ absurd (n (s.free_b y (sym r ∙ e)))
  ]

  -- what is strictly above v is above its parent
  above_parent : {y : ℕ} → Above g t y v → (y ≡ v → ⊥) → Child g t v × Above g t y (t.parent v)
  above_parent h n = elim (above_cases h) [ inl p ↦ absurd (n p) | inr k ↦ k ]

  module _ {top bottom : ℕ} (tips : Tips g t place (place v) top bottom) where
    pub tips_upper : (v ≡ top → ⊥) → Tips g t after a top (t.parent v)
    tips_upper n = let (c, k) = above_parent (tips.highest v refl) (λ p. n (sym p)) in record {
      has_top = s.upper top tips.has_top (λ p. n (sym p)) (tips.highest v refl);
      has_bottom = s.upper (t.parent v)
          (f.between top (t.parent v) v k (higher c same) (omega (arith, tips.has_top, s.inside)) tips.has_top ∙ tips.has_top)
          (λ p. not_over tree c (subst (Above g t v) (sym p) same)) (higher c same);
      highest = λ y e. tips.highest y (is_upper e).0;
      lowest = λ y e. let (q, m, h) = is_upper e in (above_parent h m).1;
    }

    pub tips_lower : {c : ℕ} → Child g t c → t.parent c ≡ v → place c ≡ place v → Tips g t after b c bottom
    tips_lower {c} h p e = record {
      has_top = s.lower c e (λ q. not_over tree h (subst (Above g t c) (q ∙ sym p) same)) (higher h (subst (Above g t v) (sym p) same));
      has_bottom = s.lower bottom tips.has_bottom
          (λ q. not_over tree h (subst (Above g t c) (q ∙ sym p) (tips.lowest c e))) (tips.lowest v refl);
      highest = λ y r. let (q, m, k) = is_lower r in elim (above_both (tips.lowest c e) (tips.lowest y q)) [
        | inl l ↦ l
        | inr l ↦ elim (above_cases l) [
          | inl o ↦ subst (Above g t c) (sym o) same
          | inr o ↦ absurd (m (above_once tree (subst (Above g t y) p o.1) k))
        ]
      ];
      lowest = λ y r. tips.lowest y (is_lower r).0;
    }

    -- below the bottom there is no part
    pub none_lower : v ≡ bottom → (y : ℕ) → after y ≡ b → ⊥
    none_lower p y e = let (q, m, h) = is_lower e in m (above_once tree (subst (Above g t y) (sym p) (tips.lowest y q)) h)

  -- any other link keeps its tips
  pub tips_away : {m top bottom : ℕ} → 2 ≤ m → (m ≡ place v → ⊥) → Tips g t place m top bottom → Tips g t after m top bottom
  tips_away {m} {top} {bottom} large n tips = record {
    has_top = s.away top (λ p. n (sym tips.has_top ∙ p)) ∙ tips.has_top;
    has_bottom = s.away bottom (λ p. n (sym tips.has_bottom ∙ p)) ∙ tips.has_bottom;
    highest = λ y e. tips.highest y (old y e);
    lowest = λ y e. tips.lowest y (old y e);
  }
    where
      old : (y : ℕ) → after y ≡ m → place y ≡ m
      old y e = elim (part y) [
        | at p ↦ absurd (at_two p (omega (arith, e, large)))
        | upper q l k r ↦ absurd (n (sym tips.has_top ∙ s.free_a top (tips.has_top ∙ sym e ∙ r)))
        | lower q l k r ↦ absurd (n (sym tips.has_top ∙ s.free_b top (tips.has_top ∙ sym e ∙ r)))
        | away l r ↦ sym r ∙ e
      ]

  pub belows_split : {below : ℕ → ℕ} → Belows g t B place below → Belows g t B after below
  belows_split h = record { child = h.child; only = λ u c k l. h.only u c k (before_two l) }

-- What a climb leaves becomes a link.

module _ {g : Graph} {t : Pointers} {B K : ℕ → Type 0} {place after : ℕ → ℕ} {w x m : ℕ} {legs : List Leg} (tree : Tree g t)
    (f : Filed g t B K place) (kb : (y : ℕ) → K y → B y) (k : Climb g t B w legs x) (kx : K x) (s : Grown place after legs m) where
  -- the end is a branch
  end_place : {y : ℕ} → y ≡ x → after y ≡ 1
  end_place {y} p = elim (dec_le 1 (place x)) [
    | yes h ↦ elim (dec_le 2 (place x)) [
      | yes i ↦ absurd (f.plain x i kx)
      | no i ↦ subst (λ (z : ℕ). after z ≡ 1) (sym p) (s.away x (λ j. climb_new k j (climb_end k)) ∙ one h i)
    ]
    | no h ↦ absurd (f.off x (omega (arith, h)) (kb x kx))
  ]
    where
      one : 1 ≤ place x → (2 ≤ place x → ⊥) → place x ≡ 1
      one h i = omega (arith, h, i)

  -- what was built before is not left by the climb
  old_off : {y : ℕ} → 1 ≤ place y → In y (froms legs) → ⊥
  old_off {y} h i = climb_new k i (f.built y h)

  grown_held : (y : ℕ) → Child g t y → 2 ≤ after y → 1 ≤ after (t.parent y)
  grown_held y c h = elim (in_dec y (froms legs)) [
    | yes i ↦ elim (climb_next tree k i) [
      | inl n ↦ omega (arith, s.new (t.parent y) n, s.large)
      | inr p ↦ omega (arith, end_place p)
    ]
    | no n ↦
        let o = f.held y c (omega (arith, h, s.away y n)) in
        omega (arith, o, s.away (t.parent y) (old_off o))
  ]

  grown_kept : (y : ℕ) → Child g t y → 2 ≤ after y → 2 ≤ after (t.parent y) → after y ≡ after (t.parent y)
  grown_kept y c h l = elim (in_dec y (froms legs)) [
    | yes i ↦ elim (climb_next tree k i) [
      | inl n ↦ s.new y i ∙ sym (s.new (t.parent y) n)
      | inr p ↦ absurd (omega (arith, l, end_place p))
    ]
    | no n ↦
        let o = s.away y n in
        let r = s.away (t.parent y) (old_off (f.held y c (omega (arith, h, o)))) in
        o ∙ f.kept y c (omega (arith, h, o)) (omega (arith, l, r)) ∙ sym r
  ]

  -- two at one place are both new or both old
  both : {u v : ℕ} → after u ≡ after v → (In u (froms legs) × In v (froms legs)) ⊎ ((after u ≡ place u) × (place u ≡ place v))
  both {u} {v} e = go (in_dec u (froms legs)) (in_dec v (froms legs))
    where
      go : Dec (In u (froms legs)) → Dec (In v (froms legs)) → (In u (froms legs) × In v (froms legs)) ⊎ ((after u ≡ place u) × (place u ≡ place v))
      go (yes i) (yes j) = inl (i, j)
      go (yes i) (no j) = absurd (s.free v (sym (s.away v j) ∙ sym e ∙ s.new u i))
      go (no i) (yes j) = absurd (s.free u (sym (s.away u i) ∙ e ∙ s.new v j))
      go (no i) (no j) = inr (s.away u i, sym (s.away u i) ∙ e ∙ s.away v j)

  grown_between : (u y v : ℕ) → Above g t u y → Above g t y v → 2 ≤ after u → after u ≡ after v → after y ≡ after u
  grown_between u y v uy yv h e = elim (both e) [
    | inl (i, j) ↦ s.new y (climb_between tree k i uy (above_trans yv (climb_on tree k j))) ∙ sym (s.new u i)
    | inr (p, q) ↦
        let o = f.between u y v uy yv (omega (arith, h, p)) q in
        s.away y (old_off (omega (arith, o, h, p))) ∙ o ∙ sym p
  ]

  grown_line : (u v : ℕ) → 2 ≤ after u → after u ≡ after v → Above g t u v ⊎ Above g t v u
  grown_line u v h e = elim (both e) [
    | inl (i, j) ↦ above_both (climb_on tree k i) (climb_on tree k j)
    | inr (p, q) ↦ f.line u v (omega (arith, h, p)) q
  ]

  pub filed_grown : Filed g t (λ y. B y ⊎ In y (froms legs)) K after
  filed_grown = record {
    off = λ y p c. elim (in_dec y (froms legs)) [
      | yes i ↦ absurd (omega (arith, p, s.new y i, s.large))
      | no n ↦ elim c [ inl b ↦ f.off y (sym (s.away y n) ∙ p) b | inr i ↦ n i ]
    ];
    built = λ y h. elim (in_dec y (froms legs)) [
      | yes i ↦ inr i
      | no n ↦ inl (f.built y (omega (arith, h, s.away y n)))
    ];
    branch = λ y p. elim (in_dec y (froms legs)) [
      | yes i ↦ absurd (omega (arith, p, s.new y i, s.large))
      | no n ↦ f.branch y (sym (s.away y n) ∙ p)
    ];
    plain = λ y h l. elim (in_dec y (froms legs)) [
      | yes i ↦ climb_new k i (kb y l)
      | no n ↦ f.plain y (omega (arith, h, s.away y n)) l
    ];
    held = grown_held;
    kept = grown_kept;
    between = grown_between;
    line = grown_line;
  }

  -- The tips of the new link, and of the others.

  is_new : {y : ℕ} → after y ≡ m → In y (froms legs)
  is_new {y} e = elim (in_dec y (froms legs)) [ yes i ↦ i | no n ↦ absurd (s.free y (sym (s.away y n) ∙ e)) ]

  pub tips_new : {y : ℕ} → In w (froms legs) → In y (froms legs) → t.parent y ≡ x → Tips g t after m y w
  tips_new {y} iw iy p = record {
    has_top = s.new y iy;
    has_bottom = s.new w iw;
    highest = λ z e. let iz = is_new e in elim (above_both (climb_on tree k iy) (climb_on tree k iz)) [
      | inl h ↦ h
      | inr h ↦ elim (above_cases h) [
        | inl q ↦ subst (Above g t y) (sym q) same
        | inr q ↦ absurd (climb_new k iz (subst B (above_once tree (climb_under tree k iz) (subst (Above g t z) p q.1)) (climb_end k)))
      ]
    ];
    lowest = λ z e. climb_on tree k (is_new e);
  }

  pub tips_old : {n top bottom : ℕ} → 1 ≤ n → (n ≡ m → ⊥) → Tips g t place n top bottom → Tips g t after n top bottom
  tips_old {n} {top} {bottom} h differ tips = record {
    has_top = s.away top (old_off (omega (arith, h, tips.has_top))) ∙ tips.has_top;
    has_bottom = s.away bottom (old_off (omega (arith, h, tips.has_bottom))) ∙ tips.has_bottom;
    highest = λ y e. tips.highest y (old y e);
    lowest = λ y e. tips.lowest y (old y e);
  }
    where
      old : (y : ℕ) → after y ≡ n → place y ≡ n
      old y e = elim (in_dec y (froms legs)) [
        | yes i ↦ absurd (differ (sym e ∙ s.new y i))
        | no o ↦ sym (s.away y o) ∙ e
      ]

  pub belows_grown : {below noted : ℕ → ℕ} → UpClosed g t B → Belows g t B place below → Noted t below noted legs
      → Belows g t (λ y. B y ⊎ In y (froms legs)) after noted
  belows_grown {below} {noted} up h n = record {
    child = λ v u p. elim (some_child t v (froms legs)) [
      | inl (y, i, q) ↦
          let e : y ≡ u = same_suc (sym (n.new y i) ∙ ap noted q ∙ p) in
          subst (λ (z : ℕ). Child g t z × (t.parent z ≡ v) × (B z ⊎ In z (froms legs))) e (climb_child tree k i, q, inr i)
      | inr o ↦ let r = h.child v u (sym (n.away v o) ∙ p) in (r.0, r.1, inl r.2)
    ];
    only = λ u c b l. elim b [
      | inr i ↦ n.new u i
      | inl o ↦
          let a : after (t.parent u) ≡ place (t.parent u) = s.away (t.parent u) (λ i. climb_new k i (up u c o)) in
          n.away (t.parent u) (λ y i q. elim (climb_next tree k i) [
            | inl j ↦ climb_new k j (subst B (sym q) (up u c o))
            | inr j ↦ omega (arith, l, end_place (sym q ∙ j))
          ]) ∙ h.only u c o (omega (arith, l, a))
    ];
  }
