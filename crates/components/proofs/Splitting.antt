-- Groups taken apart by a side: who was together and is on one side is together, and no one else; each has the lowest of its group again.
use mathlib.Core.Path.{◌≡◌, refl, sym, ap, ◌∙◌, subst}
use mathlib.Core.Logic.{inl, inr, ◌↔◌}
use mathlib.Core.Bool.{Bool, true, false}
use mathlib.Core.List.{List}
use Prim.Native.Nat.{ℕ, ◌+◌, ◌≤◌, ◌<◌}
use native.Mathlib.Omega.{arith}
use native.Mathlib.Decide.{ℕ_discrete, dec_le}
use lib.ListN.{length, get_or, set, length-set}
use lib.Seq.{get_or-set_same, get_or-set_other, set-get_or}
use Rattle.graph.specs.Marks.{read}
use Rattle.connectivity.proofs.Lists.{false-T}
use Rattle.components.specs.Splitting.{Classes, FirstOther, Parted, unseen, OtherOf, Placing}

side_dec : (a b : Bool) → Dec (a ≡ b)
side_dec true true = yes refl
side_dec true false = no (λ q. false-T q tt)
side_dec false true = no (λ q. false-T (sym q) tt)
side_dec false false = yes refl

-- there are but two sides
two_sides : (a b c : Bool) → (a ≡ c → ⊥) → (b ≡ c → ⊥) → a ≡ b
two_sides true true c n o = refl
two_sides true false true n o = absurd (n refl)
two_sides true false false n o = absurd (o refl)
two_sides false true true n o = absurd (o refl)
two_sides false true false n o = absurd (n refl)
two_sides false false c n o = refl

module _ {side : ℕ → Bool} {at : ℕ → ℕ} where
  first_low : {v u w : ℕ} → FirstOther side at v u → at w ≡ at v → (side w ≡ side (at w) → ⊥) → u ≤ w
  first_low {u = u} {w = w} f q n = elim (dec_le u w) [ yes l ↦ l | no l ↦ absurd (n (f.first w (omega arith) q)) ]

  first_unique : {v w x y : ℕ} → at v ≡ at w → FirstOther side at v x → FirstOther side at w y → x ≡ y
  first_unique q f h = omega (arith, first_low f (h.group ∙ sym q) h.other, first_low h (f.group ∙ q) f.other)

module _ {n : ℕ} {side : ℕ → Bool} {at₀ at : ℕ → ℕ} (c : Classes n at₀) (p : Parted n side at₀ at) where
  -- the lowest of a vertex's new group was in its old one, and is on its side
  kept : (v : ℕ) → v < n → (at₀ (at v) ≡ at₀ v) × (side (at v) ≡ side v)
  kept v l = elim (side_dec (side v) (side (at₀ v))) [
    | yes q ↦ let s = p.stays v l q in (ap at₀ s ∙ c.fixed v l, ap side s ∙ sym q)
    | no n ↦ let f = p.joins v l n in (f.group, two_sides (side (at v)) (side v) (side (at₀ v)) (λ q. f.other (q ∙ ap side (sym f.group))) n)
  ]

  pub parted_classes : Classes n at
  parted_classes = record { own = own; fixed = fixed }
    where
      own : (v : ℕ) → v < n → at v ≤ v
      own v l = elim (side_dec (side v) (side (at₀ v))) [
        | yes q ↦ omega (arith, p.stays v l q, c.own v l)
        | no n ↦ first_low (p.joins v l n) refl n
      ]

      fixed : (v : ℕ) → v < n → at (at v) ≡ at v
      fixed v l = let b : at v < n = omega (arith, own v l) in elim (side_dec (side v) (side (at₀ v))) [
        | yes q ↦ let s = p.stays v l q in let k = kept v l in p.stays (at v) b (k.1 ∙ q ∙ ap side (sym k.0)) ∙ k.0 ∙ sym s
        | no o ↦ let f = p.joins v l o in first_unique f.group (p.joins (at v) b f.other) f
      ]

  -- two vertices are together exactly if they were, and are on one side
  pub parted_same : (u v : ℕ) → u < n → v < n → (at u ≡ at v) ↔ ((at₀ u ≡ at₀ v) × (side u ≡ side v))
  parted_same u v l b = (
    λ q. (sym (kept u l).0 ∙ ap at₀ q ∙ (kept v b).0, sym (kept u l).1 ∙ ap side q ∙ (kept v b).1),
    λ h. go h.0 h.1 (side_dec (side u) (side (at₀ u))) (side_dec (side v) (side (at₀ v))),
  )
    where
      go : at₀ u ≡ at₀ v → side u ≡ side v → Dec (side u ≡ side (at₀ u)) → Dec (side v ≡ side (at₀ v)) → at u ≡ at v
      go q s (yes x) (yes y) = p.stays u l x ∙ q ∙ sym (p.stays v b y)
      go q s (yes x) (no y) = absurd (y (sym s ∙ x ∙ ap side q))
      go q s (no x) (yes y) = absurd (x (s ∙ y ∙ ap side (sym q)))
      go q s (no x) (no y) = first_unique q (p.joins u l x) (p.joins v b y)

-- The pass over the vertices.

pub placing_start : {n : ℕ} (marks other table : List ℕ) → n ≤ length marks → n ≤ length other → n ≤ length table → Classes n (read table) → Placing n 0 marks other table table
placing_start marks other table a b c k = record {
  marks_room = a;
  other_room = b;
  table_room = c;
  long = refl;
  classes = k;
  parted = record { stays = λ v l. absurd (omega arith); joins = λ v l. absurd (omega arith); rest = λ v l. refl };
  others = λ l b. absurd (omega arith);
}

module _ {n k : ℕ} {marks other table₀ table : List ℕ} (p : Placing n k marks other table₀ table) (h : k < n) where
  abbrev side : ℕ → Bool
  side = unseen marks

  abbrev at : ℕ → ℕ
  at = read table₀

  -- the vertex that is looked at has its old lowest
  pub still : get_or table k 0 ≡ get_or table₀ k 0
  still = p.parted.rest k (omega arith)

  pub low : get_or table k 0 ≤ k
  low = omega (arith, still, p.classes.own k h)

  -- what is not in the group of the vertex that is looked at is as before
  others_on : (l x : ℕ) → (at k ≡ l → side k ≡ side l) → OtherOf side at k l x → OtherOf side at (k + 1) l x
  others_on l x f (inl s) = inl (s.0, λ w b q. elim (ℕ_discrete w k) [ yes z ↦ rw z (f (ap at (sym z) ∙ q)) | no z ↦ s.1 w (omega arith) q ])
  others_on l x f (inr s) = inr (omega (arith, s.0), s.1)

  parted_stays : side k ≡ side (at k) → Parted (k + 1) side at (read table)
  parted_stays q = record {
    stays = λ v l s. elim (ℕ_discrete v k) [ yes z ↦ rw z still | no z ↦ p.parted.stays v (omega arith) s ];
    joins = λ v l s. elim (ℕ_discrete v k) [ yes z ↦ absurd (s (rw z q)) | no z ↦ p.parted.joins v (omega arith) s ];
    rest = λ v l. p.parted.rest v (omega arith);
  }

  -- it is the lowest of its group
  pub placing_lowest : get_or table k 0 ≡ k → Placing n (k + 1) marks (set other k 0) table₀ table
  placing_lowest q = record {
    marks_room = p.marks_room;
    other_room = omega (arith, p.other_room, length-set other k 0);
    table_room = p.table_room;
    long = p.long;
    classes = p.classes;
    parted = parted_stays (ap side (sym own));
    others = λ l b s. elim (ℕ_discrete l k) [
      | yes z ↦ inl (rw z (get_or-set_same other k 0 0 (omega (arith, p.other_room))), λ w c t. rw z (alone w c (t ∙ z)))
      | no z ↦ rw (get_or-set_other other k l 0 0 z) (others_on l (get_or other l 0) (λ t. absurd (z (sym t ∙ own))) (p.others l (omega arith) s))
    ];
  }
    where
      own : at k ≡ k
      own = sym still ∙ q

      alone : (w : ℕ) → w < k + 1 → at w ≡ k → side w ≡ side k
      alone w c t = elim (ℕ_discrete w k) [ yes z ↦ ap side z | no z ↦ absurd (omega (arith, p.classes.own w (omega arith))) ]

  -- it is on the side of the lowest
  pub placing_stays : (get_or table k 0 ≡ k → ⊥) → side k ≡ side (get_or table k 0) → Placing n (k + 1) marks other table₀ table
  placing_stays o q = record {
    marks_room = p.marks_room;
    other_room = p.other_room;
    table_room = p.table_room;
    long = p.long;
    classes = p.classes;
    parted = parted_stays (q ∙ ap side still);
    others = λ l b s. others_on l (get_or other l 0) (λ t. q ∙ ap side (still ∙ t)) (p.others l (below l b s) s);
  }
    where
      below : (l : ℕ) → l < k + 1 → at l ≡ l → l < k
      below l b s = elim (ℕ_discrete l k) [ yes z ↦ absurd (o (still ∙ rw (← z) s)) | no z ↦ omega arith ]

  -- it is not
  module _ (o : get_or table k 0 ≡ k → ⊥) (ne : side k ≡ side (get_or table k 0) → ⊥) where
    abbrev l : ℕ
    l = get_or table k 0

    lower : l < k
    lower = let q : l ≡ k → ⊥ = o in omega (arith, low, q)

    lowest : at l ≡ l
    lowest = ap at still ∙ p.classes.fixed k h ∙ sym still

    apart : side k ≡ side (at k) → ⊥
    apart q = ne (q ∙ ap side (sym still))

    joined : (x : ℕ) → FirstOther side at k x → Placing n (k + 1) marks (set other l x) table₀ (set table k x)
    joined x f = record {
      marks_room = p.marks_room;
      other_room = omega (arith, p.other_room, length-set other l x);
      table_room = omega (arith, p.table_room, length-set table k x);
      long = length-set table k x ∙ p.long;
      classes = p.classes;
      parted = record {
        stays = λ v b s. elim (ℕ_discrete v k) [ yes z ↦ absurd (apart (rw z at s)) | no z ↦ get_or-set_other table k v x 0 z ∙ p.parted.stays v (omega arith) s ];
        joins = λ v b s. elim (ℕ_discrete v k) [
          | yes z ↦ rw (z, get_or-set_same table k x 0 (omega (arith, p.table_room))) f
          | no z ↦ rw (get_or-set_other table k v x 0 z) (p.parted.joins v (omega arith) s)
        ];
        rest = λ v b. get_or-set_other table k v x 0 (omega arith) ∙ p.parted.rest v (omega arith);
      };
      others = λ j b s. elim (ℕ_discrete j l) [
        | yes z ↦ rw (z, get_or-set_same other l x 0 (omega (arith, lower, p.other_room))) (inr (below, moved))
        | no z ↦ rw (get_or-set_other other l j x 0 z) (others_on j (get_or other j 0) (λ t. absurd (z (sym t ∙ sym still))) (p.others j (before j b s) s))
      ];
    }
      where
        before : (j : ℕ) → j < k + 1 → at j ≡ j → j < k
        before j b s = elim (ℕ_discrete j k) [ yes z ↦ absurd (o (still ∙ rw (← z) s)) | no z ↦ omega arith ]

        below : x < k + 1
        below = omega (arith, first_low f refl apart)

        moved : FirstOther side at l x
        moved = record { group = f.group ∙ sym still ∙ sym lowest; other = f.other; first = λ w b q. f.first w b (q ∙ lowest ∙ still) }

    -- the first of them
    pub placing_first : get_or other l 0 ≡ 0 → Placing n (k + 1) marks (set other l k) table₀ (set table k k)
    placing_first z = joined k (record { group = refl; other = apart; first = λ w b q. go w b q (p.others l lower lowest) })
      where
        go : (w : ℕ) → w < k → at w ≡ at k → OtherOf side at k l (get_or other l 0) → side w ≡ side (at w)
        go w b q (inl s) = s.1 w b (q ∙ sym still) ∙ ap side (still ∙ sym q)
        go w b q (inr s) = absurd (s.1.other (rw z (let e : get_or table₀ 0 0 ≡ 0 = omega (arith, p.classes.own 0 (omega arith)) in ap side (sym e))))

    -- a later one
    pub placing_later : (get_or other l 0 ≡ 0 → ⊥) → Placing n (k + 1) marks other table₀ (set table k (get_or other l 0))
    placing_later z = go (p.others l lower lowest)
      where
        go : OtherOf side at k l (get_or other l 0) → Placing n (k + 1) marks other table₀ (set table k (get_or other l 0))
        go (inl s) = absurd (z s.0)
        go (inr s) = let f = s.1 in subst (λ (x : List ℕ). Placing n (k + 1) marks x table₀ (set table k (get_or other l 0))) (set-get_or other l 0)
            (joined (get_or other l 0) (record { group = f.group ∙ lowest ∙ still; other = f.other; first = λ w b q. f.first w b (q ∙ sym still ∙ sym lowest) }))
