-- The links after one more is built, which is named after its bottom; and how many links there are at most.
use mathlib.Core.Path.{◌≡◌, sym, ◌∙◌, subst}
use mathlib.Core.Logic.{◌⊎◌, inl, inr}
use mathlib.Core.List.Memᴰ.{cases_cons as in-cons}
use mathlib.Core.List.{List, ◌∷◌, Memᴰ as In}
use Prim.Native.Nat.{ℕ, suc, ◌+◌, ◌≤◌, ◌<◌}
use native.Mathlib.Omega.{arith}
use native.Mathlib.Decide.{ℕ_discrete}
use lib.ListN.{length}
use Rattle.connectivity.specs.Lists.{Distinct, one, range}
use Rattle.connectivity.specs.Graph.{Graph, Vertex}
use Rattle.connectivity.specs.Walk.{Leg, froms}
use Rattle.connectivity.proofs.Lists.{in_dec, range_is, length-range}
use Rattle.connectivity.proofs.Degree.{part_length}
use Rattle.tree.specs.Tree.{Pointers, Above, Tree, Climb}
use Rattle.tree.specs.Filed.{Grown, Tips}
use Rattle.tree.specs.Links.{Shelved, Tipped, gone, tipped, Namer, branch, bottom, Links}
use Rattle.tree.proofs.Above.{above_cases, above_once, climb_end, way_up, climb_cases, climb_new, climb_child, climb_on, climb_between, climb_under}
use Rattle.tree.proofs.Splitting.{tips_new, tips_old}

-- different vertices are at most as many as the bound
pub vertices_most : (g : Graph) (l : List ℕ) → Distinct l → ((o : ℕ) → In o l → Vertex g o) → length l ≤ g.bound
vertices_most g l d f =
    omega (arith, part_length g l (range 0 g.bound) d (λ o i. (range_is o 0 g.bound).1 (omega arith, omega (arith, (f o i).below))), length-range 0 g.bound)

pub links_most : {g : Graph} {t : Pointers} {place tops bottoms : ℕ → ℕ} {next : ℕ} → Links g t place tops bottoms next → next ≤ g.bound + 2
links_most {g} l = omega (arith, vertices_most g l.names l.once l.vertex, l.count)

-- A climb but for its last leg, which leaves y.

module _ {g : Graph} {t : Pointers} {S : ℕ → Type 0} {v w y : ℕ} {legs : List Leg} (tree : Tree g t) (k : Climb g t S v legs w)
    (iy : In y (froms legs)) (up : t.parent y ≡ w) where
  pub low_climb : (low : List Leg) × Climb g t (λ z. z ≡ y) v low y
  low_climb = way_up (climb_on tree k iy)

  pub low_on : {z : ℕ} → In z (froms low_climb.0) → In z (froms legs)
  low_on i = climb_between tree k iy (climb_under tree low_climb.1 i) (climb_on tree low_climb.1 i)

  pub on_low : {z : ℕ} → In z (froms legs) → In z (froms low_climb.0) ⊎ (z ≡ y)
  on_low {z} i = elim (climb_cases low_climb.1 (climb_on tree k i)) [
    | inl j ↦ inl j
    | inr a ↦ elim (above_cases a) [
      | inl p ↦ inr p
      | inr b ↦ absurd (climb_new k i (subst S (above_once tree (climb_under tree k i) (subst (Above g t z) up b.1)) (climb_end k)))
    ]
  ]

-- The climb becomes a link.

module _ {g : Graph} {t : Pointers} {place after tops bottoms : ℕ → ℕ} {w x y next : ℕ} {legs : List Leg} (tree : Tree g t)
    (f : Shelved g t place) (k : Climb g t (λ v. 1 ≤ place v) w legs x) (px : place x ≡ 1) (s : Grown place after legs next)
    (l : Links g t place tops bottoms next) (iw : In w (froms legs)) (iy : In y (froms legs)) (up : t.parent y ≡ x) where
  new_tips : Tips g t after next y w
  new_tips = tips_new tree f (λ v p. omega (arith, p)) k px s iw iy up

  -- what was built stays as it is
  stays : {o : ℕ} → 1 ≤ place o → after o ≡ place o
  stays {o} h = s.away o (λ i. climb_new k i h)

  -- at a place other than the new one nothing is new
  was_there : {v m : ℕ} → (m ≡ next → ⊥) → after v ≡ m → place v ≡ m
  was_there {v} d p = elim (in_dec v (froms legs)) [ yes i ↦ absurd (d (sym p ∙ s.new v i)) | no n ↦ sym (s.away v n) ∙ p ]

  still_named : {o : ℕ} → Namer g t place o → Namer g t after o
  still_named (branch p) = branch (stays (omega (arith, p)) ∙ p)
  still_named {o} (bottom h low) =
      let e : after o ≡ place o = stays (omega (arith, h)) in
      bottom (omega (arith, h, e)) (λ v p. low v (was_there (s.free o) (p ∙ e)))

  -- the new bottom was not built, and gave no name
  unnamed : In w l.names → ⊥
  unnamed i = old (l.namer w i)
    where
      old : Namer g t place w → ⊥
      old (branch p) = climb_new k iw (omega (arith, p))
      old (bottom h low) = climb_new k iw (omega (arith, h))

  named : (o : ℕ) → In o (w ∷ l.names) → Vertex g o
  named o i = elim (in-cons i) [ inl p ↦ rw p (climb_child tree k iw).vertex | inr j ↦ l.vertex o j ]

  -- one more can be named
  pub links_room : next < g.bound + 2
  links_room = omega (arith, vertices_most g (w ∷ l.names) (one unnamed l.once) named, l.count)

  pub links_grown : {tops' bottoms' : ℕ → ℕ} → tops' next ≡ suc y → bottoms' next ≡ suc w → ((m : ℕ) → (m ≡ next → ⊥) → tops' m ≡ tops m)
      → ((m : ℕ) → (m ≡ next → ⊥) → bottoms' m ≡ bottoms m) → Links g t after tops' bottoms' (next + 1)
  links_grown {tops'} {bottoms'} pt pb st sb = record {
    each = λ m h b. elim (ℕ_discrete m next) [
      | yes p ↦ rw p (tipped y w pt pb new_tips)
      | no d ↦ same_tips m h d (l.each m h (omega (arith, b, d)))
    ];
    below = λ v. elim (in_dec v (froms legs)) [ yes i ↦ omega (arith, s.new v i) | no n ↦ omega (arith, s.away v n, l.below v) ];
    names = w ∷ l.names;
    count = omega (arith, l.count);
    once = one unnamed l.once;
    vertex = named;
    namer = λ o i. elim (in-cons i) [
      | inl p ↦ rw p (bottom (omega (arith, s.new w iw, s.large)) (λ v q. new_tips.lowest v (q ∙ s.new w iw)))
      | inr j ↦ still_named (l.namer o j)
    ];
  }
    where
      same_tips : (m : ℕ) → 2 ≤ m → (m ≡ next → ⊥) → Tipped g t place tops bottoms m → Tipped g t after tops' bottoms' m
      same_tips m h d (gone p none) = gone (st m d ∙ p) (λ v q. none v (was_there d q))
      same_tips m h d (tipped a b p q tips) =
          tipped a b (st m d ∙ p) (sb m d ∙ q) (tips_old tree f (λ v p. omega (arith, p)) k px s (omega (arith, h)) d tips)
