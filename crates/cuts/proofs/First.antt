-- The first set that disconnects, from one edge to the next.
use mathlib.Core.Path.{◌≡◌, refl, sym, ap, subst, ◌∙◌}
use mathlib.Core.Bool.{Bool, true, false, cond}
use mathlib.Core.List.{List, [], ◌∷◌, ◌++◌}
use mathlib.Core.Option.{Option, none, some}
use Prim.Native.Nat.{ℕ, zero, suc, ◌+◌, ◌-◌, ◌≤◌, ◌<◌}
use native.Mathlib.Omega.{arith}
use Rattle.connectivity.specs.Lists.{range}
use Rattle.connectivity.specs.Cut.{singles, pairs_with, pairs, first_of}
use Rattle.std.specs.Prelude.{Some, None}
use Rattle.cuts.specs.Lowest.{one_told, two_told}

-- the numbers from e on below m
abbrev pub from : ℕ → ℕ → List ℕ
from e m = range e (m - e)

from_cons : (e m : ℕ) → e < m → from e m ≡ e ∷ from (e + 1) m
unfolding range
from_cons e m h =
    let p : m - e ≡ suc (m - (e + 1)) = omega (arith, h) in
    let q : suc e ≡ e + 1 = omega arith in
    ap (range e) p ∙ ap (λ (k : ℕ). e ∷ range k (m - (e + 1))) q

from_over : (m : ℕ) → from m m ≡ []
unfolding range
from_over m = let p : m - m ≡ 0 = omega arith in ap (range m) p

-- what stays from one number to the next stays over many
pub steps : {A : Type 0} (f : ℕ → A) (a b : ℕ) → a ≤ b → ((k : ℕ) → a ≤ k → k < b → f k ≡ f (k + 1)) → f a ≡ f b
steps f a b h q = go (b - a) a (omega arith) q
  where
    go : (more a : ℕ) → a + more ≡ b → ((k : ℕ) → a ≤ k → k < b → f k ≡ f (k + 1)) → f a ≡ f b
    go zero a p q = let e : a ≡ b = omega arith in ap f e
    go (suc more) a p q = q a (omega arith) (omega arith) ∙ go more (a + 1) (omega arith) (λ k l. q k (omega arith))

pub none_some : {c : List ℕ} → ◌≡◌ {A = Option (List ℕ)} none (some c) → ⊥
none_some p = subst IsNone p tt
  where
    IsNone : Option (List ℕ) → Type 0
    IsNone none = Unit {0}
    IsNone (some c) = ⊥

module _ (f : List ℕ → Bool) where
  pub first_yes : (c : List ℕ) (l : List (List ℕ)) → f c ≡ true → first_of f (c ∷ l) ≡ some c
  unfolding first_of
  first_yes c l p = rw p

  pub first_no : (c : List ℕ) (l : List (List ℕ)) → f c ≡ false → first_of f (c ∷ l) ≡ first_of f l
  unfolding first_of
  first_no c l p = rw p

  first_none : first_of f [] ≡ none
  unfolding first_of
  first_none = refl

  pub first_some : {c : List ℕ} (k l : List (List ℕ)) → first_of f k ≡ some c → first_of f (k ++ l) ≡ some c
  unfolding first_of
  first_some [] l p = absurd (none_some p)
  first_some {c} (b ∷ k) l p = go (f b) (first_some k l) p
    where
      go : (t : Bool) → (first_of f k ≡ some c → first_of f (k ++ l) ≡ some c) → cond t (some b) (first_of f k) ≡ some c
          → cond t (some b) (first_of f (k ++ l)) ≡ some c
      go true h q = q
      go false h q = h q

  pub first_later : (k l : List (List ℕ)) → first_of f k ≡ none → first_of f (k ++ l) ≡ first_of f l
  unfolding first_of
  first_later [] l p = refl
  first_later (b ∷ k) l p = go (f b) (first_later k l) p
    where
      go : (t : Bool) → (first_of f k ≡ none → first_of f (k ++ l) ≡ first_of f l) → cond t (some b) (first_of f k) ≡ none
          → cond t (some b) (first_of f (k ++ l)) ≡ first_of f l
      go true h q = absurd (none_some (sym q))
      go false h q = h q

  module _ (e m : ℕ) (h : e < m) where
    one_cons : singles (from e m) ≡ (e ∷ []) ∷ singles (from (e + 1) m)
    unfolding singles
    one_cons = rw (from_cons e m h)

    pub one_found : f (e ∷ []) ≡ true → first_of f (singles (from e m)) ≡ one_told (Some e)
    one_found p = ap (first_of f) one_cons ∙ first_yes (e ∷ []) _ p

    pub one_next : f (e ∷ []) ≡ false → first_of f (singles (from e m)) ≡ first_of f (singles (from (e + 1) m))
    one_next p = ap (first_of f) one_cons ∙ first_no (e ∷ []) _ p

  pub one_over : (e m : ℕ) → e ≡ m → first_of f (singles (from e m)) ≡ one_told None
  unfolding singles
  one_over e m p = rw (p, from_over m) first_none

  -- with a first edge a
  module _ (a d m : ℕ) (h : d < m) where
    with_cons : pairs_with a (from d m) ≡ (a ∷ (d ∷ [])) ∷ pairs_with a (from (d + 1) m)
    unfolding pairs_with
    with_cons = rw (from_cons d m h)

    pub with_found : f (a ∷ (d ∷ [])) ≡ true → first_of f (pairs_with a (from d m)) ≡ two_told a (Some d)
    with_found p = ap (first_of f) with_cons ∙ first_yes (a ∷ (d ∷ [])) _ p

    pub with_next : f (a ∷ (d ∷ [])) ≡ false → first_of f (pairs_with a (from d m)) ≡ first_of f (pairs_with a (from (d + 1) m))
    with_next p = ap (first_of f) with_cons ∙ first_no (a ∷ (d ∷ [])) _ p

  pub with_over : (a d m : ℕ) → d ≡ m → first_of f (pairs_with a (from d m)) ≡ two_told a None
  unfolding pairs_with
  with_over a d m p = rw (p, from_over m) first_none

  -- pairs
  module _ (e m : ℕ) (h : e < m) where
    two_cons : pairs (from e m) ≡ pairs_with e (from (e + 1) m) ++ pairs (from (e + 1) m)
    unfolding pairs
    two_cons = rw (from_cons e m h)

    pub two_found : (d : ℕ) → first_of f (pairs_with e (from (e + 1) m)) ≡ two_told e (Some d) → first_of f (pairs (from e m)) ≡ two_told e (Some d)
    two_found d p = ap (first_of f) two_cons ∙ first_some (pairs_with e (from (e + 1) m)) (pairs (from (e + 1) m)) p

    pub two_next : first_of f (pairs_with e (from (e + 1) m)) ≡ none → first_of f (pairs (from e m)) ≡ first_of f (pairs (from (e + 1) m))
    two_next p = ap (first_of f) two_cons ∙ first_later (pairs_with e (from (e + 1) m)) (pairs (from (e + 1) m)) p

  pub two_over : (e m : ℕ) → e ≡ m → first_of f (pairs (from e m)) ≡ none
  unfolding pairs
  two_over e m p = rw (p, from_over m) first_none
