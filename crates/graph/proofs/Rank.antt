-- How many numbers below one pass a test: it tells where in the list of those that pass each one stands.
use mathlib.Core.Path.{◌≡◌, refl, sym, ap, ◌∙◌, subst}
use mathlib.Core.Logic.{⊎_elim}
use mathlib.Core.Bool.{Bool, true, false, cond}
use mathlib.Core.List.{List, [], ◌∷◌, ◌++◌}
use Prim.Native.Nat.{ℕ, zero, suc, ◌+◌, ◌≤◌, ◌<◌}
use native.Mathlib.Nat.{eq-or-lt_of_le}
use native.Mathlib.Omega.{arith}
use native.Mathlib.Decide.{ℕ_discrete, dec_lt}
use lib.Dec.{T}
use lib.ListN.{length, get_or, take, length-append, get_or-append}
use Rattle.std.specs.List.{count_by}
use Rattle.std.proofs.lemmas.List.Sums.{count_by_more_yes, count_by_more_no}
use lib.Seq.{get_or-append_seam}
use Rattle.connectivity.specs.Lists.{range, keep}
use Rattle.connectivity.proofs.Lists.{T-dec, T_true, T_false}
use Rattle.graph.specs.Marks.{rank}

-- one more of a range, at its end
range_more : (i k : ℕ) → range i (suc k) ≡ range i k ++ ((i + k) ∷ [])
unfolding range
range_more i zero = let p : i + 0 ≡ i = omega arith in rw p
range_more i (suc k) = let p : suc i + k ≡ i + suc k = omega arith in ap (λ (l : List ℕ). i ∷ l) (range_more (suc i) k ∙ ap (λ (x : ℕ). range (suc i) k ++ (x ∷ [])) p)

pub keep_append : (f : ℕ → Bool) (l r : List ℕ) → keep f (l ++ r) ≡ keep f l ++ keep f r
unfolding keep
keep_append f [] r = refl
keep_append f (x ∷ l) r = go (f x) (keep_append f l r)
  where
    go : (t : Bool) → keep f (l ++ r) ≡ keep f l ++ keep f r → cond t (x ∷ keep f (l ++ r)) (keep f (l ++ r)) ≡ cond t (x ∷ keep f l) (keep f l) ++ keep f r
    go true p = ap (λ (k : List ℕ). x ∷ k) p
    go false p = p

module _ (f : ℕ → Bool) where
  rank_suc : (d : ℕ) → rank f (suc d) ≡ cond (f d) 1 0 + rank f d
  unfolding rank
  rank_suc d = refl

  pub rank-none : rank f 0 ≡ 0
  unfolding rank
  rank-none = refl

  up : (d : ℕ) → T (f d) → rank f (suc d) ≡ rank f d + 1
  up d t = rw (rank_suc d, T_true (f d) t) (omega arith)

  level : (d : ℕ) → (T (f d) → ⊥) → rank f (suc d) ≡ rank f d
  level d n = rw (rank_suc d, T_false (f d) n) (omega arith)

  pub rank_next : (d : ℕ) → rank f (d + 1) ≡ cond (f d) 1 0 + rank f d
  rank_next d = let p : d + 1 ≡ suc d = omega arith in rw p (rank_suc d)

  pub rank_yes : (d : ℕ) → T (f d) → rank f (d + 1) ≡ rank f d + 1
  rank_yes d t = let p : d + 1 ≡ suc d = omega arith in rw p (up d t)

  pub rank_no : (d : ℕ) → (T (f d) → ⊥) → rank f (d + 1) ≡ rank f d
  rank_no d n = let p : d + 1 ≡ suc d = omega arith in rw p (level d n)

  pub rank_le : (d m : ℕ) → d ≤ m → rank f d ≤ rank f m
  rank_le d zero h = let p : d ≡ 0 = omega arith in rw p (omega arith)
  rank_le d (suc m) h = ⊎_elim (λ (q : d ≡ suc m). rw q (omega arith)) (λ (l : d < suc m). omega (arith, rank_suc m, rank_le d m (omega arith))) (eq-or-lt_of_le h)

  pub rank_most : (d : ℕ) → rank f d ≤ d
  rank_most zero = omega (arith, rank-none)
  rank_most (suc d) = elim (T-dec (f d)) [ yes t ↦ omega (arith, up d t, rank_most d) | no n ↦ omega (arith, level d n, rank_most d) ]

  pub rank_lt : (d m : ℕ) → T (f d) → d < m → rank f d < rank f m
  rank_lt d m t l = omega (arith, rank_yes d t, rank_le (d + 1) m (omega arith))

  pub rank_once : (d c : ℕ) → T (f d) → T (f c) → rank f d ≡ rank f c → d ≡ c
  rank_once d c t u p = elim (dec_lt d c) [
    | yes l ↦ absurd (omega (arith, rank_lt d c t l))
    | no h ↦ elim (dec_lt c d) [ yes l ↦ absurd (omega (arith, rank_lt c d u l)) | no k ↦ omega arith ]
  ]

  -- every place below the last rank has its number
  pub rank_find : (m i : ℕ) → i < rank f m → (d : ℕ) × (d < m) × T (f d) × (rank f d ≡ i)
  unfolding rank
  rank_find zero i l = absurd (omega arith)
  rank_find (suc m) i l = elim (dec_lt i (rank f m)) [
    | yes h ↦ let r = rank_find m i h in (r.0, omega (arith, r.1), r.2, r.3)
    | no h ↦ elim (T-dec (f m)) [
      | yes t ↦ (m, omega arith, t, omega (arith, up m t))
      | no n ↦ absurd (omega (arith, level m n))
    ]
  ]

  pub keep_more : (m : ℕ) → keep f (range 0 (suc m)) ≡ keep f (range 0 m) ++ cond (f m) (m ∷ []) []
  unfolding keep
  keep_more m = let p : 0 + m ≡ m = omega arith in ap (keep f) (range_more 0 m) ∙ rw p (keep_append f (range 0 m) (m ∷ []))

  pub keep-length : (m : ℕ) → length (keep f (range 0 m)) ≡ rank f m
  unfolding keep range rank
  keep-length zero = refl
  keep-length (suc m) = elim (T-dec (f m)) [
    | yes t ↦ rw (keep_more m, T_true (f m) t) (omega (arith, length-append (keep f (range 0 m)) (m ∷ []), keep-length m))
    | no n ↦ rw (keep_more m, T_false (f m) n) (omega (arith, length-append (keep f (range 0 m)) [], keep-length m))
  ]

  -- a number that passes stands at the place that its rank tells
  pub keep_at : (m d : ℕ) → d < m → T (f d) → get_or (keep f (range 0 m)) (rank f d) 0 ≡ d
  keep_at zero d l t = absurd (omega arith)
  keep_at (suc m) d l t = elim (ℕ_discrete d m) [
    | yes q ↦ rw (q, keep_more m, T_true (f m) (subst (λ (x : ℕ). T (f x)) q t), ← (keep-length m)) (get_or-append_seam (keep f (range 0 m)) m [] 0)
    | no n ↦ rw (keep_more m) (get_or-append (keep f (range 0 m)) (cond (f m) (m ∷ []) []) 0 (rank f d) (omega (arith, keep-length m, rank_lt d m t (omega arith))) ∙ keep_at m d (omega arith) t)
  ]

-- two tests that agree below m
pub rank_same : (f h : ℕ → Bool) (m : ℕ) → ((d : ℕ) → d < m → f d ≡ h d) → rank f m ≡ rank h m
unfolding rank
rank_same f h zero q = refl
rank_same f h (suc m) q = rw (q m (omega arith)) (ap (λ (k : ℕ). cond (h m) 1 0 + k) (rank_same f h m (λ d l. q d (omega arith))))

-- what passes one test passes the other, too: then no more pass the first; and if no fewer do, whatever passes the second passes the first
module _ (f h : ℕ → Bool) where
  pub rank-part : (m : ℕ) → ((d : ℕ) → d < m → T (f d) → T (h d)) → rank f m ≤ rank h m
  rank-part zero p = omega (arith, rank-none f, rank-none h)
  rank-part (suc m) p = elim (T-dec (f m)) [
    | yes t ↦ omega (arith, up f m t, up h m (p m (omega arith) t), rank-part m (λ d l. p d (omega arith)))
    | no n ↦ omega (arith, level f m n, rank_le h m (suc m) (omega arith), rank-part m (λ d l. p d (omega arith)))
  ]

  pub rank_full : (m : ℕ) → ((d : ℕ) → d < m → T (f d) → T (h d)) → rank h m ≤ rank f m → (d : ℕ) → d < m → T (h d) → T (f d)
  rank_full zero p q d l t = absurd (omega arith)
  rank_full (suc m) p q d l t = elim (T-dec (f m)) [
    | yes u ↦ elim (ℕ_discrete d m) [
      | yes s ↦ subst (λ (x : ℕ). T (f x)) (sym s) u
      | no n ↦ rank_full m (λ e k. p e (omega arith)) (omega (arith, up f m u, up h m (p m (omega arith) u))) d (omega arith) t
    ]
    | no n ↦ elim (T-dec (h m)) [
      | yes u ↦ absurd (omega (arith, level f m n, up h m u, rank-part m (λ e k. p e (omega arith))))
      | no k ↦ elim (ℕ_discrete d m) [
        | yes s ↦ absurd (k (subst (λ (x : ℕ). T (h x)) s t))
        | no o ↦ rank_full m (λ e j. p e (omega arith)) (omega (arith, level f m n, level h m k)) d (omega arith) t
      ]
    ]
  ]

-- a test of the first numbers of a list, counted
pub rank-count : (p : ℕ → Bool) (list : List ℕ) (n : ℕ) → n ≤ length list → rank (λ e. p (get_or list e 0)) n ≡ count_by p (take n list)
rank-count p list zero h = rank-none (λ e. p (get_or list e 0))
rank-count p list (suc n) h =
    let here : n < length list = omega arith in
    let before = rank-count p list n (omega arith) in
    let next = rank_next (λ e. p (get_or list e 0)) n in
    let one : suc n ≡ n + 1 = omega arith in
    rw one (next ∙ ap (λ (x : ℕ). cond (p (get_or list n 0)) 1 0 + x) before ∙ sym (step (p (get_or list n 0)) refl here))
  where
    step : (b : Bool) → p (get_or list n 0) ≡ b → n < length list → count_by p (take (n + 1) list) ≡ cond b 1 0 + count_by p (take n list)
    step true q here = omega (arith, count_by_more_yes p list n 0 here q)
    step false q here = omega (arith, count_by_more_no p list n 0 here q)
