-- The cases of one place and the steps of all places, as the code goes through them.
use mathlib.Core.Path.{◌≡◌, refl, sym, ap, subst, ◌∙◌}
use mathlib.Core.Bool.{Bool, true, false, ◌||◌}
use mathlib.Core.List.{List}
use Prim.Native.Nat.{ℕ, suc, ◌+◌, ◌-◌, ◌*◌, ◌/◌, ◌≤◌, ◌<◌}
use native.Mathlib.Omega.{arith}
use native.Mathlib.Decide.{dec_le}
use lib.Dec.{T, eqb, leb, ltb}
use lib.ListN.{length, get_or, set}
use borrow.Author.Tests.{eq-eqb, ne_eqb, lt-ltb, le-ltb, le-leb, eqb-false, ltb-false}
use Rattle.connectivity.specs.Plan.{Plan, Limits}
use Rattle.connectivity.proofs.Admission.{cond_both}
use Rattle.graph.specs.Marks.{read}
use Rattle.graph.specs.Ends.{far_end}
use Rattle.numbers.specs.Tables.{lower_end, is_none, higher_of, mark_of, hand_to, own_at, raise_to, lower_last, lower_over, owns_to, lasts_down, overs_down}
use Rattle.numbers.specs.Parts.{EndsBelow, Owning}

-- Bounds.

-- both ends of an edge have numbers
pub ends_below : {most : Limits} {p : Plan} {first number over : ℕ} → Owning most p first number over → EndsBelow p.ends number
ends_below h e l = let f = h.admitted.fit e l in (omega (arith, f.left, h.numbers), omega (arith, f.right, h.numbers))

-- there is such an edge
pub some_edge : (ends : List ℕ) (x : ℕ) → is_none ends x ≡ false → (1 ≤ x) × (x ≤ length ends / 2)
unfolding is_none
some_edge ends x = go (eqb x 0) refl
  where
    go : (t : Bool) → eqb x 0 ≡ t → (t || ltb (length ends / 2) x) ≡ false → (1 ≤ x) × (x ≤ length ends / 2)
    go true q p = absurd (subst T p tt)
    go false q p = (omega (arith, eqb-false x 0 q), ltb-false (length ends / 2) x p)

pub edge_some : (ends : List ℕ) (x : ℕ) → 1 ≤ x → x ≤ length ends / 2 → is_none ends x ≡ false
unfolding is_none
edge_some ends x a b = rw (ne_eqb x 0 (λ q. omega arith), le-ltb (length ends / 2) x b)

pub zero_none : (ends : List ℕ) {x : ℕ} → x ≡ 0 → is_none ends x ≡ true
unfolding is_none
zero_none ends {x} p = rw (eq-eqb x 0 p)

-- a mark names an edge, or none
pub mark_edge : (n m : ℕ) (first : List ℕ) (v : ℕ) → mark_of n m first v ≤ m
unfolding mark_of
mark_edge n m first v = elim (dec_le (suc m) (read first v)) [
  | yes l ↦ rw (lt-ltb m (read first v) l) (cond_both (λ (x : ℕ). x ≤ m) (leb n v) (omega arith) (omega arith))
  | no k ↦ cond_both (λ (x : ℕ). x ≤ m) (leb n v) (omega arith) (rw (le-ltb m (read first v) (omega (arith, k))) (omega (arith, k)))
]

-- what has an edge is a vertex
pub mark_vertex : (n m : ℕ) (first : List ℕ) (v : ℕ) → (mark_of n m first v ≡ 0 → ⊥) → v < n
unfolding mark_of
mark_vertex n m first v some = elim (dec_le n v) [ yes l ↦ absurd (some (rw (le-leb n v l))) | no k ↦ omega (arith, k) ]

-- the other end of an edge is a vertex
pub far_below : {most : Limits} {p : Plan} {first number over : ℕ} → Owning most p first number over → (e v : ℕ) → e < length p.ends / 2 → far_end p.ends e v < p.vertices
far_below {p = p} h e v l = cond_both (λ (x : ℕ). x < p.vertices) (eqb (get_or p.ends (2 * e) 0) v) (h.admitted.fit e l).right (h.admitted.fit e l).left

-- One place.

pub raise_higher : (last : List ℕ) (up v : ℕ) → read last up < read last v → set last up (read last v) ≡ raise_to last up v
unfolding raise_to
raise_higher last up v l = rw (lt-ltb (read last up) (read last v) l)

pub raise_same : (last : List ℕ) (up v : ℕ) → read last v ≤ read last up → last ≡ raise_to last up v
unfolding raise_to
raise_same last up v l = rw (le-ltb (read last up) (read last v) l)

pub hand_some : (ends number over : List ℕ) (t x y : ℕ) → (t ≡ 0 → ⊥) → y ≡ higher_of ends number (read over (t - 1)) x → set over (t - 1) y ≡ hand_to ends number over t x
unfolding hand_to
hand_some ends number over t x y some q = rw (ne_eqb t 0 some) (ap (set over (t - 1)) q)

pub hand_none : (ends number over : List ℕ) (t x : ℕ) → t ≡ 0 → over ≡ hand_to ends number over t x
unfolding hand_to
hand_none ends number over t x none = rw (eq-eqb t 0 none)

module _ (n : ℕ) (ends first : List ℕ) where
  -- t is the mark of v
  abbrev Mark : ℕ → ℕ → Type 0
  Mark t v = t ≡ mark_of n (length ends / 2) first v

  module _ (number over : List ℕ) (e t w : ℕ) (lower : w ≡ lower_end ends number e) (mark : Mark t w) where
    mark_lower : mark_of n (length ends / 2) first (lower_end ends number e) ≡ t
    mark_lower = sym (mark ∙ ap (mark_of n (length ends / 2) first) lower)

    pub own_other : (new : List ℕ) → (t ≡ 0 → ⊥) → (t ≡ e + 1 → ⊥) → new ≡ hand_to ends number (set over e (e + 1)) t (e + 1) → new ≡ own_at n ends first number over e
    unfolding own_at
    own_other new some other q = rw (mark_lower, ne_eqb t 0 some, ne_eqb t (e + 1) other) q

    pub own_none : t ≡ 0 → over ≡ own_at n ends first number over e
    unfolding own_at
    own_none none = rw (mark_lower, eq-eqb t 0 none)

    pub own_first : t ≡ e + 1 → over ≡ own_at n ends first number over e
    unfolding own_at
    own_first same = rw (mark_lower, ne_eqb t 0 (λ q. omega arith), eq-eqb t (e + 1) same)

  module _ (v t : ℕ) (mark : Mark t v) where
    pub last_none : (last : List ℕ) → t ≡ 0 → last ≡ lower_last n ends first last v
    unfolding lower_last
    last_none last none = rw (sym mark, eq-eqb t 0 none)

    pub over_none : (number over : List ℕ) → t ≡ 0 → over ≡ lower_over n ends first number over v
    unfolding lower_over
    over_none number over none = rw (sym mark, eq-eqb t 0 none)

    module _ (up : ℕ) (some : t ≡ 0 → ⊥) (far : up ≡ far_end ends (t - 1) v) where
      pub last_some : (last new : List ℕ) → new ≡ raise_to last up v → new ≡ lower_last n ends first last v
      unfolding lower_last
      last_some last new q = rw (sym mark, ne_eqb t 0 some) (q ∙ ap (λ (u : ℕ). raise_to last u v) far)

      pub over_some : (number over new : List ℕ) (d : ℕ) → Mark d up → new ≡ hand_to ends number over d (read over (t - 1)) → new ≡ lower_over n ends first number over v
      unfolding lower_over
      over_some number over new d up-mark q =
          rw (sym mark, ne_eqb t 0 some) (q ∙ ap (λ (x : ℕ). hand_to ends number over x (read over (t - 1))) (up-mark ∙ ap (mark_of n (length ends / 2) first) far))

  -- All places.

  pub owns_start : (number over : List ℕ) → over ≡ owns_to n ends first number over 0
  unfolding owns_to
  owns_start number over = refl

  owns_suc : (number over : List ℕ) (k : ℕ) → own_at n ends first number (owns_to n ends first number over k) k ≡ owns_to n ends first number over (suc k)
  unfolding owns_to
  owns_suc number over k = refl

  pub owns_next : (number over₀ over new : List ℕ) (k : ℕ) → over ≡ owns_to n ends first number over₀ k → new ≡ own_at n ends first number over k →
      new ≡ owns_to n ends first number over₀ (k + 1)
  owns_next number over₀ over new k p q =
      q ∙ (ap (λ (o : List ℕ). own_at n ends first number o k) p ∙ (owns_suc number over₀ k ∙ ap (owns_to n ends first number over₀) (omega arith)))

  module _ (order : List ℕ) where
    lasts_zero : (last : List ℕ) → last ≡ lasts_down n ends first order last 0
    unfolding lasts_down
    lasts_zero last = refl

    overs_zero : (number over : List ℕ) → over ≡ overs_down n ends first order number over 0
    unfolding overs_down
    overs_zero number over = refl

    lasts_suc : (last : List ℕ) (k : ℕ) → lower_last n ends first (lasts_down n ends first order last k) (read order (n - suc k)) ≡ lasts_down n ends first order last (suc k)
    unfolding lasts_down
    lasts_suc last k = refl

    overs_suc : (number over : List ℕ) (k : ℕ) →
        lower_over n ends first number (overs_down n ends first order number over k) (read order (n - suc k)) ≡ overs_down n ends first order number over (suc k)
    unfolding overs_down
    overs_suc number over k = refl

    pub lasts_start : (last : List ℕ) → last ≡ lasts_down n ends first order last (n - n)
    lasts_start last = lasts_zero last ∙ ap (lasts_down n ends first order last) (omega arith)

    pub overs_start : (number over : List ℕ) → over ≡ overs_down n ends first order number over (n - n)
    overs_start number over = overs_zero number over ∙ ap (overs_down n ends first order number over) (omega arith)

    -- the place before k is done next, and is then the last one done
    module _ (k : ℕ) (low : 1 ≤ k) (high : k ≤ n) where
      place : k - 1 ≡ n - suc (n - k)
      place = omega (arith, low, high)

      count : suc (n - k) ≡ n - (k - 1)
      count = omega (arith, low, high)

      pub lasts_next : (last₀ last new : List ℕ) → last ≡ lasts_down n ends first order last₀ (n - k) → new ≡ lower_last n ends first last (read order (k - 1)) →
          new ≡ lasts_down n ends first order last₀ (n - (k - 1))
      lasts_next last₀ last new p q =
          q
          ∙ (ap (λ (l : List ℕ). lower_last n ends first l (read order (k - 1))) p
          ∙ (ap (λ (x : ℕ). lower_last n ends first (lasts_down n ends first order last₀ (n - k)) (read order x)) place
          ∙ (lasts_suc last₀ (n - k) ∙ ap (lasts_down n ends first order last₀) count)))

      pub overs_next : (number over₀ over new : List ℕ) → over ≡ overs_down n ends first order number over₀ (n - k) → new ≡ lower_over n ends first number over (read order (k - 1)) →
          new ≡ overs_down n ends first order number over₀ (n - (k - 1))
      overs_next number over₀ over new p q =
          q
          ∙ (ap (λ (o : List ℕ). lower_over n ends first number o (read order (k - 1))) p
          ∙ (ap (λ (x : ℕ). lower_over n ends first number (overs_down n ends first order number over₀ (n - k)) (read order x)) place
          ∙ (overs_suc number over₀ (n - k) ∙ ap (overs_down n ends first order number over₀) count)))
