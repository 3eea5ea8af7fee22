-- Drawn tabs that are wide enough, stored one behind the other.
use mathlib.Core.Path.{◌≡◌, refl, ap}
use mathlib.Core.Bool.{Bool, true, false, cond}
use mathlib.Core.List.{List, [], ◌∷◌}
use Prim.Native.Nat.{ℕ, suc, ◌+◌, ◌*◌, ◌≤◌}
use native.Mathlib.Omega.{arith}
use lib.Dec.{leb}
use lib.ListN.{length, set}
use lib.Seq.{sets}
use Rattle.drawn.specs.Drawing.{Drawn, all_ends, wide_ones, wide_numbers}
use Rattle.drawn.specs.Line.{Stored}

-- one of them is stored, and then those behind it
module _ {least e count : ℕ} {x : Drawn} {ends numbers ends' numbers' : List ℕ} {r : ℕ} (s : Stored least e count (x ∷ []) ends numbers ends' numbers' r) (l : List Drawn) where
  pub record Behind : Type 0 where
    pub most : r ≤ count + 1
    pub many : r + length (wide_numbers least (e + 1) l) ≡ count + length (wide_numbers least e (x ∷ l))
    pub ends_set : sets ends' (2 * r) (all_ends (wide_ones least l)) ≡ sets ends (2 * count) (all_ends (wide_ones least (x ∷ l)))
    pub numbers_set : sets numbers' r (wide_numbers least (e + 1) l) ≡ sets numbers count (wide_numbers least e (x ∷ l))

  pub stored_next : Behind
  unfolding all_ends wide_ones wide_numbers
  stored_next = go (leb least x.gap) refl
    where
      one : e + 1 ≡ suc e
      one = omega arith

      go : (t : Bool) → leb least x.gap ≡ t → Behind
      go true p =
          let m : r ≡ suc count = omega (arith, rw p at s.many) in
          let two : 2 * r ≡ suc (suc (2 * count)) = omega arith in
          let a : ends' ≡ set (set ends (2 * count) x.left) (suc (2 * count)) x.right = rw p at s.ends_set in
          let b : numbers' ≡ set numbers count e = rw p at s.numbers-set in
          record { most = omega (arith, m); many = rw (one, p) (omega (arith, m)); ends_set = rw (two, p, a); numbers_set = rw (one, p, m, b) }
      go false p =
          let m : r ≡ count = omega (arith, rw p at s.many) in
          let a : ends' ≡ ends = rw p at s.ends_set in
          let b : numbers' ≡ numbers = rw p at s.numbers-set in
          record { most = omega (arith, m); many = rw (one, p, m); ends_set = rw (p, m, a); numbers_set = rw (one, p, m, b) }

-- how many there are
pub length-all_ends : (l : List Drawn) → length (all_ends l) ≡ 2 * length l
unfolding all_ends
length-all_ends [] = refl
length-all_ends (x ∷ l) = omega (arith, length-all_ends l)

pub length-wide : (least e : ℕ) (l : List Drawn) → (length (wide_numbers least e l) ≡ length (wide_ones least l)) × (length (wide_ones least l) ≤ length l)
unfolding wide_ones wide_numbers
length-wide least e [] = (refl, omega arith)
length-wide least e (x ∷ l) = let rest = length-wide least (suc e) l in go (leb least x.gap) rest.0 rest.1
  where
    go : (t : Bool) → length (wide_numbers least (suc e) l) ≡ length (wide_ones least l) → length (wide_ones least l) ≤ length l
        → (length (cond t (e ∷ wide_numbers least (suc e) l) (wide_numbers least (suc e) l)) ≡ length (cond t (x ∷ wide_ones least l) (wide_ones least l)))
        × (length (cond t (x ∷ wide_ones least l) (wide_ones least l)) ≤ suc (length l))
    go true p h = (ap suc p, omega arith)
    go false p h = (p, omega arith)
