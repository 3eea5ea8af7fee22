-- Columns and lines, one step at a time: what the loops over them use.
use mathlib.Core.Path.{◌≡◌, refl, sym, ap, ◌∙◌}
use mathlib.Core.Bool.{Bool, true, false, cond, ◌&&◌}
use mathlib.Core.List.{List, [], ◌∷◌, ◌++◌}
use Prim.Native.Nat.{ℕ, zero, suc, ◌+◌, ◌*◌, ◌-◌, ◌^◌, ◌≤◌, ◌<◌}
use native.Mathlib.Omega.{arith}
use native.Mathlib.Numerals.{add-one}
use native.Mathlib.Nat.{suc-mul, mul-suc, pow-suc, one-le-pow, mul-le-mul_left}
use native.Mathlib.Decide.{ℕ_discrete}
use lib.Dec.{eqb, leb}
use lib.ListN.{length, take, drop, get_or, set, length-take, length-drop, length-append, drop_of_length-le}
use lib.Seq.{sets, length-take-le, drop-cons, take-take, drop-drop, get_or-drop, get_or-take, take-nil}
use borrow.Author.Tests.{leb-true, eqb-true, eq-eqb, ne_eqb}
use Rattle.text.specs.Column.{worths, byte_at, column, line, lines, line_size, digit, value, same, column_fits, line_fits, numbers, lines_begin, behind_lines, lines_fit, lines_numbers}

-- lists and tests

pub and_true : (a b : Bool) → (a && b) ≡ true → (a ≡ true) × (b ≡ true)
and_true true true p = (refl, refl)
and_true true false p = (refl, p)
and_true false true p = (p, refl)
and_true false false p = (p, p)

pub same_true : (a b : List ℕ) → same a b ≡ true → a ≡ b
unfolding same
same_true [] [] p = refl
same_true [] (b ∷ bs) p = cc
same_true (a ∷ l) [] p = cc
same_true (a ∷ l) (b ∷ bs) p =
    let q = and_true (eqb a b) (same l bs) p in
    let h = eqb-true a b q.0 in
    let t = same_true l bs q.1 in
    cc

pub same_refl : (l : List ℕ) → same l l ≡ true
unfolding same
same_refl [] = refl
same_refl (a ∷ l) = rw (eq-eqb a a refl) (same_refl l)

pub drop-take : (j n : ℕ) (l : List ℕ) → drop j (take (j + n) l) ≡ take n (drop j l)
drop-take zero n l = let p : 0 + n ≡ n = omega arith in rw p
drop-take (suc j) n [] = rw (take-nil {A = ℕ} (suc j + n), take-nil {A = ℕ} n)
drop-take (suc j) n (x ∷ l) = let p : suc j + n ≡ suc (j + n) = omega arith in rw p (drop-take j n l)

-- columns

pub length-column : (ws : List ℕ) (x : ℕ) → length (column ws x) ≡ length ws
unfolding column
length-column [] x = refl
length-column (p ∷ ws) x = ap suc (length-column ws x)

pub column_next : (ws : List ℕ) (x i : ℕ) → i < length ws → column (drop i ws) x ≡ byte_at (get_or ws i 0) x ∷ column (drop (i + 1) ws) x
unfolding column
column_next ws x i h = rw (add-one i, drop-cons ws i 0 h)

value_next : (ws col : List ℕ) (i : ℕ) → i < length ws → i < length col
    → value (drop i ws) (drop i col) ≡ get_or ws i 0 * digit (get_or col i 0) + value (drop (i + 1) ws) (drop (i + 1) col)
unfolding value
value_next ws col i h k = rw (add-one i, drop-cons ws i 0 h, drop-cons col i 0 k)

pub digit_most : (b : ℕ) → digit b ≤ 9
unfolding digit
digit_most b = go (leb 48 b) (leb b 57) refl
  where
    go : (s t : Bool) → leb b 57 ≡ t → cond (s && t) (b - 48) 0 ≤ 9
    go true true p = omega (arith, leb-true b 57 p)
    go true false p = omega arith
    go false true p = omega arith
    go false false p = omega arith

pub value_most : (w : ℕ) (bytes : List ℕ) → value (worths w) bytes < 10 ^ w
unfolding value worths
value_most zero bytes = omega arith
value_most (suc w) [] = omega (arith, pow-suc 10 w, value_most w [])
value_most (suc w) (b ∷ bytes) = omega (arith, pow-suc 10 w, value_most w bytes, mul-le-mul_left (10 ^ w) (digit_most b))

pub column_true : (ws : List ℕ) (most : ℕ) (bytes : List ℕ) → column_fits ws most bytes ≡ true → (value ws bytes ≤ most) × (column ws (value ws bytes) ≡ bytes)
unfolding column_fits
column_true ws most bytes p =
    let q = and_true (leb (value ws bytes) most) (same (column ws (value ws bytes)) bytes) p in
    (leb-true (value ws bytes) most q.0, same_true _ _ q.1)

-- a line in the form is not shorter than a line
pub line_long : (ws : List ℕ) (most k : ℕ) (text : List ℕ) → line_fits ws most k text ≡ true → line_size ws k ≤ length text
unfolding line_fits same
line_long ws most zero [] p = let z : ◌≡◌ {A = ℕ} 0 1 = cc in omega arith
line_long ws most zero (b ∷ text) p = omega arith
line_long ws most (suc k) text p =
    let q = and_true (column_fits ws most (take (length ws) text)) (line_fits ws most k (drop (length ws) text)) p in
    let l = ap length (column_true ws most (take (length ws) text) q.0).1 in
    omega (arith, suc-mul k (length ws), l, length-column ws (value ws (take (length ws) text)), length-take (length ws) text, length-drop (length ws) text, line_long ws most k (drop (length ws) text) q.1)

-- what is read of a line is read of its own bytes
take_less : (w n : ℕ) (text : List ℕ) → take w (take (w + n) text) ≡ take w text
take_less w n text = take-take w (w + n) text (omega arith)

pub size_suc : (ws : List ℕ) (k : ℕ) → line_size ws (suc k) ≡ length ws + line_size ws k
size_suc ws k = omega (arith, suc-mul k (length ws))

pub line-part : (ws : List ℕ) (most k : ℕ) (text : List ℕ) → line_fits ws most k (take (line_size ws k) text) ≡ line_fits ws most k text
unfolding line_fits
line-part ws most zero text = let p : 0 * length ws + 1 ≡ 1 = omega arith in rw (p, take-take 1 1 text (omega arith))
line-part ws most (suc k) text =
    rw (size_suc ws k, take_less (length ws) (line_size ws k) text, drop-take (length ws) (line_size ws k) text, line-part ws most k (drop (length ws) text))

pub numbers-part : (ws : List ℕ) (k : ℕ) (text : List ℕ) → numbers ws k (take (line_size ws k) text) ≡ numbers ws k text
unfolding numbers
numbers-part ws zero text = refl
numbers-part ws (suc k) text =
    rw (size_suc ws k, take_less (length ws) (line_size ws k) text, drop-take (length ws) (line_size ws k) text, numbers-part ws k (drop (length ws) text))

-- so it is the same of two texts with the same front
module _ (ws : List ℕ) (k : ℕ) (one other : List ℕ) (p : take (line_size ws k) one ≡ take (line_size ws k) other) where
  pub line_front : (most : ℕ) → line_fits ws most k one ≡ line_fits ws most k other
  line_front most = sym (line-part ws most k one) ∙ ap (line_fits ws most k) p ∙ line-part ws most k other

  pub numbers_front : numbers ws k one ≡ numbers ws k other
  numbers_front = sym (numbers-part ws k one) ∙ ap (numbers ws k) p ∙ numbers-part ws k other

-- lists filled from a place on
pub sets_append : (l : List ℕ) (i : ℕ) (xs ys : List ℕ) → sets l i (xs ++ ys) ≡ sets (sets l i xs) (i + length xs) ys
sets_append l i [] ys = let p : i + 0 ≡ i = omega arith in rw p
sets_append l i (x ∷ xs) ys =
    let p : i + suc (length xs) ≡ suc i + length xs = omega arith in
    rw p (sets_append (set l i x) (suc i) xs ys)

-- what the loops over the worths use, of the column that begins at a place of a line
module _ (ws l : List ℕ) (at i : ℕ) (h : i < length ws) (k : at + length ws ≤ length l) where
  abbrev col : List ℕ
  col = take (length ws) (drop at l)

  pub col_long : i < length col
  col_long = omega (arith, length-take (length ws) (drop at l), length-drop at l)

  pub col_at : get_or col i 0 ≡ get_or l (at + i) 0
  col_at = get_or-take (length ws) (drop at l) i 0 h ∙ get_or-drop at l i 0

  pub number_next : (d : ℕ) → d ≡ digit (get_or l (at + i) 0) → value (drop i ws) (drop i col) ≡ get_or ws i 0 * d + value (drop (i + 1) ws) (drop (i + 1) col)
  number_next d p = value_next ws col i h col_long ∙ rw (col_at, p)

-- each worth is at least 1
pub worth_some : (w i : ℕ) → i < w → 0 < get_or (worths w) i 0
unfolding worths
worth_some zero i h = absurd (omega arith)
worth_some (suc w) zero h = one-le-pow w 10 (omega arith)
worth_some (suc w) (suc i) h = worth_some w i (omega arith)

-- lines

pub length-line : (ws xs : List ℕ) → length (line ws xs) ≡ line_size ws (length xs)
unfolding line
length-line ws [] = omega arith
length-line ws (x ∷ xs) =
    omega (arith, length-append (column ws x) (line ws xs), length-column ws x, length-line ws xs, suc-mul (length xs) (length ws))

column_end : (ws : List ℕ) (k : ℕ) → (k + 1) * length ws ≡ k * length ws + length ws
column_end ws k = rw (add-one k) (suc-mul k (length ws))

-- the columns of a line, from number k on
module _ (ws l : List ℕ) (n k : ℕ) (h : k < n) where
  less : n - k ≡ suc (n - (k + 1))
  less = omega arith

  on : drop (length ws) (drop (k * length ws) l) ≡ drop ((k + 1) * length ws) l
  on = drop-drop (length ws) (k * length ws) l ∙ ap (λ (j : ℕ). drop j l) (sym (column_end ws k))

  line_next : (most : ℕ) → line_fits ws most (n - k) (drop (k * length ws) l)
      ≡ (column_fits ws most (take (length ws) (drop (k * length ws) l)) && line_fits ws most (n - (k + 1)) (drop ((k + 1) * length ws) l))
  unfolding line_fits
  line_next most = rw (less, on)

  pub numbers_next : numbers ws (n - k) (drop (k * length ws) l)
      ≡ value ws (take (length ws) (drop (k * length ws) l)) ∷ numbers ws (n - (k + 1)) (drop ((k + 1) * length ws) l)
  unfolding numbers
  numbers_next = rw (less, on)

  pub line_true : (most : ℕ) → line_fits ws most (n - k) (drop (k * length ws) l) ≡ true
      → (value ws (take (length ws) (drop (k * length ws) l)) ≤ most) × (line_fits ws most (n - (k + 1)) (drop ((k + 1) * length ws) l) ≡ true)
  line_true most p =
      let col = take (length ws) (drop (k * length ws) l) in
      let q = and_true (column_fits ws most col) (line_fits ws most (n - (k + 1)) (drop ((k + 1) * length ws) l)) (sym (line_next most) ∙ p) in
      ((column_true ws most col q.0).0, q.1)

pub numbers_last : (ws l : List ℕ) (n k : ℕ) → n ≤ k → numbers ws (n - k) l ≡ []
unfolding numbers
numbers_last ws l n k h = let p : n - k ≡ 0 = omega arith in rw p

-- a line that is too short
pub line_short : (ws text : List ℕ) (most k : ℕ) → length text < line_size ws k → line_fits ws most k text ≡ false
line_short ws text most k h = go (line_fits ws most k text) refl
  where
    go : (t : Bool) → line_fits ws most k text ≡ t → line_fits ws most k text ≡ false
    go true p = absurd (omega (arith, line_long ws most k text p))
    go false p = p

-- m lines, from a place on
module _ (ws : List ℕ) (columns left at : ℕ) (text : List ℕ) (h : 0 < left) where
  some : left ≡ suc (left - 1)
  some = omega arith

  next : drop (line_size ws columns) (drop at text) ≡ drop (at + line_size ws columns) text
  next = drop-drop (line_size ws columns) at text

  pub lines_next : (most : ℕ) → lines_begin ws most columns left (drop at text)
      ≡ (line_fits ws most columns (drop at text) && lines_begin ws most columns (left - 1) (drop (at + line_size ws columns) text))
  unfolding lines_begin
  lines_next most = go left some
    where
      go : (m : ℕ) → m ≡ suc (left - 1) → lines_begin ws most columns m (drop at text)
          ≡ (line_fits ws most columns (drop at text) && lines_begin ws most columns (left - 1) (drop (at + line_size ws columns) text))
      go m p = rw (p, next)

  pub lines-numbers_next : lines_numbers ws columns left (drop at text)
      ≡ numbers ws columns (drop at text) ++ lines_numbers ws columns (left - 1) (drop (at + line_size ws columns) text)
  unfolding lines_numbers
  lines-numbers_next = go left some
    where
      go : (m : ℕ) → m ≡ suc (left - 1) → lines_numbers ws columns m (drop at text)
          ≡ numbers ws columns (drop at text) ++ lines_numbers ws columns (left - 1) (drop (at + line_size ws columns) text)
      go m p = rw (p, next)

  pub lines_true : (most : ℕ) → lines_begin ws most columns left (drop at text) ≡ true
      → (line_fits ws most columns (drop at text) ≡ true) × (lines_begin ws most columns (left - 1) (drop (at + line_size ws columns) text) ≡ true)
      × (line_size ws columns ≤ length (drop at text))
  lines_true most p =
      let q = and_true (line_fits ws most columns (drop at text)) (lines_begin ws most columns (left - 1) (drop (at + line_size ws columns) text))
      (sym (lines_next most) ∙ p) in
      (q.0, q.1, line_long ws most columns (drop at text) q.0)

-- writing a line, from its number k on
module _ (ws text list : List ℕ) (at from n k : ℕ) (h : k < n) (j : from + n ≤ length list) where
  abbrev col_written : List ℕ
  col_written = column ws (get_or list (from + k) 0)

  abbrev rest_written : List ℕ
  rest_written = line ws (take (n - (k + 1)) (drop (from + (k + 1)) list))

  columns_next : line ws (take (n - k) (drop (from + k) list)) ≡ col_written ++ rest_written
  unfolding line
  columns_next =
      let p : n - k ≡ suc (n - (k + 1)) = omega arith in
      let q : suc (from + k) ≡ from + (k + 1) = omega arith in
      rw (p, drop-cons list (from + k) 0 (omega arith), q)

  pub write_next : sets text (at + k * length ws) (line ws (take (n - k) (drop (from + k) list)))
      ≡ sets (sets text (at + k * length ws) col_written) (at + (k + 1) * length ws) rest_written
  write_next =
      let p : at + k * length ws + length col_written ≡ at + (k + 1) * length ws = omega (arith, length-column ws (get_or list (from + k) 0), column_end ws k) in
      rw columns_next (sets_append text (at + k * length ws) col_written rest_written ∙ ap (λ (i : ℕ). sets (sets text (at + k * length ws) col_written) i rest_written) p)

pub write_last : (ws text list : List ℕ) (i n k : ℕ) → n ≤ k → sets text i (line ws (take (n - k) list)) ≡ set text i 10
unfolding line
write_last ws text list i n k h = let p : n - k ≡ 0 = omega arith in rw p

-- writing m lines, from a place on
pub write_lines_next : (ws text list : List ℕ) (at from columns left : ℕ) → 0 < left → from + columns ≤ length list
    → sets text at (lines ws columns left (drop from list))
    ≡ sets (sets text at (line ws (take columns (drop from list)))) (at + line_size ws columns) (lines ws columns (left - 1) (drop (from + columns) list))
unfolding lines
write_lines_next ws text list at from columns left h j = go left (omega arith)
  where
    first : List ℕ
    first = line ws (take columns (drop from list))

    rest : List ℕ
    rest = lines ws columns (left - 1) (drop (from + columns) list)

    long : length first ≡ line_size ws columns
    long = length-line ws (take columns (drop from list)) ∙ ap (line_size ws) (length-take-le columns (drop from list) (omega (arith, length-drop from list)))

    go : (m : ℕ) → m ≡ suc (left - 1) → sets text at (lines ws columns m (drop from list)) ≡ sets (sets text at first) (at + line_size ws columns) rest
    go m p = rw (p, drop-drop columns from list) (sets_append text at first rest ∙ ap (λ (n : ℕ). sets (sets text at first) (at + n) rest) long)

-- after the last line
pub lines_last : (ws : List ℕ) (most columns left : ℕ) (text : List ℕ) → left ≡ 0 → lines_begin ws most columns left text ≡ true
unfolding lines_begin
lines_last ws most columns left text p = rw p

pub lines-numbers_last : (ws : List ℕ) (columns left : ℕ) (text : List ℕ) → left ≡ 0 → lines_numbers ws columns left text ≡ []
unfolding lines_numbers
lines-numbers_last ws columns left text p = rw p

pub write_lines_last : (ws : List ℕ) (columns left : ℕ) (list : List ℕ) → left ≡ 0 → lines ws columns left list ≡ []
unfolding lines
write_lines_last ws columns left list p = rw p

pub length-numbers : (ws : List ℕ) (k : ℕ) (text : List ℕ) → length (numbers ws k text) ≡ k
unfolding numbers
length-numbers ws zero text = refl
length-numbers ws (suc k) text = ap suc (length-numbers ws k (drop (length ws) text))

-- storing m lines, from a place on
pub store_lines_next : (ws list text : List ℕ) (to at columns left : ℕ) → 0 < left
    → sets list to (lines_numbers ws columns left (drop at text))
    ≡ sets (sets list to (numbers ws columns (drop at text))) (to + columns) (lines_numbers ws columns (left - 1) (drop (at + line_size ws columns) text))
store_lines_next ws list text to at columns left h =
    let first = numbers ws columns (drop at text) in
    let rest = lines_numbers ws columns (left - 1) (drop (at + line_size ws columns) text) in
    rw (lines-numbers_next ws columns left at text h)
    (sets_append list to first rest ∙ ap (λ (n : ℕ). sets (sets list to first) (to + n) rest) (length-numbers ws columns (drop at text)))

-- one turn less
pub one_less : (a b : ℕ) → 0 < b → a * b ≡ a * (b - 1) + a
one_less a b h = let p : b ≡ suc (b - 1) = omega arith in ap (λ (n : ℕ). a * n) p ∙ mul-suc a (b - 1)

pub less_one : (a b : ℕ) → 0 < b → b * a ≡ (b - 1) * a + a
less_one a b h = let p : b ≡ suc (b - 1) = omega arith in ap (λ (n : ℕ). n * a) p ∙ suc-mul (b - 1) a

-- m lines in the form are there
pub begin_long : (ws : List ℕ) (most k m : ℕ) (text : List ℕ) → lines_begin ws most k m text ≡ true → m * line_size ws k ≤ length text
unfolding lines_begin
begin_long ws most k zero text p = omega arith
begin_long ws most k (suc m) text p =
    let rest = drop (line_size ws k) text in
    let q = and_true (line_fits ws most k text) (lines_begin ws most k m rest) p in
    omega (arith, suc-mul m (line_size ws k), line_long ws most k text q.0, begin_long ws most k m rest q.1, length-drop (line_size ws k) text)

-- nothing follows them
nothing_behind : (text : List ℕ) (k : ℕ) → k ≤ length text → same (drop k text) [] ≡ eqb (length text) k
unfolding same
nothing_behind text k h = elim (ℕ_discrete (length text) k) [
  | yes q ↦ rw (eq-eqb (length text) k q, drop_of_length-le text {i = k} (omega arith))
  | no q ↦ rw (ne_eqb (length text) k q, drop-cons text k 0 (omega arith))
]

module _ (ws : List ℕ) (most k m : ℕ) (text : List ℕ) where
  fit_none : lines_begin ws most k m text ≡ false → lines_fit ws most k m text ≡ false
  unfolding lines_fit
  fit_none p = rw p

  pub fit_some : lines_begin ws most k m text ≡ true → lines_fit ws most k m text ≡ eqb (length text) (m * line_size ws k)
  unfolding lines_fit
  fit_some p = rw p (nothing_behind text (m * line_size ws k) (begin_long ws most k m text p))

  pub fit_true : lines_fit ws most k m text ≡ true → (lines_begin ws most k m text ≡ true) × (length text ≡ m * line_size ws k)
  unfolding lines_fit
  fit_true p =
      let q = and_true (lines_begin ws most k m text) (same (behind_lines ws k m text) []) p in
      (q.0, eqb-true (length text) (m * line_size ws k) (sym (fit_some q.0) ∙ p))

  -- a text of another length has other lines; of this length, nothing follows them
  pub fit_other : (length text ≡ m * line_size ws k → ⊥) → lines_fit ws most k m text ≡ false
  fit_other h = go (lines_fit ws most k m text) refl
    where
      go : (t : Bool) → lines_fit ws most k m text ≡ t → lines_fit ws most k m text ≡ false
      go true p = absurd (h (fit_true p).1)
      go false p = p

  pub fit_begin : length text ≡ m * line_size ws k → lines_fit ws most k m text ≡ lines_begin ws most k m text
  fit_begin h = go (lines_begin ws most k m text) refl
    where
      go : (t : Bool) → lines_begin ws most k m text ≡ t → lines_fit ws most k m text ≡ lines_begin ws most k m text
      go true p = fit_some p ∙ eq-eqb (length text) (m * line_size ws k) h ∙ sym p
      go false p = fit_none p ∙ sym p
