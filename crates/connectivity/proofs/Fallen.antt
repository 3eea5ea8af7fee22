-- The marks of the pieces that would fall are those of `cut_off`, and as many; and words are determined by their marks.
use mathlib.Core.Path.{◌≡◌, refl, sym, ap, ◌∙◌}
use mathlib.Core.Logic.{inl, inr, ◌↔◌}
use mathlib.Core.Bool.{Bool, true, false, not, cond}
use mathlib.Core.List.Memᴰ.{head as first}
use mathlib.Core.List.Memᴰ.{not-nil as not_in}
use mathlib.Core.List.{List, [], ◌∷◌, Memᴰ as In}
use Prim.Native.Nat.{ℕ, zero, suc, ◌+◌, ◌*◌, ◌/◌, ◌%◌, ◌^◌, ◌≤◌, ◌<◌}
use native.Mathlib.Nat.{pow-suc, zero-div}
use native.Mathlib.Numerals.{one-add}
use native.Mathlib.Omega.{arith}
use native.Mathlib.Decide.{ℕ_discrete, dec_lt}
use lib.Dec.{T, eqb, eqb-suc-zero}
use lib.Count.{ones, ones_step}
use lib.ListN.{length, get_or, replicate, get_or-eq_default}
use lib.Pow.{pow_pos, shr-shr}
use lib.Seq.{ext_get_or}
use Rattle.connectivity.specs.Lists.{Ordered, nil, range, keep, mem, empty}
use Rattle.connectivity.specs.Plan.{Limits}
use Rattle.connectivity.specs.Graph.{Graph, Vertex, vertices}
use Rattle.connectivity.specs.Reach.{Reach, Without, Disconnects}
use Rattle.connectivity.specs.Cut.{near, spread, unreached, unreached_from, cut_off, disconnects}
use Rattle.connectivity.specs.Verdict.{Verdict, refused, weak, firm}
use Rattle.connectivity.specs.Fallen.{per_word, Marked, marked, word_from, words_from, words_for, marks_of, fallen, fall_with}
use Rattle.connectivity.proofs.Lists.{mem_in, in_mem, keep_is, range_is, empty-none}
use Rattle.connectivity.proofs.Search.{unreached_not}
use Rattle.connectivity.proofs.Disconnects.{disconnects_is}
use Rattle.connectivity.proofs.Order.{ordered_same, ordered_range, ordered_keep, ordered_vertices}
use Rattle.connectivity.proofs.CutOff.{Lowest, cut_off_not, cut_off_or, cut_off_some}

-- One word.

-- equal tests make equal words
pub word_same : {f g : ℕ → Bool} → ((v : ℕ) → f v ≡ g v) → (v k : ℕ) → word_from f v k ≡ word_from g v k
unfolding word_from
word_same h v zero = refl
word_same h v (suc k) = rw (h v, word_same h (suc v) k)

-- a test as a bit
abbrev bit : Bool → ℕ
bit b = cond b 1 0

bit_small : (b : Bool) → bit b < 2
bit_small true = omega arith
bit_small false = omega arith

bit_is : (b : Bool) → (bit b ≡ 1) ↔ T b
bit_is true = (λ p. tt, λ t. refl)
bit_is false = (λ p. omega arith, λ t. absurd t)

pub word_bound : (f : ℕ → Bool) (v k : ℕ) → word_from f v k < 2 ^ k
unfolding word_from
word_bound f v zero = omega arith
word_bound f v (suc k) = omega (arith, pow-suc 2 k, bit_small (f v), word_bound f (suc v) k)

-- the half of a word is the word of the later vertices
half : (f : ℕ → Bool) (v k : ℕ) → word_from f v (suc k) / 2 ≡ word_from f (suc v) k
unfolding word_from
half f v k = omega (arith, bit_small (f v))

-- its lowest bit tells the first test
lowest : (f : ℕ → Bool) (v k : ℕ) → word_from f v (suc k) % 2 ≡ bit (f v)
unfolding word_from
lowest f v k = omega (arith, bit_small (f v))

-- a bit above the lowest is one of the half
bit_above : (n j : ℕ) → n / 2 ^ suc j ≡ n / 2 / 2 ^ j
bit_above n j = rw (← one-add j) (sym (shr-shr n 1 j))

-- bit j tells the test at v + j
word_bit : (f : ℕ → Bool) (v k j : ℕ) → j < k → word_from f v k / 2 ^ j % 2 ≡ bit (f (v + j))
word_bit f v zero j l = absurd (omega arith)
word_bit f v (suc k) zero l = let p : v + 0 ≡ v = omega arith in rw p (omega (arith, lowest f v k))
word_bit f v (suc k) (suc j) l = let p : v + suc j ≡ suc v + j = omega arith in rw (p, bit_above, half) (word_bit f (suc v) k j (omega arith))

-- how many of the k vertices from v on pass
abbrev passing : (ℕ → Bool) → ℕ → ℕ → ℕ
passing f v k = length (keep f (range v k))

passing_next : (f : ℕ → Bool) (v k : ℕ) → passing f v (suc k) ≡ bit (f v) + passing f (suc v) k
unfolding range keep
passing_next f v k = go (f v) (keep f (range (suc v) k))
  where
    go : (b : Bool) (l : List ℕ) → length (cond b (v ∷ l) l) ≡ bit b + length l
    go true l = omega arith
    go false l = omega arith

-- a word has as many ones as vertices pass
word_count : (f : ℕ → Bool) (v k : ℕ) → ones (word_from f v k) ≡ passing f v k
unfolding word_from range keep ones
word_count f v zero = refl
word_count f v (suc k) = rw (ones_step (word_from f v (suc k)), half, lowest, word_count f (suc v) k, passing_next)

-- Many words.

pub words_same : {f g : ℕ → Bool} → ((v : ℕ) → f v ≡ g v) → (v k : ℕ) → words_from f v k ≡ words_from g v k
unfolding words_from
words_same h v zero = refl
words_same h v (suc k) = rw (word_same h v per_word, words_same h (v + per_word) k)

pub words_length : (f : ℕ → Bool) (v k : ℕ) → length (words_from f v k) ≡ k
unfolding words_from
words_length f v zero = refl
words_length f v (suc k) = ap suc (words_length f (v + per_word) k)

pub words_at : (f : ℕ → Bool) (v k i : ℕ) → i < k → get_or (words_from f v k) i 0 ≡ word_from f (v + per_word * i) per_word
unfolding words_from
words_at f v zero i l = absurd (omega arith)
words_at f v (suc k) zero l = let p : v + per_word * 0 ≡ v = omega arith in rw p
words_at f v (suc k) (suc i) l = let p : v + per_word * suc i ≡ v + per_word + per_word * i = omega arith in rw p (words_at f (v + per_word) k i (omega arith))

pub words_bound : (f : ℕ → Bool) (v k i : ℕ) → get_or (words_from f v k) i 0 < 2 ^ per_word
unfolding words_from
words_bound f v zero i = pow_pos per_word
words_bound f v (suc k) zero = word_bound f v per_word
words_bound f v (suc k) (suc i) = words_bound f (v + per_word) k i

-- within the words a mark tells the test, and beyond them none is set
mark_within : (f : ℕ → Bool) (k v : ℕ) → v < per_word * k → get_or (words_from f 0 k) (v / per_word) 0 / 2 ^ (v % per_word) % 2 ≡ bit (f v)
mark_within f k v l =
    let p : 0 + per_word * (v / per_word) + v % per_word ≡ v = omega arith in
    rw (words_at f 0 k (v / per_word) (omega arith)) (word_bit f _ per_word (v % per_word) (omega arith) ∙ ap (λ (x : ℕ). bit (f x)) p)

mark_beyond : (l : List ℕ) (v : ℕ) → length l ≤ v / per_word → Marked l v → ⊥
mark_beyond l v h m = omega (arith, zero-div (2 ^ (v % per_word)), rw (get_or-eq_default l 0 h) at m)

pub marked_is : (f : ℕ → Bool) (k v : ℕ) → Marked (words_from f 0 k) v ↔ ((v < per_word * k) × T (f v))
marked_is f k v = (
  λ m. elim (dec_lt v (per_word * k)) [
    | yes l ↦ (l, (bit_is (f v)).0 (sym (mark_within f k v l) ∙ m))
    | no n ↦ absurd (mark_beyond (words_from f 0 k) v (omega (arith, words_length f 0 k)) m)
  ],
  λ p. mark_within f k v p.0 ∙ (bit_is (f v)).1 p.1,
)

-- what passes is counted in two parts
passing_parts : (f : ℕ → Bool) (v j k : ℕ) → passing f v (j + k) ≡ passing f v j + passing f (v + j) k
unfolding range keep
passing_parts f v zero k = let p : 0 + k ≡ k = omega arith in let q : v + 0 ≡ v = omega arith in rw (p, q) (omega arith)
passing_parts f v (suc j) k =
    let p : suc j + k ≡ suc (j + k) = omega arith in
    let q : v + suc j ≡ suc v + j = omega arith in
    rw (p, q) (omega (arith, passing_next f v (j + k), passing_next f v j, passing_parts f (suc v) j k))

words_count : (f : ℕ → Bool) (v k : ℕ) → marked (words_from f v k) ≡ passing f v (per_word * k)
unfolding words_from marked range keep
words_count f v zero = refl
words_count f v (suc k) =
    let p : per_word * suc k ≡ per_word + per_word * k = omega arith in
    rw (p, passing_parts) (omega (arith, word_count f v per_word, words_count f (v + per_word) k))

-- as many marks are set as vertices pass
pub marked-count : (f : ℕ → Bool) (k : ℕ) → marked (words_from f 0 k) ≡ length (keep f (range 0 (per_word * k)))
marked-count f k = words_count f 0 k

-- What is cut off.

-- a search leaves its list in order
ordered_spread : (g : Graph) (live : List ℕ) (k : ℕ) (seen rest : List ℕ) → Ordered ◌<◌ rest → Ordered ◌<◌ (spread g live k seen rest)
unfolding spread
ordered_spread g live zero seen rest o = o
ordered_spread g live (suc k) seen rest o = go (empty (keep (near g live seen) rest)) o (ordered_spread g live k _ _ (ordered_keep _ o))
  where
    go : (b : Bool) {l m : List ℕ} → Ordered ◌<◌ l → Ordered ◌<◌ m → Ordered ◌<◌ (cond b l m)
    go true o p = o
    go false o p = p

-- what is cut off is ascending, and of the graph
pub ordered_cut_off : (g : Graph) (cut : List ℕ) → Ordered ◌<◌ (cut_off g cut)
unfolding cut_off unreached_from unreached
ordered_cut_off g cut = go (vertices g)
  where
    go : (l : List ℕ) → Ordered ◌<◌ (unreached_from g (λ e. not (mem e cut)) l)
    go [] = nil
    go (u ∷ l) = ordered_spread g _ _ (u ∷ []) _ (ordered_keep _ (ordered_vertices g))

pub cut_off_vertex : (g : Graph) (cut : List ℕ) {v : ℕ} → In v (cut_off g cut) → Vertex g v
unfolding cut_off unreached_from
cut_off_vertex g cut {v} = go (vertices g)
  where
    go : (l : List ℕ) → In v (unreached_from g (λ e. not (mem e cut)) l) → Vertex g v
    go [] i = absurd (not_in i)
    go (u ∷ l) i = (unreached_not g _ u i).0

pub cut_off_below : (g : Graph) (cut : List ℕ) {v : ℕ} → In v (cut_off g cut) → v < g.bound
cut_off_below g cut i = (cut_off_vertex g cut i).below

-- an ascending list is what is kept of its members among all numbers below a bound
pub kept_list : {n : ℕ} {l : List ℕ} → Ordered ◌<◌ l → ((x : ℕ) → In x l → x < n) → keep (λ v. mem v l) (range 0 n) ≡ l
kept_list {n} {l} o below = ordered_same _ l (ordered_keep _ (ordered_range 0 n)) o
    (λ x i. mem_in x l ((keep_is _ x (range 0 n)).0 i).1)
    (λ x i. (keep_is _ x (range 0 n)).1 ((range_is x 0 n).1 (omega (arith, below x i)), in_mem i))

-- a set disconnects exactly where it cuts off more than none
pub fallen_parts : (g : Graph) (cut : List ℕ) → disconnects g cut ≡ not (eqb (length (cut_off g cut)) 0)
unfolding disconnects empty
fallen_parts g cut = go (cut_off g cut)
  where
    go : (l : List ℕ) → not (empty l) ≡ not (eqb (length l) 0)
    go [] = refl
    go (x ∷ l) = rw (eqb-suc-zero (length l))

-- a list that is not empty has a member
some_member : (l : List ℕ) → (T (empty l) → ⊥) → (v : ℕ) × In v l
unfolding empty
some_member [] n = absurd (n tt)
some_member (x ∷ l) n = (x, first refl)

-- What falls.

module _ (most : Limits) (g : Graph) (room : g.bound ≤ most.vertices) (cut : List ℕ) where
  -- there is a mark for each piece that is cut off
  within : {v : ℕ} → In v (cut_off g cut) → v < per_word * words_for most
  within i = omega (arith, cut_off_below g cut i)

  -- the marks are those of what is cut off
  pub fallen_is : (v : ℕ) → Marked (fallen most g cut) v ↔ In v (cut_off g cut)
  unfolding marks_of
  fallen_is v =
      let is = marked_is (λ v. mem v (cut_off g cut)) (words_for most) v in
      (λ m. mem_in v (cut_off g cut) (is.0 m).1, λ i. is.1 (within i, in_mem i))

  -- and as many
  pub fallen-count : marked (fallen most g cut) ≡ length (cut_off g cut)
  unfolding marks_of
  fallen-count = marked-count _ (words_for most) ∙ ap length (kept_list (ordered_cut_off g cut) (λ x i. within i))

  -- which are the vertices that the lowest one does not reach
  pub fallen_not : {u : ℕ} → Lowest g u → (v : ℕ) → Marked (fallen most g cut) v ↔ (Vertex g v × (Reach g (Without cut) u v → ⊥))
  fallen_not low v = (
    λ m. cut_off_not low cut ((fallen_is v).0 m),
    λ p. (fallen_is v).1 (elim (cut_off_or low cut p.0) [ inl i ↦ i | inr r ↦ absurd (p.1 r) ]),
  )

  -- a set disconnects exactly where a mark is set
  pub fallen_some : Disconnects g cut ↔ ((v : ℕ) × Marked (fallen most g cut) v)
  fallen_some = (
    λ d. let s = some_member (cut_off g cut) ((cut_off_some g cut).holds ((disconnects_is g cut).1 d)) in (s.0, (fallen_is s.0).1 s.1),
    λ s. (disconnects_is g cut).0 ((cut_off_some g cut).test (λ t. empty-none (cut_off g cut) t ((fallen_is s.0).0 s.1))),
  )

-- What falls with a verdict.

-- it ascends, and is of the graph
pub ordered_fall : (g : Graph) (v : Verdict) → Ordered ◌<◌ (fall_with g v)
unfolding fall_with
ordered_fall g (weak cut) = ordered_cut_off g cut
ordered_fall g firm = nil
ordered_fall g (refused a) = nil

pub fall_below : (g : Graph) (v : Verdict) {x : ℕ} → In x (fall_with g v) → x < g.bound
unfolding fall_with
fall_below g (weak cut) i = cut_off_below g cut i
fall_below g firm i = absurd (not_in i)
fall_below g (refused a) i = absurd (not_in i)

-- where none falls, no mark is set
none_word : (v k : ℕ) → word_from (λ u. false) v k ≡ 0
unfolding word_from
none_word v zero = refl
none_word v (suc k) = rw (none_word (suc v) k)

none_words : (v k : ℕ) → words_from (λ u. false) v k ≡ replicate k 0
unfolding words_from
none_words v zero = refl
none_words v (suc k) = rw (none_word v per_word, none_words (v + per_word) k)

pub marks_none : (most : Limits) → marks_of most [] ≡ replicate (words_for most) 0
unfolding marks_of mem
marks_none most = none_words 0 (words_for most)

-- Words by their marks.

-- a bit that is set in both numbers or in neither is the same
same_bit : (a b : ℕ) → (a % 2 ≡ 1) ↔ (b % 2 ≡ 1) → a % 2 ≡ b % 2
same_bit a b e = elim (ℕ_discrete (a % 2) 1) [
  | yes p ↦ p ∙ sym (e.0 p)
  | no n ↦ elim (ℕ_discrete (b % 2) 1) [ yes q ↦ absurd (n (e.1 q)) | no m ↦ omega arith ]
]

-- numbers of k bits, the same at each of them, are the same
same_bits : (k a b : ℕ) → a < 2 ^ k → b < 2 ^ k → ((j : ℕ) → j < k → a / 2 ^ j % 2 ≡ b / 2 ^ j % 2) → a ≡ b
same_bits zero a b p q h = omega arith
same_bits (suc k) a b p q h =
    let above : (j : ℕ) → j < k → a / 2 / 2 ^ j % 2 ≡ b / 2 / 2 ^ j % 2 = λ j l. rw (bit_above a j, bit_above b j) at (h (suc j) (omega arith)) in
    omega (arith, h 0 (omega arith), same_bits k (a / 2) (b / 2) (omega (arith, pow-suc 2 k)) (omega (arith, pow-suc 2 k)) above)

-- two lists of as many words, with the same marks, are the same
pub marks_only : (u w : List ℕ) → length u ≡ length w → ((i : ℕ) → get_or u i 0 < 2 ^ per_word) → ((i : ℕ) → get_or w i 0 < 2 ^ per_word)
    → ((v : ℕ) → Marked u v ↔ Marked w v) → u ≡ w
marks_only u w long p q e = ext_get_or 0 u w long (λ i _. same_bits per_word (get_or u i 0) (get_or w i 0) (p i) (q i) (bits i))
  where
    bits : (i j : ℕ) → j < per_word → get_or u i 0 / 2 ^ j % 2 ≡ get_or w i 0 / 2 ^ j % 2
    bits i j l =
        let word : (per_word * i + j) / per_word ≡ i = omega arith in
        let place : (per_word * i + j) % per_word ≡ j = omega arith in
        same_bit (get_or u i 0 / 2 ^ j) (get_or w i 0 / 2 ^ j) (rw (word, place) at (e (per_word * i + j)))
