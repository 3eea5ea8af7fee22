-- The numbers of the lines: how they are put behind one another, and that the marked vertices are those that fall.
use mathlib.Core.Path.{◌≡◌, refl, ap, ◌∙◌}
use mathlib.Core.List.{List, [], ◌∷◌, ◌++◌, append-nil, Memᴰ as In}
use Prim.Native.Nat.{ℕ, suc, ◌+◌, ◌/◌, ◌%◌, ◌^◌, ◌≤◌, ◌<◌}
use native.Mathlib.Omega.{arith}
use borrow.Author.Tests.{eq-eqb, ne_eqb}
use lib.Dec.{eqb→eq}
use lib.ListN.{length, get_or, set, take, length-append, length-set}
use lib.Seq.{take-suc-set}
use Rattle.connectivity.specs.Lists.{Ordered, range, keep, mem}
use Rattle.connectivity.specs.Plan.{Limits}
use Rattle.connectivity.specs.Fallen.{per_word, Marked, words_for, marks_of}
use Rattle.connectivity.proofs.Lists.{keep_is, range_is, mem_in, in_mem, eq-T}
use Rattle.connectivity.proofs.Order.{ordered_same, ordered_range, ordered_keep}
use Rattle.connectivity.proofs.Fallen.{marked_is}
use Rattle.graph.proofs.Rank.{keep_more}
use Rattle.fallen_texts.specs.Listing.{is_marked, marked_below, one_more, Begins}

-- One vertex more.

module _ (front list words : List ℕ) (at v : ℕ) where
  abbrev bit : ℕ
  bit = get_or words (v / per_word) 0 / 2 ^ (v % per_word) % 2

  pub more_none : bit ≡ 0 → Begins front list at → Begins (one_more front words v) list at
  unfolding one_more is_marked
  more_none z b = rw (ne_eqb bit 1 (λ q. omega (arith, q, z)), append-nil front) b

  pub more_one : (bit ≡ 0 → ⊥) → at < length list → Begins front list at → Begins (one_more front words v) (set list at v) (at + 1)
  unfolding one_more is_marked
  more_one n l b =
      let p : at + 1 ≡ suc at = omega arith in
      rw (eq-eqb bit 1 (omega (arith, n))) (record {
        long = omega (arith, b.long, length-append front (v ∷ []));
        inside = omega (arith, l, length-set list at v);
        same = ap (λ (k : ℕ). take k (set list at v)) p ∙ take-suc-set list at v l ∙ ap (λ (x : List ℕ). x ++ (v ∷ [])) b.same;
      })

-- the first number
pub first_begins : (list : List ℕ) (x : ℕ) → 0 < length list → Begins (x ∷ []) (set list 0 x) 1
first_begins list x l = record { long = refl; inside = omega (arith, length-set list 0 x); same = take-suc-set list 0 x l }

module _ (count : ℕ) (words : List ℕ) where
  pub marked_start : (list : List ℕ) → 0 < length list → Begins (marked_below count words 0) (set list 0 count) 1
  unfolding marked_below range keep
  marked_start list l = first_begins list count l

  pub marked_next : (v : ℕ) → one_more (marked_below count words v) words v ≡ marked_below count words (v + 1)
  unfolding one_more marked_below
  marked_next v = let p : v + 1 ≡ suc v = omega arith in rw (p, keep_more (is_marked words) v)

-- Of the marks of a list, ascending and below n, these are the list.
pub marked_list : (most : Limits) (l : List ℕ) (n : ℕ) → n ≤ most.vertices → Ordered ◌<◌ l → ((x : ℕ) → In x l → x < n) → keep (is_marked (marks_of most l)) (range 0 n) ≡ l
unfolding is_marked marks_of
marked_list most l n few o below = ordered_same _ l (ordered_keep _ (ordered_range 0 n)) o to from
  where
    is : (x : ℕ) → Marked (marks_of most l) x → In x l
    is x m = mem_in x l ((marked_is (λ v. mem v l) (words_for most) x).0 m).1

    to : (x : ℕ) → In x (keep (is_marked (marks_of most l)) (range 0 n)) → In x l
    to x i = is x (eqb→eq _ 1 ((keep_is (is_marked (marks_of most l)) x (range 0 n)).0 i).1)

    from : (x : ℕ) → In x l → In x (keep (is_marked (marks_of most l)) (range 0 n))
    from x i =
        let h = below x i in
        (keep_is (is_marked (marks_of most l)) x (range 0 n)).1 ((range_is x 0 n).1 (omega arith, omega (arith, h)), eq-T ((marked_is (λ v. mem v l) (words_for most) x).1 (omega (arith, h, few), in_mem i)))
