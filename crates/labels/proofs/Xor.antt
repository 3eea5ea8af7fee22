-- Xor: of two numbers, and over a list.
use mathlib.Core.Path.{◌≡◌, refl, sym, ap, ap₂, ◌∙◌, subst}
use mathlib.Core.Bool.{Bool, true, false, cond, ◌||◌}
use mathlib.Core.List.Memᴰ.{head as first}
use mathlib.Core.List.Memᴰ.{tail as later}
use mathlib.Core.List.{List, [], ◌∷◌, Memᴰ as In}
use Prim.Native.Nat.{ℕ, zero, suc, ◌/◌, ◌%◌, ◌<◌}
use native.Mathlib.Omega.{arith}
use lib.Arith.{bin_ind}
use lib.Bits.{bit_xor, xor_self, xor_zero_r, xor_comm, xor_shr, xor_mod}
use lib.Dec.{eqb}
use borrow.Author.Tests.{eqb-true, eqb-false, eq-eqb, ne_eqb}
use Rattle.connectivity.specs.Lists.{Distinct, no_member, one, mem}
use Rattle.connectivity.proofs.Lists.{T_true, T_false, false-T, mem_in, in_mem}

-- Two numbers.

bit_assoc : (a b c : ℕ) → a < 2 → b < 2 → c < 2 → bit_xor (bit_xor a b) c ≡ bit_xor a (bit_xor b c)
bit_assoc zero b c p q r = refl
bit_assoc (suc zero) zero c p q r = refl
bit_assoc (suc zero) (suc zero) zero p q r = refl
bit_assoc (suc zero) (suc zero) (suc zero) p q r = refl
bit_assoc (suc zero) (suc zero) (suc (suc c)) p q r = absurd (omega arith)
bit_assoc (suc zero) (suc (suc b)) c p q r = absurd (omega arith)
bit_assoc (suc (suc a)) b c p q r = absurd (omega arith)

-- two numbers are equal where their halves and their last digits are
by_digits : (a b : ℕ) → a / 2 ≡ b / 2 → a % 2 ≡ b % 2 → a ≡ b
by_digits a b p q = omega arith

pub xor_assoc : (a b c : ℕ) → bit_xor (bit_xor a b) c ≡ bit_xor a (bit_xor b c)
xor_assoc = bin_ind (λ (n : ℕ). (b c : ℕ) → bit_xor (bit_xor n b) c ≡ bit_xor n (bit_xor b c)) (λ b c. refl)
    (λ n h b c. by_digits (bit_xor (bit_xor n b) c) (bit_xor n (bit_xor b c))
    (xor_shr (bit_xor n b) c 1 ∙ ap (λ (x : ℕ). bit_xor x (c / 2)) (xor_shr n b 1) ∙ h (b / 2) (c / 2)
    ∙ sym (xor_shr n (bit_xor b c) 1 ∙ ap (bit_xor (n / 2)) (xor_shr b c 1)))
    (xor_mod (bit_xor n b) c 1 ∙ ap (λ (x : ℕ). bit_xor x (c % 2)) (xor_mod n b 1)
    ∙ bit_assoc (n % 2) (b % 2) (c % 2) (omega arith) (omega arith) (omega arith)
    ∙ sym (xor_mod n (bit_xor b c) 1 ∙ ap (bit_xor (n % 2)) (xor_mod b c 1))))

-- what stands twice cancels
pub xor_cancel : (a b : ℕ) → bit_xor a (bit_xor a b) ≡ b
xor_cancel a b = sym (xor_assoc a a b) ∙ ap (λ (x : ℕ). bit_xor x b) (xor_self a)

pub xor_equal : (a b : ℕ) → bit_xor a b ≡ 0 → a ≡ b
xor_equal a b p = sym (xor_zero_r a) ∙ ap (bit_xor a) (sym p) ∙ xor_cancel a b

-- the order of three does not matter, and the middle two of four may change round
pub xor_swap : (a b c : ℕ) → bit_xor a (bit_xor b c) ≡ bit_xor b (bit_xor a c)
xor_swap a b c = sym (xor_assoc a b c) ∙ ap (λ (x : ℕ). bit_xor x c) (xor_comm a b) ∙ xor_assoc b a c

pub xor_first : (a x c : ℕ) → bit_xor (bit_xor a x) c ≡ bit_xor x (bit_xor a c)
xor_first a x c = xor_assoc a x c ∙ xor_swap a x c

pub xor_middle : (a b c d : ℕ) → bit_xor (bit_xor a b) (bit_xor c d) ≡ bit_xor (bit_xor a c) (bit_xor b d)
xor_middle a b c d = xor_assoc a b (bit_xor c d) ∙ ap (bit_xor a) (xor_swap b c d) ∙ sym (xor_assoc a c (bit_xor b d))

-- A list.

unfoldable pub xors : (ℕ → ℕ) → List ℕ → ℕ
xors f [] = 0
xors f (x ∷ l) = bit_xor (f x) (xors f l)

-- a number that counts where a test holds
abbrev pub when : Bool → ℕ → ℕ
when t n = cond t n 0

pub xors_same : {f h : ℕ → ℕ} (l : List ℕ) → ((x : ℕ) → In x l → f x ≡ h x) → xors f l ≡ xors h l
unfolding xors
xors_same [] p = refl
xors_same (x ∷ l) p = ap₂ bit_xor (p x (first refl)) (xors_same l (λ y i. p y (later i)))

pub xors_zero : (l : List ℕ) → xors (λ x. 0) l ≡ 0
unfolding xors
xors_zero [] = refl
xors_zero (x ∷ l) = xors_zero l

pub xors_both : (f h : ℕ → ℕ) (l : List ℕ) → xors (λ x. bit_xor (f x) (h x)) l ≡ bit_xor (xors f l) (xors h l)
unfolding xors
xors_both f h [] = refl
xors_both f h (x ∷ l) = ap (bit_xor (bit_xor (f x) (h x))) (xors_both f h l) ∙ xor_middle (f x) (h x) (xors f l) (xors h l)

-- over two lists, in either order
pub xors_swap : (f : ℕ → ℕ → ℕ) (k l : List ℕ) → xors (λ x. xors (f x) l) k ≡ xors (λ y. xors (λ x. f x y) k) l
unfolding xors
xors_swap f [] l = sym (xors_zero l)
xors_swap f (x ∷ k) l = ap (bit_xor (xors (f x) l)) (xors_swap f k l) ∙ sym (xors_both (f x) (λ y. xors (λ x. f x y) k) l)

-- a number that counts at one member only
pub xors_at : (a n : ℕ) {l : List ℕ} → Distinct l → xors (λ x. when (eqb a x) n) l ≡ when (mem a l) n
unfolding xors mem
xors_at a n no_member = refl
xors_at a n (one {x = x} {l = l} m d) = go (eqb a x) refl (xors_at a n d)
  where
    go : (t : Bool) → eqb a x ≡ t → xors (λ x. when (eqb a x) n) l ≡ when (mem a l) n
        → bit_xor (when t n) (xors (λ x. when (eqb a x) n) l) ≡ when (t || mem a l) n
    go true q h = ap (bit_xor n) (h ∙ ap (λ (t : Bool). when t n) (T_false (mem a l) (λ t. m (subst (λ (y : ℕ). In y l) (eqb-true a x q) (mem_in a l t))))) ∙ xor_zero_r n
    go false q h = h

-- where only members of a part count, xor over the part
pub xors_part : (f : ℕ → ℕ) {l part : List ℕ} → Distinct l → Distinct part → ((x : ℕ) → In x part → In x l)
    → ((x : ℕ) → In x l → (In x part → ⊥) → f x ≡ 0) → xors f l ≡ xors f part
xors_part f {l} {part} d e sub rest = xors_same l to_part ∙ xors_swap (λ x c. when (eqb c x) (f c)) l part ∙ xors_same part from_part
  where
    turned : (x c : ℕ) (t : Bool) → eqb x c ≡ t → when (eqb c x) (f c) ≡ when t (f x)
    turned x c true q = let p = eqb-true x c q in ap (λ (t : Bool). when t (f c)) (eq-eqb c x (sym p)) ∙ ap f (sym p)
    turned x c false q = ap (λ (t : Bool). when t (f c)) (ne_eqb c x (λ p. eqb-false x c q (sym p)))

    counts : (x : ℕ) → In x l → (t : Bool) → mem x part ≡ t → f x ≡ when t (f x)
    counts x i true q = refl
    counts x i false q = rest x i (λ j. false-T q (in_mem j))

    to_part : (x : ℕ) → In x l → f x ≡ xors (λ c. when (eqb c x) (f c)) part
    to_part x i = counts x i (mem x part) refl ∙ sym (xors_at x (f x) e) ∙ sym (xors_same part (λ c j. turned x c (eqb x c) refl))

    from_part : (c : ℕ) → In c part → xors (λ x. when (eqb c x) (f c)) l ≡ f c
    from_part c i = xors_at c (f c) d ∙ ap (λ (t : Bool). when t (f c)) (T_true (mem c l) (in_mem (sub c i)))
