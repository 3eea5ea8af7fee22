-- What a test tells of a fact, when two rows are joined, and when a row is the last of its step.
use mathlib.Core.Path.{◌≡◌, refl, sym, ap, ◌∙◌}
use mathlib.Core.Logic.{inr, ⊎_elim, ⊎_swap}
use mathlib.Core.Bool.{Bool, true, false, not}
use mathlib.Core.List.{List, [], ◌∷◌}
use Prim.Native.Nat.{ℕ, suc, ◌+◌, ◌*◌, ◌-◌, ◌≤◌, ◌<◌}
use native.Mathlib.Omega.{arith}
use lib.Dec.{eqb, leb}
use lib.ListN.{length, get_or, drop}
use lib.Seq.{drop-cons, drop-length}
use borrow.Author.Tests.{eqb-true, eqb-false, leb-true, leb-false}
use Rattle.connectivity.specs.Judge.{Row, rows_of, is_last}
use Rattle.verify_firm.specs.declared.state.Run.{Run}
use Rattle.graph.specs.Tells.{Tells}
use Rattle.verify_firm.specs.Marks.{step_at, from_at, row_at, Joined, FitsLinks, last_at}

-- a test of two numbers, and a fact that goes with it
pub tells_same : {P : Type 0} (a b : ℕ) → (a ≡ b → P) → (P → a ≡ b) → Tells (eqb a b) P
tells_same {P} a b f h = go (eqb a b) refl
  where
    go : (t : Bool) → eqb a b ≡ t → Tells t P
    go true e = f (eqb-true a b e)
    go false e = λ p. eqb-false a b e (h p)

pub tells_most : {P : Type 0} (a b : ℕ) → (a ≤ b → P) → (P → a ≤ b) → Tells (leb a b) P
tells_most {P} a b f h = go (leb a b) refl
  where
    go : (t : Bool) → leb a b ≡ t → Tells t P
    go true e = f (leb-true a b e)
    go false e = λ p. omega (arith, leb-false a b e, h p)

-- a fact that goes with another
pub tells_with : {P Q : Type 0} (t : Bool) → (P → Q) → (Q → P) → Tells t P → Tells t Q
tells_with true f h p = f p
tells_with false f h n = λ q. n (h q)

module _ (marks list : List ℕ) where
  -- the rows from i to j have been passed, and no branch stands there
  pub joined : (i j k : ℕ) → step_at list i ≡ step_at list j → i ≤ j → j < k → ((m : ℕ) → i ≤ m → m < k → get_or marks (from_at list m) 0 < 3)
      → Joined marks list i j
  joined i j k p l h all = record {
    same = p;
    plain = λ m w. ⊎_elim (λ a. all m a.0 (omega (arith, a.1, h))) (λ a. all m (omega (arith, a.0, l)) (omega (arith, a.1, l, h))) w;
  }

  pub joined_swap : (i j : ℕ) → Joined marks list i j → Joined marks list j i
  joined_swap i j a = record { same = sym a.same; plain = λ m w. a.plain m (⊎_swap w) }

  -- neither end is a branch
  pub links : (run : Run) (from to : ℕ) (t : Bool) → get_or marks run.start 0 < 3 → get_or marks run.at 0 < 3
      → Tells t (Joined marks list (from - 1) (to - 1) → ⊥) → Tells t (FitsLinks marks list run from to)
  links run from to t a b =
      tells_with t (λ n. inr n) (⊎_elim (⊎_elim (λ h. absurd (omega (arith, a, h))) (λ h. absurd (omega (arith, b, h)))) (λ n. n))

-- the next row
rows_cons : (s e v : ℕ) (list : List ℕ) → rows_of (s ∷ (e ∷ (v ∷ list))) ≡ record { step = s; edge = e; from = v } ∷ rows_of list
unfolding rows_of
rows_cons s e v list = refl

pub rows_next : (list : List ℕ) (k : ℕ) → suc (suc k) < length list
    → rows_of (drop k list) ≡ record { step = get_or list k 0; edge = get_or list (suc k) 0; from = get_or list (suc (suc k)) 0 } ∷ rows_of (drop (suc (suc (suc k))) list)
rows_next list k h =
    ap rows_of
    (drop-cons list k 0 (omega (arith, h))
    ∙ ap (λ (l : List ℕ). get_or list k 0 ∷ l)
    (drop-cons list (suc k) 0 (omega (arith, h)) ∙ ap (λ (l : List ℕ). get_or list (suc k) 0 ∷ l) (drop-cons list (suc (suc k)) 0 h)))
    ∙ rows_cons _ _ _ _

over_last : (r : Row) → is_last r (rows_of []) ≡ true
unfolding is_last rows_of
over_last r = refl

next_last : (r next : Row) (rest : List Row) → is_last r (next ∷ rest) ≡ not (eqb r.step next.step)
unfolding is_last
next_last r next rest = refl

pub last_over : (list : List ℕ) (row : ℕ) → 3 * (row + 1) ≡ length list → last_at list row ≡ true
last_over list row p =
    ap (λ (k : ℕ). is_last (row_at list row) (rows_of (drop k list))) p
    ∙ ap (λ (l : List ℕ). is_last (row_at list row) (rows_of l)) (drop-length list) ∙ over_last (row_at list row)

pub last_next : (list : List ℕ) (row : ℕ) → 3 * (row + 1) + 2 < length list → last_at list row ≡ not (eqb (step_at list row) (get_or list (3 * row + 3) 0))
last_next list row h =
    let p : 3 * (row + 1) ≡ 3 * row + 3 = omega arith in
    ap (is_last (row_at list row)) (rows_next list (3 * (row + 1)) (omega (arith, h))) ∙ next_last (row_at list row) _ _
    ∙ ap (λ (k : ℕ). not (eqb (step_at list row) (get_or list k 0))) p
