-- The lines of drawn tabs, from one to the next, and the answer to them.
use mathlib.Core.Path.{◌≡◌, refl, ap, ◌∙◌}
use mathlib.Core.Bool.{Bool, true, false, cond, ◌&&◌}
use mathlib.Core.List.{List, [], ◌∷◌}
use Prim.Native.Nat.{ℕ, zero, suc, ◌+◌, ◌*◌, ◌-◌, ◌≤◌, ◌<◌}
use native.Mathlib.Omega.{arith}
use native.Mathlib.Nat.{suc-mul}
use lib.ListN.{length, drop, length-take, length-drop, drop_of_length-le}
use lib.Seq.{drop-drop}
use Rattle.connectivity.specs.Admission.{Answer, answer, passed, and_then, edge_number, ends_answer}
use Rattle.connectivity.proofs.Admission.{passed_then, failed_then}
use Rattle.text.specs.Column.{same}
use Rattle.text.proofs.Laws.{and_true, same_true}
use Rattle.drawn.specs.Drawing.{all_ends}
use Rattle.drawn.specs.Text.{Form, part, number_in, number_fits, measure_fits, at₁, at₂, at₃, edge_size, edge_fits, edge_in, edges_fit, edges_in}
use Rattle.drawn.specs.Line.{lines_answer}

-- the number of the drawn tab on the line at the front of a text
abbrev pub edge_at : Form → ℕ → List ℕ → ℕ
edge_at f n t = edge_number n (number_in f 0 t) (number_in f (at₁ f) t)

module _ (f : Form) (next left : ℕ) (text : List ℕ) (h : 0 < left) where
  abbrev behind : List ℕ
  behind = drop (next + edge_size f) text

  one_more : left ≡ suc (left - 1)
  one_more = omega arith

  pub fit_next : edges_fit f left (drop next text) ≡ (edge_fits f (drop next text) && edges_fit f (left - 1) behind)
  unfolding edges_fit
  fit_next =
      ap (λ (k : ℕ). edges_fit f k (drop next text)) one_more
      ∙ ap (λ (t : List ℕ). edge_fits f (drop next text) && edges_fit f (left - 1) t) (drop-drop (edge_size f) next text)

  pub in_next : edges_in f left (drop next text) ≡ edge_in f (drop next text) ∷ edges_in f (left - 1) behind
  unfolding edges_in
  in_next =
      ap (λ (k : ℕ). edges_in f k (drop next text)) one_more
      ∙ ap (λ (t : List ℕ). edge_in f (drop next text) ∷ edges_in f (left - 1) t) (drop-drop (edge_size f) next text)

  module _ (n e : ℕ) where
    pub edge_none : edge_fits f (drop next text) ≡ false → lines_answer f n e left (drop next text) ≡ answer 20 0
    unfolding lines_answer
    edge_none p = rw (fit_next, p)

    module _ (p : edge_fits f (drop next text) ≡ true) where
      first : ends_answer n e (all_ends (edges_in f left (drop next text))) ≡ and_then (answer (edge_at f n (drop next text)) e) (ends_answer n (e + 1) (all_ends (edges_in f (left - 1) behind)))
      unfolding ends_answer all_ends
      first = let q : suc e ≡ e + 1 = omega arith in rw (in_next, q)

      whole : lines_answer f n e left (drop next text)
          ≡ cond (edges_fit f (left - 1) behind) (and_then (answer (edge_at f n (drop next text)) e) (ends_answer n (e + 1) (all_ends (edges_in f (left - 1) behind)))) (answer 20 0)
      unfolding lines_answer
      whole = rw (fit_next, p, first)

      pub edge_next : edge_at f n (drop next text) ≡ 0 → lines_answer f n e left (drop next text) ≡ lines_answer f n (e + 1) (left - 1) behind
      unfolding lines_answer
      edge_next z =
          whole ∙ ap (λ (a : Answer). cond (edges_fit f (left - 1) behind) a (answer 20 0))
          (passed_then (answer (edge_at f n (drop next text)) e) (ends_answer n (e + 1) (all_ends (edges_in f (left - 1) behind))) z)

      pub edge_stop : (edge_at f n (drop next text) ≡ 0 → ⊥)
          → lines_answer f n e left (drop next text) ≡ cond (edges_fit f (left - 1) behind) (answer (edge_at f n (drop next text)) e) (answer 20 0)
      edge_stop z =
          whole ∙ ap (λ (a : Answer). cond (edges_fit f (left - 1) behind) a (answer 20 0))
          (failed_then (answer (edge_at f n (drop next text)) e) (ends_answer n (e + 1) (all_ends (edges_in f (left - 1) behind))) z)

-- behind the last line
module _ (f : Form) (next left : ℕ) (text : List ℕ) (z : left ≡ 0) (h : length text ≤ next) where
  pub fit_over : edges_fit f left (drop next text) ≡ true
  unfolding edges_fit same
  fit_over = rw (z, drop_of_length-le text {i = next} h)

  pub edges_over : (n e : ℕ) → lines_answer f n e left (drop next text) ≡ passed
  unfolding lines_answer edges_in all_ends ends_answer
  edges_over n e = rw (fit_over, z)

-- lines in the form are as long as they are
edge_long : (f : Form) (text : List ℕ) → edge_fits f text ≡ true → edge_size f ≤ length text
unfolding edge_fits
edge_long f text p =
    let q = and_true (number_fits f 0 text) (number_fits f (at₁ f) text && (measure_fits f (at₂ f) text && same (part (at₃ f) 1 text) (10 ∷ []))) p in
    let r = and_true (number_fits f (at₁ f) text) (measure_fits f (at₂ f) text && same (part (at₃ f) 1 text) (10 ∷ [])) q.1 in
    let s = and_true (measure_fits f (at₂ f) text) (same (part (at₃ f) 1 text) (10 ∷ [])) r.1 in
    omega (arith, ap length (same_true (part (at₃ f) 1 text) (10 ∷ []) s.1), length-take 1 (drop (at₃ f) text), length-drop (at₃ f) text)

pub edges_long : (f : Form) (m : ℕ) (text : List ℕ) → edges_fit f m text ≡ true → length text ≡ m * edge_size f
unfolding edges_fit
edges_long f zero text p = omega (arith, ap length (same_true text [] p))
edges_long f (suc m) text p =
    let q = and_true (edge_fits f text) (edges_fit f m (drop (edge_size f) text)) p in
    omega (arith, suc-mul m (edge_size f), edge_long f text q.0, edges_long f m (drop (edge_size f) text) q.1, length-drop (edge_size f) text)

pub lines_unfit : (f : Form) (n e m : ℕ) (text : List ℕ) → (length text ≡ m * edge_size f → ⊥) → lines_answer f n e m text ≡ answer 20 0
unfolding lines_answer
lines_unfit f n e m text h = go (edges_fit f m text) refl
  where
    go : (t : Bool) → edges_fit f m text ≡ t → cond t (ends_answer n e (all_ends (edges_in f m text))) (answer 20 0) ≡ answer 20 0
    go true p = absurd (h (edges_long f m text p))
    go false p = refl

pub length-edges_in : (f : Form) (m : ℕ) (text : List ℕ) → length (edges_in f m text) ≡ m
unfolding edges_in
length-edges_in f zero text = refl
length-edges_in f (suc m) text = ap suc (length-edges_in f m (drop (edge_size f) text))
