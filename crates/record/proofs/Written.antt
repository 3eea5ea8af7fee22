-- Rows written at the front of a list: none, one more, and more behind them.
use Rattle.std.proofs.Common.{◌≡◌, ℕ, suc, ◌+◌, ◌-◌, ◌*◌, ◌≤◌, List, [], ◌∷◌, ◌++◌, length, get_or, take, drop, set, sym, refl, ap, ◌∙◌, append_assoc, append-nil, arith, length-append, length-drop, drop_of_length-le, take_all, drop-cons, drop-drop, take_at, drop_at}
use lib.Seq.{set_at}
use Rattle.connectivity.specs.Walk.{Leg}
use Rattle.connectivity.specs.Mader.{step_rows}
use Rattle.record.specs.Ways.{Written, with_row}

pub rows_append : (s : ℕ) (l r : List Leg) → step_rows s (l ++ r) ≡ step_rows s l ++ step_rows s r
rows_append s [] r = refl
rows_append s (l ∷ legs) r = ap (λ (k : List ℕ). s ∷ (l.edge ∷ (l.from ∷ k))) (rows_append s legs r)

pub written_none : (before : List ℕ) → Written [] before before
written_none before = refl

pub written_length : (numbers before after : List ℕ) → Written numbers before after → length numbers ≤ length before → length after ≡ length before
written_length numbers before after w h =
    ap length w ∙ length-append numbers (drop (length numbers) before) ∙ omega (arith, length-drop (length numbers) before, h)

-- three numbers on the first places of a list that has them
drop_three : (l : List ℕ) (k : ℕ) → k + 3 ≤ length l
    → drop k l ≡ get_or l k 0 ∷ (get_or l (suc k) 0 ∷ (get_or l (suc (suc k)) 0 ∷ drop (suc (suc (suc k))) l))
drop_three l k h =
    drop-cons l k 0 (omega (arith, h))
    ∙ ap (λ (r : List ℕ). get_or l k 0 ∷ r)
    (drop-cons l (suc k) 0 (omega (arith, h)) ∙ ap (λ (r : List ℕ). get_or l (suc k) 0 ∷ r) (drop-cons l (suc (suc k)) 0 (omega (arith, h))))

set_three : (p : List ℕ) (a b c s e v k : ℕ) (r : List ℕ) → length p ≡ k
    → set (set (set (p ++ (a ∷ (b ∷ (c ∷ r)))) k s) (k + 1) e) (k + 2) v ≡ (p ++ (s ∷ (e ∷ (v ∷ [])))) ++ r
set_three p a b c s e v k r h =
    ap (λ (l : List ℕ). set (set l (k + 1) e) (k + 2) v) (set_at p a (b ∷ (c ∷ r)) s k h)
    ∙ ap (λ (l : List ℕ). set (set l (k + 1) e) (k + 2) v) (sym (append_assoc p (s ∷ []) (b ∷ (c ∷ r))))
    ∙ ap (λ (l : List ℕ). set l (k + 2) v) (set_at (p ++ (s ∷ [])) b (c ∷ r) e (k + 1) (length-append p (s ∷ []) ∙ omega (arith, h)))
    ∙ ap (λ (l : List ℕ). set l (k + 2) v) (append_assoc p (s ∷ []) (e ∷ (c ∷ r)) ∙ sym (append_assoc p (s ∷ (e ∷ [])) (c ∷ r)))
    ∙ set_at (p ++ (s ∷ (e ∷ []))) c r v (k + 2) (length-append p (s ∷ (e ∷ [])) ∙ omega (arith, h))
    ∙ append_assoc p (s ∷ (e ∷ [])) (v ∷ r) ∙ sym (append_assoc p (s ∷ (e ∷ (v ∷ []))) r)

pub written_row : (numbers before now : List ℕ) (count s e v : ℕ) → Written numbers before now → length numbers ≡ 3 * count → 3 * count + 3 ≤ length before
    → Written (numbers ++ (s ∷ (e ∷ (v ∷ [])))) before (with_row now count s e v)
written_row numbers before now count s e v w p h =
    let q : length (numbers ++ (s ∷ (e ∷ (v ∷ [])))) ≡ suc (suc (suc (length numbers))) = length-append numbers (s ∷ (e ∷ (v ∷ []))) ∙ omega arith in
    ap (λ (l : List ℕ). with_row l count s e v) (w ∙ ap (λ (l : List ℕ). numbers ++ l) (drop_three before (length numbers) (omega (arith, p, h))))
    ∙ set_three numbers _ _ _ s e v (3 * count) (drop (suc (suc (suc (length numbers)))) before) p
    ∙ ap (λ (k : ℕ). (numbers ++ (s ∷ (e ∷ (v ∷ [])))) ++ drop k before) (sym q)

-- the part of a list from place k on, all of it
whole_part : (now : List ℕ) (k : ℕ) → take (length now - k) (drop k now) ≡ drop k now
whole_part now k = take_all (length now - k) (drop k now) (omega (arith, length-drop k now))

pub part_long : (now : List ℕ) (k : ℕ) → length (take (length now - k) (drop k now)) ≡ length now - k
part_long now k = ap length (whole_part now k) ∙ length-drop k now

-- numbers behind those that are written, through the part of the list that begins there
pub written_part : (a b before now part : List ℕ) (k : ℕ) → Written a before now → length a ≡ k → Written b (take (length now - k) (drop k now)) part
    → Written (a ++ b) before (take k now ++ (part ++ drop (length now - k) (drop k now)))
written_part a b before now part k w p u =
    let q : length (a ++ b) ≡ length a + length b = length-append a b in
    let d : take (length now - k) (drop k now) ≡ drop (length a) before = whole_part now k ∙ ap (drop k) w ∙ drop_at a (drop (length a) before) k p in
    let t : take k now ≡ a = ap (take k) w ∙ take_at a (drop (length a) before) k p in
    let z : drop (length now - k) (drop k now) ≡ [] = drop_of_length-le (drop k now) {i = length now - k} (omega (arith, length-drop k now)) in
    ap (λ (l : List ℕ). l ++ (part ++ drop (length now - k) (drop k now))) t
    ∙ ap (λ (l : List ℕ). a ++ (part ++ l)) z
    ∙ ap (λ (l : List ℕ). a ++ l)
    (append-nil part ∙ u ∙ ap (λ (l : List ℕ). b ++ drop (length b) l) d ∙ ap (λ (l : List ℕ). b ++ l) (drop-drop (length b) (length a) before))
    ∙ sym (append_assoc a b (drop (length a + length b) before))
    ∙ ap (λ (j : ℕ). (a ++ b) ++ drop j before) (sym q)
