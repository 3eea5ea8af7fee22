-- The edges are put on their chains one after the other, from the last to the first; the tables as they are at the end.
use mathlib.Core.Path.{◌≡◌, refl, sym, ap, subst, ◌∙◌}
use mathlib.Core.List.{List, map}
use Prim.Native.Nat.{ℕ, ◌+◌, ◌-◌, ◌≤◌, ◌<◌}
use native.Mathlib.Omega.{arith}
use native.Mathlib.Decide.{ℕ_discrete}
use lib.Dec.{ltb, ltb→lt, lt→ltb}
use lib.ListN.{length, get_or, set, replicate, length-map, length-set, length-replicate, get_or-replicate}
use lib.Seq.{ext_get_or, get_or-set_same, get_or-set_other}
use Rattle.connectivity.specs.Lists.{range}
use Rattle.connectivity.proofs.Lists.{Decides, decides, decides_le, decides_and, T_true, T_false, length-range, map_range}
use Rattle.incidence.proofs.Loops.{kept_same, kept_set}
use Rattle.incidence.proofs.Front.{front}
use Rattle.chains.specs.Chains.{lowest_from, head_of, next_of, keys, enough, Chained}
use Rattle.chains.specs.Parts.{Linking, Linked}
use Rattle.chains.proofs.Lowest.{lowest_none, lowest_yes, lowest_no}

module _ (m : ℕ) (labels : List ℕ) where
  pub linked_start : {next heads : List ℕ} → Linking m labels next heads → Linked m m (length heads) labels next next heads
  linked_start {next} {heads} l = record {
    next_kept = kept_same m next;
    heads_long = refl;
    first = λ i h.
        let q : m - m ≡ 0 = omega arith in
        ap (λ (z : List ℕ). get_or z i 0) l.empty ∙ get_or-replicate (length heads) i 0 0 h ∙ sym (ap (lowest_from (keys (length heads) labels) i m) q ∙ lowest_none (keys (length heads) labels) i m);
    later = λ d h b. absurd (omega arith);
  }

  -- edge e becomes the head of its chain, i
  module _ {e i k size : ℕ} {next₀ next heads : List ℕ} (h : e < m) (room : e < length next) (there : i < size) (p : i ≡ keys size labels e)
      (after : k ≡ e + 1) (linked : Linked m k size labels next₀ next heads) where
    l : Linked m (e + 1) size labels next₀ next heads
    l = subst (λ (d : ℕ). Linked m d size labels next₀ next heads) after linked

    pub linked_step : Linked m e size labels next₀ (set next e (get_or heads i 0)) (set heads i (e + 1))
    linked_step = record {
      next_kept = kept_set e (get_or heads i 0) h l.next_kept;
      heads_long = length-set heads i (e + 1) ∙ l.heads_long;
      first = λ j b. elim (ℕ_discrete j i) [
        | yes q ↦ rw q (get_or-set_same heads i (e + 1) 0 (omega (arith, l.heads_long)) ∙ sym (lowest_yes (keys size labels) i e m h (sym p)))
        | no q ↦ get_or-set_other heads i j (e + 1) 0 q ∙ l.first j b ∙ sym (lowest_no (keys size labels) j e m h (λ k. q (sym k ∙ sym p)))
      ];
      later = λ d a b. elim (ℕ_discrete d e) [
        | yes q ↦ rw q (get_or-set_same next e (get_or heads i 0) 0 room ∙ l.first i there ∙ ap (λ (j : ℕ). lowest_from (keys size labels) j (e + 1) (m - (e + 1))) p)
        | no q ↦ get_or-set_other next e d (get_or heads i 0) 0 q ∙ l.later d (omega arith) b
      ];
    }

-- a table that a function of the place tells
pub map_long : (f : ℕ → ℕ) (n : ℕ) → length (map f (range 0 n)) ≡ n
map_long f n = length-map (range 0 n) f ∙ length-range 0 n

pub map_at : (f : ℕ → ℕ) (n k : ℕ) → k < n → get_or (map f (range 0 n)) k 0 ≡ f k
map_at f n k h = let p : 0 + k ≡ k = omega arith in map_range f 0 n k h ∙ ap f p

-- the answer
module _ (m : ℕ) (labels next₀ heads₀ : List ℕ) where
  abbrev Room : Type 0
  Room = (m ≤ length labels) × ((m ≤ length next₀) × (0 < length heads₀))

  pub room_is : Decides (enough m labels next₀ heads₀) Room
  room_is =
      decides_and (decides_le m (length labels))
      (decides_and (decides_le m (length next₀)) (decides (ltb 0 (length heads₀)) (ltb→lt 0 (length heads₀), lt→ltb 0 (length heads₀))))

  pub chained_short : (Room → ⊥) → Chained m labels next₀ heads₀ next₀ heads₀ (record { number = 6; place = 0 })
  chained_short h = record {
    answer = rw (T_false (enough m labels next₀ heads₀) (λ t. h (room_is.holds t)));
    heads_are = λ z. absurd (omega arith);
    next_front = λ z. absurd (omega arith);
    heads_kept = λ k. refl;
    next_kept = λ k. refl;
  }

  pub link_ready : {heads : List ℕ} → Room → heads ≡ replicate (length heads₀) 0 → Linking m labels next₀ heads
  link_ready {heads} r z =
      let q : length heads ≡ length heads₀ = ap length z ∙ length-replicate {A = ℕ} (length heads₀) 0 in
      record { labels_room = r.0; next_room = r.1.0; some = omega (arith, q, r.1.1); empty = rw q z }

  pub chained_linked : {size : ℕ} {next heads : List ℕ} → Room → size ≡ length heads₀ → Linked m 0 size labels next₀ next heads
      → Chained m labels next₀ heads₀ next heads (record { number = 0; place = 0 })
  chained_linked {size} {next} {heads} r q linked = record {
    answer = rw (T_true (enough m labels next₀ heads₀) (room_is.test r));
    heads_are = λ z. ext_get_or 0 heads (map (head_of key m) (range 0 (length heads₀))) (l.heads_long ∙ sym (map_long (head_of key m) (length heads₀)))
        (λ i h.
        let b : i < length heads₀ = omega (arith, l.heads_long) in
        let z : m - 0 ≡ m = omega arith in
        l.first i b ∙ ap (lowest_from key i 0) z ∙ sym (map_at (head_of key m) (length heads₀) i b));
    next_front = λ z. front (map (next_of key m) (range 0 m)) next₀ next (omega (arith, r.1.0, map_long (next_of key m) m)) (rw (map_long (next_of key m) m) l.next_kept)
        (λ d h. let b : d < m = omega (arith, map_long (next_of key m) m) in l.later d (omega arith) b ∙ sym (map_at (next_of key m) m d b));
    heads_kept = λ h. absurd (h refl);
    next_kept = λ h. absurd (h refl);
  }
    where
      key : ℕ → ℕ
      key = keys (length heads₀) labels

      l : Linked m 0 (length heads₀) labels next₀ next heads
      l = subst (λ (s : ℕ). Linked m 0 s labels next₀ next heads) q linked
