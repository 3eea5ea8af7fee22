-- What the tables of a caller tell: the edges between an edge and the next of its chain have other keys, and so other labels; and all edges of a
-- chain are met from its head on, ascending.
use mathlib.Core.Path.{◌≡◌, sym, ap, subst, ◌∙◌}
use mathlib.Core.List.{List, map}
use Prim.Native.Nat.{ℕ, zero, suc, ◌+◌, ◌-◌, ◌≤◌, ◌<◌}
use native.Mathlib.Omega.{arith}
use native.Mathlib.Decide.{ℕ_discrete, dec_lt}
use lib.ListN.{length, get_or}
use Rattle.connectivity.specs.Lists.{range}
use Rattle.connectivity.proofs.Lists.{T_true}
use Rattle.graph.specs.declared.Answer.{Answer}
use Rattle.incidence.proofs.Front.{front_at, front_kept}
use Rattle.chains.specs.Chains.{key_of, head_of, next_of, keys, named, Lowest, Along, here, on, enough, Chained}
use Rattle.chains.proofs.Lowest.{named_some, lowest_is}
use Rattle.chains.proofs.Linking.{map_long, map_at, room_is}

-- with tables that are long enough nothing is refused
pub chained_served : {m : ℕ} {labels next₀ heads₀ next heads : List ℕ} {r : Answer} → Chained m labels next₀ heads₀ next heads r
    → m ≤ length labels → m ≤ length next₀ → 0 < length heads₀ → r.number ≡ 0
chained_served {m} {labels} {next₀} {heads₀} c a b h = ap (λ (x : Answer). x.number) c.answer ∙ rw (T_true (enough m labels next₀ heads₀) ((room_is m labels next₀ heads₀).test (a, (b, h))))

module _ {m : ℕ} {labels next₀ heads₀ next heads : List ℕ} {r : Answer} (c : Chained m labels next₀ heads₀ next heads r) (z : r.number ≡ 0) where
  abbrev key : ℕ → ℕ
  key = keys (length heads₀) labels

  pub next_lowest : (e : ℕ) → e < m → Lowest key (key e) (e + 1) m (get_or next e 0)
  next_lowest e h =
      let q : get_or next e 0 ≡ next_of key m e = front_at (map (next_of key m) (range 0 m)) next₀ (c.next_front z) e (omega (arith, map_long (next_of key m) m)) ∙ map_at (next_of key m) m e h in
      rw q (lowest_is key (key e) m (e + 1) (omega arith))

  pub next_long : m ≤ length next₀ → length next ≡ length next₀
  next_long h = (front_kept (map (next_of key m) (range 0 m)) next₀ (c.next_front z) (omega (arith, map_long (next_of key m) m))).long

  pub head_lowest : (i : ℕ) → i < length heads₀ → Lowest key i 0 m (get_or heads i 0)
  head_lowest i h =
      let q : get_or heads i 0 ≡ head_of key m i = ap (λ (l : List ℕ). get_or l i 0) (c.heads_are z) ∙ map_at (head_of key m) (length heads₀) i h in
      let k : m - 0 ≡ m = omega arith in
      rw q (rw k at (lowest_is key i m 0 (omega arith)))

-- no label between an edge and the next of its chain is the edge's own
pub other_label : {m e x : ℕ} (size : ℕ) (labels : List ℕ) → Lowest (keys size labels) (keys size labels e) (e + 1) m x
    → (d : ℕ) → e < d → d < named m x → get_or labels e 0 ≡ get_or labels d 0 → ⊥
other_label size labels l d h b q = l.between d (omega arith) b (ap (key_of size) (sym q))

-- along a chain
module _ {key next : ℕ → ℕ} {m : ℕ} (follows : (e : ℕ) → e < m → Lowest key (key e) (e + 1) m (next e)) {i : ℕ} where
  name : {e x : ℕ} → Lowest key i e m (suc x) → (e ≤ x) × (x < m) × (key x ≡ i)
  name {x = x} l = let s : suc x - 1 ≡ x = omega arith in (omega (arith, l.low, named_some m (suc x) (omega arith)), l.inside, ap key (sym s) ∙ l.on (omega arith))

  after : {e x : ℕ} → Lowest key i e m (suc x) → Lowest key i (x + 1) m (next x)
  after {x = x} l = subst (λ (j : ℕ). Lowest key j (x + 1) m (next x)) (name l).2 (follows x (name l).1)

  met : (more e x d : ℕ) → e ≤ d → d < e + more → Lowest key i e m x → d < m → key d ≡ i → Along next x d
  met zero e x d a b l h k = absurd (omega arith)
  met (suc more) e zero d a b l h k = absurd (l.between d a h k)
  met (suc more) e (suc x) d a b l h k = elim (ℕ_discrete d x) [
    | yes q ↦ rw q here
    | no q ↦ elim (dec_lt d x) [
      | yes o ↦ absurd (l.between d a (omega (arith, named_some m (suc x) (omega arith))) k)
      | no o ↦ let n = name l in on (met more (x + 1) (next x) d (omega arith) (omega (arith, n.0)) (after l) h k)
    ]
  ]

  -- the edges of chain i from e on are met
  pub along_all : {e x d : ℕ} → Lowest key i e m x → e ≤ d → d < m → key d ≡ i → Along next x d
  along_all {e} {x} {d} l a h k = met (d + 1 - e) e x d a (omega arith) l h k

  -- and no others, ascending
  pub along_only : {e x d : ℕ} → Lowest key i e m x → Along next x d → (e ≤ d) × (d < m) × (key d ≡ i)
  along_only l here = name l
  along_only {e = e} l (on {e = x} a) = let n = name l in let r = along_only {e = x + 1} (after l) a in (omega (arith, n.0, r.0), r.1, r.2)
