-- Chains of edges by the keys of their labels, and what is said of the space lent for them.
use Rattle.std.specs.Prelude.{◌≡◌, Bool, cond, ◌&&◌, List, map, ℕ, zero, suc, ◌+◌, ◌-◌, ◌%◌, ◌≤◌, ◌<◌, eqb, leb, ltb, length, get_or}
use Rattle.connectivity.specs.Lists.{range}
use Rattle.connectivity.specs.Admission.{passed, answer}
use Rattle.graph.specs.declared.Answer.{Answer}
use Rattle.graph.specs.Admission.{told_by}
use Rattle.incidence.specs.Tables.{Front}

-- the chain of a label, of `size` chains
unfoldable pub key_of : ℕ → ℕ → ℕ
key_of size label = (label % 4294967296) % size

-- one more than the lowest of `more` edges from e on that stands on chain i; 0 for none
unfoldable pub lowest_from : (ℕ → ℕ) → ℕ → ℕ → ℕ → ℕ
lowest_from key i e zero = 0
lowest_from key i e (suc more) = cond (eqb (key e) i) (suc e) (lowest_from key i (suc e) more)

-- of m edges, the first of chain i, and what follows edge e on its chain
abbrev pub head_of : (ℕ → ℕ) → ℕ → ℕ → ℕ
head_of key m i = lowest_from key i 0 m

abbrev pub next_of : (ℕ → ℕ) → ℕ → ℕ → ℕ
next_of key m e = lowest_from key (key e) (e + 1) (m - (e + 1))

-- the edge that such a number names; m for none
abbrev pub named : ℕ → ℕ → ℕ
named m x = cond (eqb x 0) m (x - 1)

-- x names the lowest edge of chain i from e on, or none of the m edges
pub record Lowest (key : ℕ → ℕ) (i e m x : ℕ) : Type 0 where
  pub inside : x ≤ m
  pub on : 0 < x → key (x - 1) ≡ i
  pub low : e ≤ named m x
  pub between : (d : ℕ) → e ≤ d → d < named m x → key d ≡ i → ⊥

-- d stands on the chain that begins with the edge that x names
pub data Along (next : ℕ → ℕ) : ℕ → ℕ → Type 0 where
  here : {d : ℕ} → Along next (suc d) d
  on : {e d : ℕ} → Along next (next e) d → Along next (suc e) d

-- the key of each edge by its label
abbrev pub keys : ℕ → List ℕ → ℕ → ℕ
keys size labels e = key_of size (get_or labels e 0)

-- a label and a place for each edge, and a chain
abbrev pub enough : ℕ → List ℕ → List ℕ → List ℕ → Bool
enough m labels next heads = leb m (length labels) && (leb m (length next) && ltb 0 (length heads))

-- the whole answer
pub record Chained (m : ℕ) (labels next₀ heads₀ next heads : List ℕ) (r : Answer) : Type 0 where
  -- 01: 6 where the lent space is too short, else 0
  pub answer : r ≡ told_by (cond (enough m labels next₀ heads₀) passed (answer 6 0))
  -- chained: the numbers behind the edges' places stay
  pub heads_are : r.number ≡ 0 → heads ≡ map (head_of (keys (length heads₀) labels) m) (range 0 (length heads₀))
  pub next_front : r.number ≡ 0 → Front (map (next_of (keys (length heads₀) labels) m) (range 0 m)) next₀ next
  -- refused: all of it stays
  pub heads_kept : (r.number ≡ 0 → ⊥) → heads ≡ heads₀
  pub next_kept : (r.number ≡ 0 → ⊥) → next ≡ next₀
