-- Ways that pass only through some vertices, and their laws. No notion of 01: its reach is `Reach`.
use Prim.Native.Nat.{ℕ}
use Rattle.connectivity.specs.Graph.{Graph, Joins}

-- a way over live edges on which every vertex that is left may be passed through
pub data Through (g : Graph) (live pass : ℕ → Type 0) : ℕ → ℕ → Type 0 where
  stay : {u : ℕ} → Through g live pass u u
  leave : {u v w : ℕ} (e : ℕ) → live e → pass u → Joins g e u v → Through g live pass v w → Through g live pass u w

module _ {g : Graph} {live pass : ℕ → Type 0} where
  -- one edge more
  pub through_on : {u v w e : ℕ} → Through g live pass u v → live e → pass v → Joins g e v w → Through g live pass u w
  through_on {e = e} stay l p j = leave e l p j stay
  through_on (leave d k q i r) l p j = leave d k q i (through_on r l p j)

  -- a set that no live edge leaves from a vertex that may be passed through has whatever such a way leads to
  pub closed_through : (S : ℕ → Type 0) → ((e u v : ℕ) → live e → pass u → Joins g e u v → S u → S v)
      → {u v : ℕ} → Through g live pass u v → S u → S v
  closed_through S c stay s = s
  closed_through S c (leave {u} {v} e l p j r) s = closed_through S c r (c e u v l p j s)
