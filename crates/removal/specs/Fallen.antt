-- What is said of a set of edges: which vertices fall when it is removed.
use Rattle.std.specs.Prelude.{◌≡◌, Bool, cond, not, ◌&&◌, List, ℕ, ◌+◌, ◌*◌, ◌≤◌, ◌<◌, eqb, ltb, length, get_or, replicate, Result, Err, Ok}
use Rattle.connectivity.specs.Lists.{mem}
use Rattle.connectivity.specs.Plan.{Plan, graph, Limits}
use Rattle.connectivity.specs.Graph.{is_vertex}
use Rattle.connectivity.specs.Cut.{cut_off}
use Rattle.connectivity.specs.Fallen.{per_word, marked, words_from, words_for, marks_of}
use Rattle.connectivity.specs.Admission.{Answer, Admitted, admission}
use Rattle.removal.specs.declared.Fallen.{Fallen}
use Rattle.graph.specs.Admission.{told_by}
use Rattle.graph.specs.declared.Answer as code
use Rattle.depth.specs.Depth.{Explored}

-- 02: the marks of some pieces, and how many they are
abbrev pub fallen_of : Limits → List ℕ → Fallen
fallen_of most list = record { words = marks_of most list; count = length list }

-- 02: of those that fall with these tabs
abbrev pub fallen_by : Limits → Plan → List ℕ → Fallen
fallen_by most p cut = fallen_of most (cut_off (graph p) cut)

-- 02: no mark
abbrev pub none : Limits → Fallen
none most = record { words = replicate (words_for most) 0; count = 0 }

-- what removing gives: the pieces that fall, or why none is told
abbrev pub Removed : Type 0
Removed = Result Fallen code.Answer

-- behind an answer of 0 the pieces that fall, else that refusal
unfoldable pub removed_after : Answer → Limits → Plan → List ℕ → Removed
removed_after a most p cut = cond (eqb a.number 0) (Ok (fallen_by most p cut)) (Err (told_by a))

-- 02: the plan's own refusals, then what falls
abbrev pub removed_by : Limits → Plan → List ℕ → Removed
removed_by most p cut = removed_after (admission most p) most p cut

-- v is a vertex that the lowest one reaches once the edges of `cut` are removed
abbrev pub is_reached : Plan → List ℕ → ℕ → Bool
is_reached p cut v = is_vertex (graph p) v && not (mem v (cut_off (graph p) cut))

-- the tables of a search have room for every plan, and no edge and no vertex has a mark
pub record Ready (most : Limits) (incident begins dead first order cursor : List ℕ) : Type 0 where
  pub incident_room : 2 * most.edges ≤ length incident
  pub begins_room : most.vertices ≤ length begins
  pub dead_room : most.edges ≤ length dead
  pub first_room : most.vertices ≤ length first
  pub order_room : most.vertices ≤ length order
  pub cursor_room : most.vertices ≤ length cursor
  pub live : (e : ℕ) → get_or dead e 0 ≡ 0
  pub unmarked : (v : ℕ) → get_or first v 0 ≡ 0

-- what a search has left of an admitted plan without the cut: a number has a mark exactly if it is a vertex that the lowest one reaches
pub record Left (most : Limits) (p : Plan) (cut first : List ℕ) : Type 0 where
  pub admitted : Admitted most p
  pub marks : (v : ℕ) → v < p.vertices → not (eqb (get_or first v 0) 0) ≡ is_reached p cut v

-- `without`: the plan's own refusal, or what is left
abbrev pub Searched : Limits → Plan → List ℕ → List ℕ → Explored → Type 0
Searched most p cut first (Err a) = (Admitted most p → ⊥) × (a ≡ told_by (admission most p))
Searched most p cut first (Ok count) = Left most p cut first

-- `top`: behind the last number of a word that is below n
pub record Topmost (n from r : ℕ) : Type 0 where
  pub low : from ≤ r
  pub high : r ≤ from + per_word
  pub inside : from < r → r ≤ n
  pub rest : r < from + per_word → n ≤ r

-- `mark`: v is below n and has no mark in either table
unfoldable pub is_unseen : ℕ → List ℕ → List ℕ → ℕ → Bool
is_unseen n first barred v = ltb v n && (eqb (get_or first v 0) 0 && eqb (get_or barred v 0) 0)

-- `pack`: the numbers below n that have no mark and do not stand in a list
pub record Packed (most : Limits) (n : ℕ) (excluded first : List ℕ) (r : Fallen) : Type 0 where
  pub words : r.words ≡ words_from (λ v. ltb v n && (eqb (get_or first v 0) 0 && not (mem v excluded))) 0 (words_for most)
  pub count : r.count ≡ marked r.words
