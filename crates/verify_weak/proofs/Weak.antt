-- The judgement of a weak list, from one number to the next, and by its tests.
use mathlib.Core.Path.{◌≡◌, ap, ◌∙◌}
use mathlib.Core.Bool.{Bool, true, false, not, cond, ◌&&◌, ◌||◌}
use mathlib.Core.Logic.{◌⊎◌, inl, inr}
use mathlib.Core.List.{List, ◌∷◌, Memᴰ as In}
use Prim.Native.Nat.{ℕ, suc, ◌+◌, ◌*◌, ◌/◌, ◌≤◌, ◌<◌}
use native.Mathlib.Omega.{arith}
use native.Mathlib.Decide.{dec_lt}
use lib.Dec.{leb}
use lib.ListN.{length, get_or, drop}
use lib.Seq.{drop-cons, drop-length}
use borrow.Author.Tests.{le-leb, lt-leb}
use Rattle.connectivity.specs.Lists.{mem}
use Rattle.connectivity.specs.Plan.{Plan, graph, Limits}
use Rattle.connectivity.specs.Graph.{Graph, Vertex, is_edge}
use Rattle.connectivity.specs.Cut.{disconnects}
use Rattle.connectivity.specs.Admission.{answer, passed, and_then, Admitted}
use Rattle.connectivity.specs.Judge.{ascending, judge_weak, judge_graph, judge}
use Rattle.connectivity.proofs.Lists.{Decides, decides_le, decides_or, T-dec, T_true, T_false, true-T, false-T, in_mem, mem_in}
use Rattle.connectivity.proofs.Search.{is_edge_lem}
use Rattle.connectivity.proofs.Admission.{passed_then, failed_then}
use Rattle.connectivity.proofs.Kept.{vertex_is, edge_is}
use Rattle.connectivity.proofs.Judge.{judge_admitted}
use Rattle.verify_weak.specs.Weak.{is_missing}

-- the test for an edge, by its parts, and what it tells
module _ (ends excluded : List ℕ) (e : ℕ) where
  pub missing_behind : length ends / 2 ≤ e → is_missing ends excluded e ≡ true
  unfolding is_missing
  missing_behind h = rw (le-leb (length ends / 2) e h)

  pub missing_end : e < length ends / 2 → is_missing ends excluded e ≡ (mem (get_or ends (2 * e) 0) excluded || mem (get_or ends (2 * e + 1) 0) excluded)
  unfolding is_missing
  missing_end h = rw (lt-leb (length ends / 2) e h)

  pub not_missing : is_missing ends excluded e ≡ false → e < length ends / 2
  not_missing q = elim (dec_lt e (length ends / 2)) [ yes l ↦ l | no h ↦ absurd (false-T q (true-T (missing_behind (omega (arith, h))))) ]

  missing_is : Decides (is_missing ends excluded e) ((length ends / 2 ≤ e) ⊎ (In (get_or ends (2 * e) 0) excluded ⊎ In (get_or ends (2 * e + 1) 0) excluded))
  unfolding is_missing
  missing_is = decides_or (decides_le (length ends / 2) e) (decides_or (decides_mem (get_or ends (2 * e) 0)) (decides_mem (get_or ends (2 * e + 1) 0)))
    where
      decides_mem : (v : ℕ) → Decides (mem v excluded) (In v excluded)
      decides_mem v = record { holds = mem_in v excluded; test = in_mem }

-- the edges of an admitted plan are the others
pub edge_told : {most : Limits} {p : Plan} → Admitted most p → (e : ℕ) → is_edge (graph p) e ≡ not (is_missing p.ends p.excluded e)
edge_told {p = p} a e = elim (T-dec (is_missing p.ends p.excluded e)) [
  | yes t ↦ rw (T_true (is_missing p.ends p.excluded e) t) (T_false (is_edge (graph p) e) (λ k. out ((edge_is p e).0 ((is_edge_lem (graph p) e).0 k)) (missing.holds t)))
  | no n ↦
      let l = not_missing p.ends p.excluded e (T_false (is_missing p.ends p.excluded e) n) in
      let f = a.fit e l in
      rw (T_false (is_missing p.ends p.excluded e) n) (T_true (is_edge (graph p) e) ((is_edge_lem (graph p) e).1 ((edge_is p e).1 (
        l,
        (vertex_is p _).1 (f.left, λ i. n (missing.test (inr (inl i)))),
        (vertex_is p _).1 (f.right, λ i. n (missing.test (inr (inr i)))),
      ))))
]
  where
    missing : Decides (is_missing p.ends p.excluded e) ((length p.ends / 2 ≤ e) ⊎ (In (get_or p.ends (2 * e) 0) p.excluded ⊎ In (get_or p.ends (2 * e + 1) 0) p.excluded))
    missing = missing_is p.ends p.excluded e

    out : (e < length p.ends / 2) × Vertex (graph p) (get_or p.ends (2 * e) 0) × Vertex (graph p) (get_or p.ends (2 * e + 1) 0)
        → (length p.ends / 2 ≤ e) ⊎ (In (get_or p.ends (2 * e) 0) p.excluded ⊎ In (get_or p.ends (2 * e + 1) 0) p.excluded) → ⊥
    out k (inl h) = omega (arith, k.0)
    out k (inr (inl i)) = ((vertex_is p _).0 k.1).1 i
    out k (inr (inr i)) = ((vertex_is p _).0 k.2).1 i

-- one number
one_more : (ends excluded : List ℕ) (g : Graph) → ((e : ℕ) → is_edge g e ≡ not (is_missing ends excluded e)) → (k low e : ℕ) (rest : List ℕ)
    → ascending g k low (e ∷ rest) ≡ cond (not (is_missing ends excluded e) && leb low e) (ascending g (k + 1) (e + 1) rest) (answer 11 k)
unfolding ascending
one_more ends excluded g all k low e rest =
    let p : suc k ≡ k + 1 = omega arith in
    let q : suc e ≡ e + 1 = omega arith in
    rw (all e, p, q)

module _ (ends excluded : List ℕ) (g : Graph) (all : (e : ℕ) → is_edge g e ≡ not (is_missing ends excluded e)) (list : List ℕ) (k low : ℕ) where
  abbrev now : ℕ
  now = get_or list k 0

  step : k < length list → ascending g k low (drop k list) ≡ cond (not (is_missing ends excluded now) && leb low now) (ascending g (k + 1) (now + 1) (drop (k + 1) list)) (answer 11 k)
  step h =
      let p : suc k ≡ k + 1 = omega arith in
      ap (ascending g k low) (drop-cons list k 0 h ∙ ap (λ (j : ℕ). now ∷ drop j list) p) ∙ one_more ends excluded g all k low now (drop (k + 1) list)

  pub turn_next : k < length list → is_missing ends excluded now ≡ false → low ≤ now → ascending g k low (drop k list) ≡ ascending g (k + 1) (now + 1) (drop (k + 1) list)
  turn_next h b l = step h ∙ rw (b, le-leb low now l)

  pub turn_none : k < length list → is_missing ends excluded now ≡ true → ascending g k low (drop k list) ≡ answer 11 k
  turn_none h b = step h ∙ rw b

  pub turn_low : k < length list → is_missing ends excluded now ≡ false → now < low → ascending g k low (drop k list) ≡ answer 11 k
  turn_low h b l = step h ∙ rw (b, lt-leb low now l)

pub turn_over : (g : Graph) (list : List ℕ) (k low : ℕ) → k ≡ length list → ascending g k low (drop k list) ≡ passed
unfolding ascending
turn_over g list k low p = rw (p, drop-length list)

-- the whole answer, by its tests

module _ (g : Graph) (list : List ℕ) where
  pub weak_long : 2 < length list → judge_weak g list ≡ answer 9 0
  unfolding judge_weak
  weak_long h = rw (lt-leb (length list) 2 h)

  module _ (h : length list ≤ 2) where
    short : judge_weak g list ≡ and_then (ascending g 0 0 list) (cond (disconnects g list) passed (answer 17 0))
    unfolding judge_weak
    short = rw (le-leb (length list) 2 h)

    pub weak_turn : ((ascending g 0 0 list).number ≡ 0 → ⊥) → judge_weak g list ≡ ascending g 0 0 list
    weak_turn f = short ∙ failed_then (ascending g 0 0 list) _ f

    pub weak_cut : (t : Bool) → (ascending g 0 0 list).number ≡ 0 → t ≡ disconnects g list → judge_weak g list ≡ cond t passed (answer 17 0)
    weak_cut t z p = short ∙ passed_then (ascending g 0 0 list) _ z ∙ rw p

-- of kind 1 the weak list is judged
pub judge_weak_lem : (most : Limits) (p : Plan) (list : List ℕ) → Admitted most p → judge most p 1 list ≡ judge_weak (graph p) list
unfolding judge_graph
judge_weak_lem most p list a = judge_admitted most p 1 list a
