-- What it means that a verdict passes: a firm one builds the graph by Mader's steps, a weak one is a cut, and no other kind passes;
-- and the plan's own refusal comes first.
use mathlib.Core.Path.{◌≡◌, refl, ap, ◌∙◌}
use mathlib.Core.Logic.{inl, inr, ◌↔◌}
use mathlib.Core.Bool.{cond, ◌&&◌}
use mathlib.Core.List.Memᴰ.{cases_cons as in-cons}
use mathlib.Core.List.Memᴰ.{head as first}
use mathlib.Core.List.Memᴰ.{not-nil as not_in}
use mathlib.Core.List.Memᴰ.{tail as later}
use mathlib.Core.List.{List, [], ◌∷◌, Memᴰ as In}
use Prim.Native.Nat.{ℕ, suc, ◌≤◌, ◌<◌}
use native.Mathlib.Omega.{arith}
use lib.Dec.{T, leb, leb→le, le→leb}
use lib.ListN.{length}
use borrow.Author.Tests.{ne_eqb}
use Rattle.connectivity.specs.Lists.{Ordered, nil, cons}
use Rattle.connectivity.specs.Graph.{Graph, Edge, is_edge}
use Rattle.connectivity.specs.Plan.{Plan, graph, Limits}
use Rattle.connectivity.specs.Reach.{ThreeEdgeConnected}
use Rattle.connectivity.specs.Cut.{EdgeSet, Cut, disconnects}
use Rattle.connectivity.specs.Mader.{Builds}
use Rattle.connectivity.specs.Admission.{Answer, answer, passed, and_then, Admitted, admission}
use Rattle.connectivity.specs.Judge.{ascending, judge_weak, judge_graph, judge}
use Rattle.connectivity.proofs.Lists.{Decides, decides, decides_le, decides_and}
use Rattle.connectivity.proofs.Search.{is_edge_lem}
use Rattle.connectivity.proofs.Disconnects.{disconnects_is}
use Rattle.connectivity.proofs.Admission.{both_passed, passed_then, failed_then, passed_when, Told, cond_both, admission_number}
use Rattle.connectivity.proofs.Sound.{builds_three_edge_connected}
use Rattle.connectivity.proofs.Build.{firm_is}

-- Weak lists.

-- ascending edges, none below `low`
pub record Rises (g : Graph) (low : ℕ) (list : List ℕ) : Type 0 where
  pub set : EdgeSet g list
  pub from : (e : ℕ) → In e list → low ≤ e

rises_next : {g : Graph} {low e : ℕ} {list : List ℕ} → Edge g e → low ≤ e → Rises g (suc e) list → Rises g low (e ∷ list)
rises_next {g} {low} {e} p h r = record {
  set = record { ascending = cons r.from r.set.ascending; members = λ d i. elim (in-cons i) [ inl q ↦ rw q p | inr j ↦ r.set.members d j ] };
  from = λ d i. elim (in-cons i) [ inl q ↦ omega arith | inr j ↦ omega (arith, r.from d j) ];
}

rises_rest : {g : Graph} {low e : ℕ} {list : List ℕ} → Rises g low (e ∷ list) → Rises g (suc e) list
rises_rest {g} {low} {e} {list} r = go r.set.ascending
  where
    go : Ordered ◌<◌ (e ∷ list) → Rises g (suc e) list
    go (cons h o) = record { set = record { ascending = o; members = λ d i. r.set.members d (later i) }; from = h }

edge_above : (g : Graph) (low e : ℕ) → Decides (is_edge g e && leb low e) (Edge g e × (low ≤ e))
edge_above g low e = decides_and (decides (is_edge g e) (is_edge_lem g e)) (decides_le low e)

ascending_is : (g : Graph) (k low : ℕ) (list : List ℕ) → (ascending g k low list ≡ passed) ↔ Rises g low list
unfolding ascending
ascending_is g k low [] = (λ p. record { set = record { ascending = nil; members = λ e i. absurd (not_in i) }; from = λ e i. absurd (not_in i) }, λ r. refl)
ascending_is g k low (e ∷ list) =
    let d = edge_above g low e in
    let rest = ascending_is g (suc k) (suc e) list in
    let here = passed_when (is_edge g e && leb low e) (ascending g (suc k) (suc e) list) 11 k (λ z. omega arith) in (
      λ p. let q = here.0 p in let f = d.holds q.0 in rises_next f.0 f.1 (rest.0 q.1),
      λ r. here.1 (d.test (r.set.members e (first refl), r.from e (first refl)), rest.1 (rises_rest r)),
    )

ascending-told : (g : Graph) (k low : ℕ) (list : List ℕ) → Told (ascending g k low list)
unfolding ascending
ascending-told g k low [] = inl refl
ascending-told g k low (e ∷ list) = cond_both Told (is_edge g e && leb low e) (ascending-told g (suc k) (suc e) list) (inr (λ z. omega arith))

-- 01: the check passes a weak verdict exactly when its tabs (two at most, ascending) are the plan's and part the sheet
pub weak_is : (g : Graph) (list : List ℕ) → (judge_weak g list ≡ passed) ↔ Cut g list
unfolding judge_weak and_then
weak_is g list = (to, from)
  where
    short : (cond (leb (length list) 2) (and_then (ascending g 0 0 list) (cond (disconnects g list) passed (answer 17 0))) (answer 9 0) ≡ passed)
        ↔ (T (leb (length list) 2) × (and_then (ascending g 0 0 list) (cond (disconnects g list) passed (answer 17 0)) ≡ passed))
    short = passed_when (leb (length list) 2) _ 9 0 (λ z. omega arith)

    parts : (cond (disconnects g list) passed (answer 17 0) ≡ passed) ↔ (T (disconnects g list) × (passed ≡ passed))
    parts = passed_when (disconnects g list) passed 17 0 (λ z. omega arith)

    to : judge_weak g list ≡ passed → Cut g list
    to h =
        let p = short.0 h in
        let q = both_passed (ascending g 0 0 list) _ p.1 in
        let rises : ascending g 0 0 list ≡ passed = elim (ascending-told g 0 0 list) [ inl e ↦ e | inr n ↦ absurd (n q.0) ] in
        record {
          set = ((ascending_is g 0 0 list).0 rises).set;
          small = leb→le (length list) 2 p.0;
          parts = (disconnects_is g list).0 (parts.0 q.1).0;
        }

    from : Cut g list → judge_weak g list ≡ passed
    from c = short.1 (
      le→leb (length list) 2 c.small,
      rw ((ascending_is g 0 0 list).1 (record { set = c.set; from = λ e i. omega arith })) (parts.1 ((disconnects_is g list).1 c.parts, refl)),
    )

-- Every plan, kind and list.

module _ (most : Limits) (p : Plan) where
  abbrev g : Graph
  g = graph p

  -- the plan's own refusal comes first
  pub judge-refused : (kind : ℕ) (list : List ℕ) → (Admitted most p → ⊥) → judge most p kind list ≡ admission most p
  unfolding judge
  judge-refused kind list h = failed_then (admission most p) _ (λ z. h ((admission_number most p).0 z))

  pub judge_admitted : (kind : ℕ) (list : List ℕ) → Admitted most p → judge most p kind list ≡ judge_graph g kind list
  unfolding judge
  judge_admitted kind list a = passed_then (admission most p) _ ((admission_number most p).1 a)

  judge_is : (kind : ℕ) (list : List ℕ) → (judge most p kind list ≡ passed) ↔ (Admitted most p × (judge_graph g kind list ≡ passed))
  unfolding judge
  judge_is kind list = (
    λ h. let q = both_passed _ _ h in ((admission_number most p).0 q.0, q.1),
    λ (a, q). judge_admitted kind list a ∙ q,
  )

  pub firm_passes : (list : List ℕ) → (judge most p 0 list ≡ passed) ↔ (Admitted most p × Builds g list)
  unfolding judge_graph
  firm_passes list = (
    λ h. let q = (judge_is 0 list).0 h in (q.0, (firm_is g list).0 q.1),
    λ (a, b). (judge_is 0 list).1 (a, (firm_is g list).1 b),
  )

  pub weak_passes : (list : List ℕ) → (judge most p 1 list ≡ passed) ↔ (Admitted most p × Cut g list)
  unfolding judge_graph
  weak_passes list = (
    λ h. let q = (judge_is 1 list).0 h in (q.0, (weak_is g list).0 q.1),
    λ (a, c). (judge_is 1 list).1 (a, (weak_is g list).1 c),
  )

  pub no_other_passes : (kind : ℕ) (list : List ℕ) → (kind ≡ 0 → ⊥) → (kind ≡ 1 → ⊥) → judge most p kind list ≡ passed → ⊥
  unfolding judge_graph
  no_other_passes kind list h k r =
      let q = rw (ne_eqb kind 0 h, ne_eqb kind 1 k) at ((judge_is kind list).0 r).1 in
      let z = ap (λ (a : Answer). a.number) q in omega arith

  -- a firm verdict that passes makes the graph 3-edge-connected, a weak one shows that it is not; so never both pass
  pub firm_three : (list : List ℕ) → judge most p 0 list ≡ passed → ThreeEdgeConnected g
  firm_three list h = builds_three_edge_connected ((firm_passes list).0 h).1

  pub weak_not_three : (list : List ℕ) → judge most p 1 list ≡ passed → ThreeEdgeConnected g → ⊥
  weak_not_three list h t = let c = ((weak_passes list).0 h).1 in c.parts (t.still list c.small)

  pub never_both : (rows tabs : List ℕ) → judge most p 0 rows ≡ passed → judge most p 1 tabs ≡ passed → ⊥
  never_both rows tabs q r = weak_not_three tabs r (firm_three rows q)
