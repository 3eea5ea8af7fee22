-- The verdict on a plan: firm exactly where the graph is 3-edge-connected, else weak with the lowest cut; and each other answer.
use mathlib.Core.Path.{◌≡◌, refl, sym, ap, ◌∙◌}
use mathlib.Core.Logic.{◌↔◌}
use mathlib.Core.List.{List}
use mathlib.Core.Option.{Option, none, some}
use Prim.Native.Nat.{ℕ, ◌*◌, ◌≤◌, ◌<◌}
use native.Mathlib.Omega.{arith}
use native.Mathlib.Decide.{ℕ_discrete, dec_lt}
use lib.ListN.{length}
use borrow.Author.Tests.{le-ltb, lt-ltb, ne_eqb}
use Rattle.connectivity.specs.Graph.{Graph, edges}
use Rattle.connectivity.specs.Plan.{Plan, graph, Limits}
use Rattle.connectivity.specs.Reach.{ThreeEdgeConnected}
use Rattle.connectivity.specs.Cut.{LowestCut, lowest_cut}
use Rattle.connectivity.specs.Admission.{Answer, answer, Admitted, admission}
use Rattle.connectivity.specs.Verdict.{refused, weak, firm, verdict_on, verdict}
use Rattle.connectivity.proofs.LowestCut.{lowest_cut_lem, lowest_found, three_edge_connected}
use Rattle.connectivity.proofs.Admission.{admission_is, admission_number}
use Rattle.connectivity.proofs.Kept.{two_kept}

firm_not_weak : {cut : List ℕ} → firm ≡ weak cut → ⊥
firm_not_weak {cut} p = let z : ◌≡◌ {A = ℕ} 0 1 = cc in omega arith

weak_same : {c d : List ℕ} → weak c ≡ weak d → c ≡ d
weak_same {c} {d} p = cc

on_firm : (o : Option (List ℕ)) → verdict_on o ≡ firm → o ≡ none
unfolding verdict_on
on_firm none p = refl
on_firm (some cut) p = absurd (firm_not_weak (sym p))

on_weak : (o : Option (List ℕ)) (cut : List ℕ) → verdict_on o ≡ weak cut → o ≡ some cut
unfolding verdict_on
on_weak none cut p = absurd (firm_not_weak p)
on_weak (some c) cut p = ap some (weak_same p)

module _ {most : Limits} {p : Plan} (a : Admitted most p) (space : ℕ) where
  abbrev g : Graph
  g = graph p

  -- too little space
  pub verdict_short : space < 3 * length (edges g) → verdict most p space ≡ refused (answer 6 0)
  unfolding verdict
  verdict_short h = rw ((admission_is most p).1 a, lt-ltb space (3 * length (edges g)) h)

  -- enough
  module _ (h : 3 * length (edges g) ≤ space) where
    pub reaches : verdict most p space ≡ verdict_on (lowest_cut g)
    unfolding verdict
    reaches = rw ((admission_is most p).1 a, le-ltb space (3 * length (edges g)) h)

    pub verdict_firm : (verdict most p space ≡ firm) ↔ ThreeEdgeConnected g
    unfolding verdict_on
    verdict_firm =
        let t = two_kept a in
        let e = three_edge_connected t.low t.other t.lowest.vertex t.vertex (λ q. omega (arith, t.above)) in
        (λ q. e.0 (on_firm (lowest_cut g) (sym reaches ∙ q)), λ t. reaches ∙ ap verdict_on (e.1 t))

    pub verdict_weak : (cut : List ℕ) → (verdict most p space ≡ weak cut) ↔ LowestCut g cut
    unfolding verdict_on
    verdict_weak cut = (λ q. lowest_cut_lem (on_weak (lowest_cut g) cut (sym reaches ∙ q)), λ l. reaches ∙ ap verdict_on (lowest_found l))

-- a plan that is not admitted is refused by its own number, whatever the space
pub verdict-refused : (most : Limits) (p : Plan) (space : ℕ) → (Admitted most p → ⊥)
    → verdict most p space ≡ refused (admission most p)
unfolding verdict
verdict-refused most p space h = rw (ne_eqb (admission most p).number 0 (λ z. h ((admission_number most p).0 z)))

refused_not_weak : {x : Answer} {cut : List ℕ} → refused x ≡ weak cut → ⊥
refused_not_weak {x} {cut} p = let z : ◌≡◌ {A = ℕ} 0 1 = cc in omega arith

-- weak is said of an admitted plan alone, where there is enough space
pub weak_served : (most : Limits) (p : Plan) (space : ℕ) {cut : List ℕ} → verdict most p space ≡ weak cut → Admitted most p × (3 * length (edges (graph p)) ≤ space)
weak_served most p space q = elim (ℕ_discrete (admission most p).number 0) [
  | yes z ↦
      let a = (admission_number most p).0 z in
      (a, elim (dec_lt space (3 * length (edges (graph p)))) [ yes l ↦ absurd (refused_not_weak (sym (verdict_short a space l) ∙ q)) | no n ↦ omega (arith, n) ])
  | no n ↦ absurd (refused_not_weak (sym (verdict-refused most p space (λ a. n ((admission_number most p).1 a))) ∙ q))
]
