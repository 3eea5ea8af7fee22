-- The verdict on a plan.
use Rattle.std.specs.Prelude.{cond, List, [], ◌∷◌, ℕ, ◌*◌, eqb, ltb, length}
use Rattle.std.proofs.Math.Option.{Option, none, some}
use Rattle.connectivity.specs.Graph.{edges}
use Rattle.connectivity.specs.Plan.{Plan, graph, Limits}
use Rattle.connectivity.specs.Cut.{lowest_cut}
use Rattle.connectivity.specs.Admission.{Answer, answer, Handed, served, refusal, admission}

-- 01: a verdict: refused; weak, with the tabs that it names; firm
pub data Verdict : Type 0 where
  refused : Answer → Verdict
  weak : List ℕ → Verdict
  firm : Verdict

-- 01: weak, naming the lowest cut of at most two edges, where there is one; else firm
unfoldable pub verdict_on : Option (List ℕ) → Verdict
verdict_on none = firm
verdict_on (some cut) = weak cut

-- 01: the writer's order: the plan's own refusals; then 6, where the lent record, `space` numbers, has fewer than three for each edge; then weak
-- or firm
unfoldable pub verdict : Limits → Plan → ℕ → Verdict
verdict most p space =
    let a = admission most p in
    let g = graph p in
    let found = verdict_on (lowest_cut g) in
    cond (eqb a.number 0)
    (cond (ltb space (3 * length (edges g))) (refused (answer 6 0)) found)
    (refused a)

-- 01: a verdict as it is handed back: kind 0 for firm; kind 1 for weak, with a count and two places for its edges, unused places 0; or the
-- refusal
unfoldable pub verdict_handed : Verdict → Handed
verdict_handed (refused a) = refusal a
verdict_handed firm = served (0 ∷ [])
verdict_handed (weak []) = served (1 ∷ (0 ∷ (0 ∷ (0 ∷ []))))
verdict_handed (weak (e ∷ [])) = served (1 ∷ (1 ∷ (e ∷ (0 ∷ []))))
verdict_handed (weak (e ∷ (d ∷ l))) = served (1 ∷ (2 ∷ (e ∷ (d ∷ []))))
