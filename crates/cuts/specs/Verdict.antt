-- What is said of a plan's cuts of at most two edges.
use Rattle.std.specs.Prelude.{cond, [], ◌∷◌, eqb, Result, Option, Err, Ok, None, Some}
use Rattle.connectivity.specs.Plan.{Plan, graph, Limits}
use Rattle.connectivity.specs.Cut.{lowest_cut}
use Rattle.connectivity.specs.Admission.{Answer, Handed, served, refusal, admission}
use Rattle.connectivity.specs.Verdict.{verdict_on, verdict_handed}
use Rattle.graph.specs.Admission.{answer_of}
use Rattle.cuts.specs.declared.lowest.Lowest.{Lowest}
use Rattle.graph.specs.declared.Answer as code

-- what is said of a plan's cuts of at most two edges: none, the lowest, or why neither
abbrev pub Lightest : Type 0
Lightest = Result (Option Lowest) code.Answer

-- 01's number, place and values for each case, those of a verdict: 0 where there is no cut; else 1, how many edges, and which
abbrev pub handed : Lightest → Handed
handed (Err a) = refusal (answer_of a)
handed (Ok None) = served (0 ∷ [])
handed (Ok (Some c)) = served (1 ∷ (c.count ∷ (c.first ∷ (c.second ∷ []))))

-- 01: the plan's own refusals; else the fewest tabs whose loss parts the sheet, the lowest such set, as the verdict hands it back
unfoldable pub lowest_handed : Limits → Plan → Handed
lowest_handed most p =
    let a = admission most p in
    let found = verdict_handed (verdict_on (lowest_cut (graph p))) in
    cond (eqb a.number 0) found (refusal a)

-- the same behind any refusal
unfoldable pub lowest_after : Answer → Plan → Handed
lowest_after a p =
    let found = verdict_handed (verdict_on (lowest_cut (graph p))) in
    cond (eqb a.number 0) found (refusal a)
