-- P1 to P10 hold: the table's verdicts and answers are those that the definitions compute.
use mathlib.Core.Path.{◌≡◌, refl}
use mathlib.Core.List.{[], ◌∷◌, map}
use Rattle.connectivity.specs.Lists.{range, any, all, keep, mem, distinct, empty}
use Rattle.connectivity.specs.Graph.{is_vertex, is_edge, vertices, edges}
use Rattle.connectivity.specs.Plan.{plan, entire, graph, limits}
use Rattle.connectivity.specs.Cut.{near, spread, unreached, unreached_from, cut_off, disconnects, singles, pairs_with, pairs, first_of, lowest_cut}
use Rattle.connectivity.specs.Walk.{hits, is_built, is_branch, far, start, stop}
use Rattle.connectivity.specs.Link.{is_bare, same_link}
use Rattle.connectivity.specs.Admission.{answer, passed, and_then, edge_number, ends_answer, excluded_answer, kept_answer, admission}
use Rattle.connectivity.specs.Verdict.{weak, verdict_on, verdict}
use Rattle.connectivity.specs.Fallen.{word_from, words_from, marks_of, fall_with}
use Rattle.connectivity.specs.Judge.{rows_of, step_fits, edge_fits, comes_to, from_fits, row_number, leads_between, all_between, paths_fit, ear_fits, links_fit, step_number, closing_number, is_last, judge_rows, ascending, judge_firm, judge_weak, judge_graph, judge}
use Rattle.connectivity.specs.Component.{joined, together, component_of, components}
use Rattle.connectivity.specs.Table.{table, checked_by, computed, parallel}

pub plans : map computed table ≡ table
unfolding range any all keep mem distinct empty graph is_vertex is_edge vertices edges near spread unreached unreached_from cut_off disconnects singles pairs_with pairs first_of lowest_cut hits is_built is_branch far start stop is_bare same_link and_then edge_number ends_answer excluded_answer kept_answer admission verdict_on verdict rows_of step_fits edge_fits comes_to from_fits row_number leads_between all_between paths_fit ear_fits links_fit step_number closing_number is_last judge_rows ascending judge_firm judge_weak judge_graph judge checked_by computed
plans = refl

-- 1,000 pieces and 4,000 tabs are admitted; 1,001 gives 2, 4,001 gives 3; 1 piece gives 2
pub at_limits : (admission limits (entire 1000 (parallel 4000)) ≡ passed)
    × (admission limits (entire 1001 (parallel 4000)) ≡ answer 2 0)
    × (admission limits (entire 1000 (parallel 4001)) ≡ answer 3 0)
    × (admission limits (entire 1 []) ≡ answer 2 0)
unfolding admission and_then edge_number ends_answer excluded_answer kept_answer parallel range keep mem graph is_vertex vertices
at_limits = (refl, refl, refl, refl)

-- 02: a slug's group entry is itself: pieces 1 and 3 hold together, 0 and 2 are slugs
pub slug_groups : components (graph (plan 4 (1 ∷ 3 ∷ 0 ∷ 1 ∷ 3 ∷ 1 ∷ 0 ∷ 3 ∷ 1 ∷ 3 ∷ 2 ∷ 1 ∷ []) (0 ∷ 2 ∷ []))) ≡ 0 ∷ 1 ∷ 2 ∷ 1 ∷ []
unfolding range any all keep mem empty graph is_vertex is_edge vertices edges near spread unreached joined together component_of components
slug_groups = refl

-- 02: the marks of pieces on both sides of a word's border
pub mark_borders : marks_of limits (0 ∷ 63 ∷ 64 ∷ 127 ∷ 128 ∷ 999 ∷ [])
    ≡ 0x8000_0000_0000_0001 ∷ 0x8000_0000_0000_0001 ∷ 1 ∷ 0 ∷ 0 ∷ 0 ∷ 0 ∷ 0 ∷ 0 ∷ 0 ∷ 0 ∷ 0 ∷ 0 ∷ 0 ∷ 0 ∷ 0x80_0000_0000 ∷ []
unfolding marks_of words_from word_from mem
mark_borders = refl

-- 02: pieces 2 and 3 of P7 fall with its tabs 1 and 3; where piece 3 is a slug, piece 2 alone, with tab 1
pub p7_falls : (fall_with (graph (plan 4 (0 ∷ 1 ∷ 0 ∷ 2 ∷ 2 ∷ 3 ∷ 3 ∷ 1 ∷ 0 ∷ 1 ∷ 2 ∷ 3 ∷ []) [])) (weak (1 ∷ 3 ∷ [])) ≡ 2 ∷ 3 ∷ [])
    × (fall_with (graph (plan 4 (0 ∷ 1 ∷ 0 ∷ 2 ∷ 2 ∷ 3 ∷ 3 ∷ 1 ∷ 0 ∷ 1 ∷ 2 ∷ 3 ∷ []) (3 ∷ []))) (weak (1 ∷ [])) ≡ 2 ∷ [])
unfolding range any keep mem empty graph is_vertex is_edge vertices edges near spread unreached unreached_from cut_off fall_with
p7_falls = (refl, refl)
