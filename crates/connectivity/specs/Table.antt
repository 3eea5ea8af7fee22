-- Document 01's plans to try, P1 to P10, each with its verdict and the check's answers on some verdicts; then plans and records of our
-- own for mistakes that those ten would let pass, and plans with slugs (02). proofs/Table.antt shows that the definitions compute just this.
use Rattle.std.specs.Prelude.{List, [], ◌∷◌, map, ℕ, zero, suc}
use Rattle.connectivity.specs.Plan.{Plan, plan, entire, limits}
use Rattle.connectivity.specs.Admission.{Answer, answer, passed}
use Rattle.connectivity.specs.Verdict.{Verdict, refused, weak, firm, verdict}
use Rattle.connectivity.specs.Judge.{judge}

-- a verdict as a kind and a list of numbers, and the check's answer on it
pub record Checked : Type 0 where
  pub kind : ℕ
  pub list : List ℕ
  pub reply : Answer

-- a plan, the space lent for a record, the verdict, and verdicts that were checked
pub record Case : Type 0 where
  pub drawn : Plan
  pub space : ℕ
  pub found : Verdict
  pub checks : List Checked

-- a case as the definitions have it
unfoldable pub checked_by : Plan → Checked → Checked
checked_by p c = record { kind = c.kind; list = c.list; reply = judge limits p c.kind c.list }

unfoldable pub computed : Case → Case
computed c = record {
  drawn = c.drawn;
  space = c.space;
  found = verdict limits c.drawn c.space;
  checks = map (checked_by c.drawn) c.checks;
}

abbrev case : ℕ → List ℕ → ℕ → Verdict → List Checked → Case
case n ends space v checks = record { drawn = entire n ends; space = space; found = v; checks = checks }

-- a tab's two ends, and a row: step, tab, piece
abbrev tab : ℕ → ℕ → List ℕ → List ℕ
tab a b rest = a ∷ b ∷ rest

abbrev row : ℕ → ℕ → ℕ → List ℕ → List ℕ
row s e v rest = s ∷ e ∷ v ∷ rest

abbrev firm_list : List ℕ → Answer → Checked
firm_list list a = record { kind = 0; list = list; reply = a }

abbrev weak_list : List ℕ → Answer → Checked
weak_list list a = record { kind = 1; list = list; reply = a }

abbrev other : ℕ → List ℕ → Answer → Checked
other kind list a = record { kind = kind; list = list; reply = a }

-- P1; no step at all breaks the closing rule, and the empty list parts what is already parted
abbrev p1 : Case
p1 = case 2 [] 0 (weak []) (firm_list [] (answer 16 0) ∷ weak_list [] passed ∷ [])

-- P2; the empty list does not part it
abbrev p2 : Case
p2 = case 2 (tab 0 1 []) 3 (weak (0 ∷ [])) (weak_list (0 ∷ []) passed ∷ weak_list [] (answer 17 0) ∷ [])

-- P3; two steps are too few; weak lists: one of the two, not ascending, the same twice, not below the tabs, more than two; no kind
abbrev p3 : Case
p3 = case 2 (tab 0 1 (tab 0 1 [])) 6 (weak (0 ∷ 1 ∷ []))
    (firm_list (row 0 0 0 (row 1 1 0 [])) (answer 16 0)
    ∷ weak_list (0 ∷ 1 ∷ []) passed
    ∷ weak_list (1 ∷ []) (answer 17 0)
    ∷ weak_list (1 ∷ 0 ∷ []) (answer 11 1)
    ∷ weak_list (1 ∷ 1 ∷ []) (answer 11 1)
    ∷ weak_list (1 ∷ 2 ∷ []) (answer 11 1)
    ∷ weak_list (0 ∷ 1 ∷ 1 ∷ []) (answer 9 0)
    ∷ other 2 (1 ∷ []) (answer 9 0)
    ∷ [])

-- P4; a path may go either way
abbrev p4 : Case
p4 = case 2 (tab 0 1 (tab 0 1 (tab 0 1 []))) 9 firm
    (firm_list (row 0 0 0 (row 1 1 0 (row 2 2 0 []))) passed
    ∷ firm_list (row 0 0 0 (row 1 1 1 (row 2 2 0 []))) passed
    -- 10: the first step is not 0, a step is left out, a step goes back
    ∷ firm_list (row 1 0 0 (row 1 1 0 (row 2 2 0 []))) (answer 10 0)
    ∷ firm_list (row 0 0 0 (row 2 1 0 (row 2 2 0 []))) (answer 10 1)
    ∷ firm_list (row 0 0 0 (row 1 1 0 (row 0 2 0 []))) (answer 10 2)
    -- 11: not below the tabs, used before in the step and in an earlier one
    ∷ firm_list (row 0 3 0 (row 1 1 0 (row 2 2 0 []))) (answer 11 0)
    ∷ firm_list (row 0 0 0 (row 0 0 1 (row 1 2 0 []))) (answer 11 1)
    ∷ firm_list (row 0 0 0 (row 1 0 0 (row 2 2 0 []))) (answer 11 1)
    -- 12: no end of its tab; 10 before 11, 11 before 12
    ∷ firm_list (row 0 0 0 (row 1 1 2 (row 2 2 0 []))) (answer 12 1)
    ∷ firm_list (row 0 0 0 (row 2 0 7 (row 2 2 0 []))) (answer 10 1)
    ∷ firm_list (row 0 0 0 (row 1 0 7 (row 2 2 0 []))) (answer 11 1)
    -- 9: not three numbers for each tab; 13: a closed walk is no path; 17: no two tabs part a firm plan
    ∷ firm_list (row 0 0 0 (row 1 1 0 [])) (answer 9 0)
    ∷ firm_list (row 0 0 0 (row 0 1 1 (row 1 2 0 []))) (answer 13 1)
    ∷ weak_list (0 ∷ 1 ∷ []) (answer 17 0)
    ∷ [])

-- P5; a piece that is not built breaks the closing rule; a weak list may name more than it takes
abbrev p5 : Case
p5 = case 3 (tab 0 1 (tab 0 1 (tab 0 1 []))) 9 (weak [])
    (firm_list (row 0 0 0 (row 1 1 0 (row 2 2 0 []))) (answer 16 0) ∷ weak_list (1 ∷ []) passed ∷ [])

-- P6: the ends of the last step lie inside different links
abbrev p6 : Case
p6 = case 4 (tab 0 1 (tab 0 2 (tab 0 3 (tab 1 2 (tab 1 3 (tab 2 3 [])))))) 18 firm
    (firm_list (row 0 0 0 (row 1 1 0 (row 1 3 2 (row 2 2 0 (row 2 4 3 (row 3 5 2 [])))))) passed
    -- 12: the walk has come to another piece; 13: the second path ends elsewhere
    ∷ firm_list (row 0 0 0 (row 1 1 0 (row 1 4 3 (row 2 2 0 (row 2 3 2 (row 3 5 2 [])))))) (answer 12 2)
    ∷ firm_list (row 0 0 0 (row 1 1 0 (row 2 2 0 (row 2 4 3 (row 3 3 1 (row 4 5 2 [])))))) (answer 13 1)
    ∷ [])

-- P7: the ends of the last step lie inside one link
abbrev p7 : Case
p7 = case 4 (tab 0 1 (tab 0 2 (tab 2 3 (tab 3 1 (tab 0 1 (tab 2 3 [])))))) 18 (weak (1 ∷ 3 ∷ []))
    (firm_list (row 0 0 0 (row 1 1 0 (row 1 2 2 (row 1 3 3 (row 2 4 0 (row 3 5 2 [])))))) (answer 15 5)
    ∷ weak_list (1 ∷ 3 ∷ []) passed
    ∷ [])

-- P8: a piece has two tabs
abbrev p8 : Case
p8 = case 3 (tab 0 1 (tab 0 1 (tab 0 2 (tab 2 1 [])))) 12 (weak (2 ∷ 3 ∷ []))
    (firm_list (row 0 0 0 (row 1 1 0 (row 2 2 0 (row 2 3 2 [])))) (answer 16 0) ∷ weak_list (2 ∷ 3 ∷ []) passed ∷ [])

-- P9: a closed walk at a branch
abbrev p9 : Case
p9 = case 3 (tab 0 1 (tab 0 1 (tab 0 1 (tab 1 2 (tab 1 2 (tab 1 2 [])))))) 18 firm
    (firm_list (row 0 0 0 (row 1 1 0 (row 2 2 0 (row 3 3 1 (row 3 4 2 (row 4 5 1 [])))))) passed ∷ [])

-- P10: 4 before 5 at one tab; and the plan's own refusal before 9
abbrev p10 : Case
p10 = case 5 (tab 7 7 []) 3 (refused (answer 4 0)) (other 5 [] (answer 4 0) ∷ [])

-- 01's whole example, under "Columns"
abbrev example : Case
example = case 3 (tab 0 1 (tab 0 1 (tab 1 2 (tab 1 2 [])))) 12 (weak (0 ∷ 1 ∷ [])) (weak_list (0 ∷ 1 ∷ []) passed ∷ weak_list (2 ∷ 3 ∷ []) passed ∷ [])

-- Not in 01. The first tab with 4 or 5 decides, not the lower number; 1 before 2 and 2 before 4
abbrev first_tab : Case
first_tab = case 3 (tab 0 1 (tab 2 2 (tab 0 3 []))) 9 (refused (answer 5 1)) []

abbrev odd_first : Case
odd_first = case 1 (5 ∷ []) 0 (refused (answer 1 0)) []

abbrev count_first : Case
count_first = case 1 (tab 5 5 []) 3 (refused (answer 2 0)) []

-- 6 where the record is one number short, for a weak plan too, and after the plan's own refusals
abbrev short_space : Case
short_space = case 2 (tab 0 1 []) 2 (refused (answer 6 0)) []

abbrev refused_short : Case
refused_short = case 2 (tab 0 2 []) 2 (refused (answer 4 0)) []

-- the lowest first tab decides, not the lowest second: tabs 0 and 5, not 1 and 2; the check passes either
abbrev lowest_first : Case
lowest_first = case 4 (tab 3 0 (tab 2 0 (tab 2 1 (tab 0 1 (tab 0 1 (tab 3 1 (tab 0 1 []))))))) 21 (weak (0 ∷ 5 ∷ [])) (weak_list (1 ∷ 2 ∷ []) passed ∷ [])

-- one tab before two: tab 4, not 0 and 1; and not tab 6, which parts it too
abbrev fewest : Case
fewest = case 5 (tab 0 1 (tab 0 1 (tab 1 2 (tab 1 2 (tab 2 3 (tab 1 2 (tab 3 4 []))))))) 21 (weak (4 ∷ [])) []

-- 13: the third path meets the first in piece 2
abbrev third_path : Case
third_path = case 3 (tab 0 2 (tab 2 1 (tab 0 1 (tab 0 2 (tab 2 1 []))))) 15 firm
    (firm_list (row 0 0 0 (row 0 1 2 (row 1 2 0 (row 2 3 0 (row 2 4 2 []))))) (answer 13 4) ∷ [])

-- 13: the second path meets the first; a step's 13 comes before the next row's 10
abbrev second_path : Case
second_path = case 3 (tab 0 2 (tab 2 1 (tab 0 2 (tab 2 1 (tab 0 1 []))))) 15 firm
    (firm_list (row 0 0 0 (row 0 1 2 (row 1 2 0 (row 1 3 2 (row 2 4 0 []))))) (answer 13 3)
    ∷ firm_list (row 0 0 0 (row 0 1 2 (row 1 2 0 (row 1 3 2 (row 4 4 0 []))))) (answer 13 3)
    ∷ [])

-- 13: a path passes one of the two ends; a path passes a piece twice
abbrev through_end : Case
through_end = case 3 (tab 0 1 (tab 1 2 (tab 2 1 (tab 0 1 (tab 0 1 []))))) 15 (weak (1 ∷ 2 ∷ []))
    (firm_list (row 0 0 0 (row 0 1 1 (row 0 2 2 (row 1 3 0 (row 2 4 0 []))))) (answer 13 2) ∷ [])

abbrev twice : Case
twice = case 4 (tab 0 2 (tab 2 3 (tab 3 2 (tab 2 1 (tab 0 1 (tab 0 1 [])))))) 18 (weak (0 ∷ 3 ∷ []))
    (firm_list (row 0 0 0 (row 0 1 2 (row 0 2 3 (row 0 3 2 (row 1 4 0 (row 2 5 0 [])))))) (answer 13 3) ∷ [])

-- 14, not 15: a closed walk at a piece that is no branch
abbrev closed_walk : Case
closed_walk = case 4 (tab 0 1 (tab 0 1 (tab 0 2 (tab 2 1 (tab 2 3 (tab 3 2 [])))))) 18 (weak (2 ∷ 3 ∷ []))
    (firm_list (row 0 0 0 (row 1 1 0 (row 2 2 0 (row 2 3 2 (row 3 4 2 (row 3 5 3 [])))))) (answer 14 5) ∷ [])

-- 15: both ends lie inside one closed link
abbrev closed_link : Case
closed_link = case 4 (tab 0 1 (tab 0 1 (tab 0 1 (tab 1 2 (tab 2 3 (tab 3 1 (tab 2 3 []))))))) 21 (weak (3 ∷ 5 ∷ []))
    (firm_list (row 0 0 0 (row 1 1 0 (row 2 2 0 (row 3 3 1 (row 3 4 2 (row 3 5 3 (row 4 6 2 []))))))) (answer 15 6) ∷ [])

-- pieces 2 and 4 of one walk lie inside different links once 3 between them is a branch, and inside one link before; a step may lead
-- from a branch into a link that ends there
abbrev split_link : Case
split_link = case 5 (tab 0 1 (tab 0 1 (tab 0 2 (tab 2 3 (tab 3 4 (tab 4 1 (tab 3 0 (tab 2 4 [])))))))) 24 firm
    (firm_list (row 0 0 0 (row 1 1 0 (row 2 2 0 (row 2 3 2 (row 2 4 3 (row 2 5 4 (row 3 6 3 (row 4 7 2 [])))))))) passed
    ∷ firm_list (row 0 0 0 (row 1 1 0 (row 2 2 0 (row 2 3 2 (row 2 4 3 (row 2 5 4 (row 3 7 2 (row 4 6 3 [])))))))) (answer 15 6)
    ∷ [])

-- 14: a later step passes a built piece; passes a new one twice; begins on a new one; ends on a new one
abbrev inner_pieces : Case
inner_pieces = case 5 (tab 0 1 (tab 0 1 (tab 0 1 (tab 0 2 (tab 2 1 (tab 2 3 (tab 3 2 (tab 2 4 (tab 4 1 []))))))))) 27 (weak (5 ∷ 6 ∷ []))
    (firm_list (row 0 0 0 (row 1 1 0 (row 2 3 0 (row 2 4 2 (row 3 5 2 (row 3 6 3 (row 3 7 2 (row 3 8 4 (row 4 2 0 []))))))))) (answer 14 7)
    ∷ firm_list (row 0 0 0 (row 1 1 0 (row 2 2 0 (row 3 3 0 (row 3 5 2 (row 3 6 3 (row 3 4 2 (row 4 7 2 (row 4 8 4 []))))))))) (answer 14 6)
    ∷ firm_list (row 0 0 0 (row 1 1 0 (row 2 2 0 (row 3 5 3 (row 3 4 2 (row 4 3 0 (row 5 6 3 (row 6 7 2 (row 6 8 4 []))))))))) (answer 14 4)
    ∷ firm_list (row 0 0 0 (row 1 1 0 (row 2 2 0 (row 3 3 0 (row 4 4 1 (row 5 5 2 (row 6 6 3 (row 7 7 2 (row 8 8 4 []))))))))) (answer 14 3)
    ∷ [])

-- Not in 01: plans with slugs (02).

abbrev slugged : ℕ → List ℕ → List ℕ → ℕ → Verdict → List Checked → Case
slugged n ends excluded space v checks = record { drawn = plan n ends excluded; space = space; found = v; checks = checks }

-- a slug alone holds the sheet together: its tabs hold nothing, and none of them counts
abbrev slug_holds : Case
slug_holds = slugged 3 (tab 0 2 (tab 0 2 (tab 0 2 (tab 1 2 (tab 1 2 (tab 1 2 [])))))) (2 ∷ []) 0 (weak [])
    (weak_list [] passed
    ∷ firm_list [] (answer 16 0)
    ∷ firm_list (row 0 0 0 (row 1 1 0 (row 2 2 0 (row 3 3 1 (row 3 4 2 (row 4 5 1 [])))))) (answer 9 0)
    ∷ weak_list (0 ∷ []) (answer 11 0)
    ∷ [])

-- the slug hangs on one tab: the kept pieces are firm. Space and rows are those of the kept tabs, under their drawn numbers
abbrev slug_hangs : Case
slug_hangs = slugged 3 (tab 0 2 (tab 0 1 (tab 0 1 (tab 0 1 [])))) (2 ∷ []) 9 firm
    (firm_list (row 0 1 0 (row 1 2 0 (row 2 3 0 []))) passed
    ∷ firm_list (row 0 1 0 (row 1 2 1 (row 2 3 0 []))) passed
    -- a row for the slug's tab; its tab in a row; numbers as if it were not drawn; the slug as a piece
    ∷ firm_list (row 0 1 0 (row 1 2 0 (row 2 3 0 (row 3 0 0 [])))) (answer 9 0)
    ∷ firm_list (row 0 0 0 (row 1 1 0 (row 2 2 0 []))) (answer 11 0)
    ∷ firm_list (row 0 1 0 (row 1 0 0 (row 2 3 0 []))) (answer 11 1)
    ∷ firm_list (row 0 1 2 (row 1 2 0 (row 2 3 0 []))) (answer 12 0)
    ∷ weak_list (0 ∷ []) (answer 11 0)
    ∷ weak_list [] (answer 17 0)
    ∷ [])

abbrev slug_space : Case
slug_space = slugged 3 (tab 0 2 (tab 0 1 (tab 0 1 (tab 0 1 [])))) (2 ∷ []) 8 (refused (answer 6 0)) []

-- a weak list with a slug's tab and one that parts: 11 at its position, whatever the other parts
abbrev slug_named : Case
slug_named = slugged 3 (tab 0 2 (tab 0 1 (tab 2 1 []))) (2 ∷ []) 3 (weak (1 ∷ []))
    (weak_list (1 ∷ []) passed
    ∷ weak_list (0 ∷ 1 ∷ []) (answer 11 0)
    ∷ weak_list (1 ∷ 2 ∷ []) (answer 11 1)
    ∷ weak_list (0 ∷ 2 ∷ []) (answer 11 0)
    ∷ [])

-- piece 0 is a slug, and two pieces are kept
abbrev slug_zero : Case
slug_zero = slugged 4 (tab 1 3 (tab 0 1 (tab 3 1 (tab 0 3 (tab 1 3 (tab 2 1 [])))))) (0 ∷ 2 ∷ []) 9 firm
    (firm_list (row 0 0 1 (row 1 2 1 (row 2 4 3 []))) passed ∷ firm_list (row 0 0 1 (row 1 1 1 (row 2 4 3 []))) (answer 11 1) ∷ [])

-- the lowest pair of kept tabs, 1 and 3, not one with a slug's tab
abbrev slug_pair : Case
slug_pair = slugged 4 (tab 1 0 (tab 1 2 (tab 3 0 (tab 2 3 (tab 3 1 []))))) (0 ∷ []) 9 (weak (1 ∷ 3 ∷ []))
    (weak_list (1 ∷ 3 ∷ []) passed ∷ weak_list (0 ∷ 1 ∷ []) (answer 11 0) ∷ weak_list (1 ∷ 2 ∷ []) (answer 11 1) ∷ weak_list (3 ∷ 4 ∷ []) passed ∷ [])

-- 18: not below the pieces, not above the one before, named twice; its place is its position
abbrev slug_beyond : Case
slug_beyond = slugged 3 (tab 0 1 []) (1 ∷ 3 ∷ []) 0 (refused (answer 18 1)) (other 5 [] (answer 18 1) ∷ weak_list [] (answer 18 1) ∷ [])

abbrev slug_back : Case
slug_back = slugged 5 [] (3 ∷ 1 ∷ []) 0 (refused (answer 18 1)) []

abbrev slug_twice : Case
slug_twice = slugged 4 (tab 0 1 []) (2 ∷ 2 ∷ []) 0 (refused (answer 18 1)) []

-- 19: one piece is kept, or none; before 6 and 9
abbrev slugs_one : Case
slugs_one = slugged 3 (tab 0 1 []) (0 ∷ 1 ∷ []) 0 (refused (answer 19 0)) (other 5 [] (answer 19 0) ∷ [])

abbrev slugs_all : Case
slugs_all = slugged 2 [] (0 ∷ 1 ∷ []) 0 (refused (answer 19 0)) []

-- 18 before 19; 5 before 18
abbrev slug_order : Case
slug_order = slugged 2 (tab 0 1 []) (1 ∷ 1 ∷ []) 3 (refused (answer 18 1)) []

abbrev tab_before_slug : Case
tab_before_slug = slugged 3 (tab 0 1 (tab 2 2 [])) (3 ∷ []) 6 (refused (answer 5 1)) []

abbrev pub table : List Case
table =
    p1 ∷ p2 ∷ p3 ∷ p4 ∷ p5 ∷ p6 ∷ p7 ∷ p8 ∷ p9 ∷ p10 ∷ example
    ∷ first_tab ∷ odd_first ∷ count_first ∷ short_space ∷ refused_short ∷ lowest_first ∷ fewest ∷ third_path ∷ second_path ∷ through_end ∷ twice ∷ closed_walk ∷ closed_link ∷ split_link ∷ inner_pieces
    ∷ slug_holds ∷ slug_hangs ∷ slug_space ∷ slug_named ∷ slug_zero ∷ slug_pair ∷ slug_beyond ∷ slug_back ∷ slug_twice ∷ slugs_one ∷ slugs_all ∷ slug_order ∷ tab_before_slug ∷ []

-- 01: the limits. k tabs between pieces 0 and 1
unfoldable pub parallel : ℕ → List ℕ
parallel zero = []
parallel (suc k) = 0 ∷ 1 ∷ parallel k
