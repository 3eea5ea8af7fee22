-- `cover_one` meets its contract: the left end first, then the right one.
use mathlib.Core.Path.{sym, ◌∙◌}
use Rattle.graph.proofs.excluded.cover_one.Goals as goal

pub returns-then-is_marked : goal.returns-then-is_marked
returns-then-is_marked c = let m = sym c.is_marked.ensures ∙ c.if-is_marked.true in rw m c.put.ensures

pub returns-then-is_marked-2 : goal.returns-then-is_marked-2
returns-then-is_marked-2 c =
    let a = sym c.is_marked.ensures ∙ c.if-is_marked.false in
    let b = sym c.is_marked-2.ensures ∙ c.if-is_marked-2.true in
    rw (a, b) c.put-then-is_marked-2.ensures

pub returns-else-is_marked-2 : goal.returns-else-is_marked-2
returns-else-is_marked-2 c =
    let a = sym c.is_marked.ensures ∙ c.if-is_marked.false in
    let b = sym c.is_marked-2.ensures ∙ c.if-is_marked-2.false in
    rw (a, b)
