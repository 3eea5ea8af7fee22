-- `hand` meets its contract: where `t` is an edge, its place gets what `higher` answers.
use Rattle.numbers.proofs.Steps.{hand_some, hand_none}
use Rattle.numbers.proofs.below.hand.Goals as goal

pub returns-then-t-ne0 : goal.returns-then-t-ne0
returns-then-t-ne0 c =
    let a = c.args in
    hand_some a.ends.now a.number.now a.over.now a.t a.x c.higher.result c.if-t-ne0.true c.higher.ensures

pub returns-else-t-ne0 : goal.returns-else-t-ne0
returns-else-t-ne0 c = let a = c.args in hand_none a.ends.now a.number.now a.over.now a.t a.x c.if-t-ne0.false
