-- `turn` meets its contract: nothing happens, or the cut is tried.
use mathlib.Core.Path.{◌≡◌, refl, ap, ◌∙◌}
use mathlib.Core.Bool.{Bool, true, false, cond}
use mir.Val.{bool_byte}
use lib.ListN.{set}
use Rattle.components.specs.Stars.{other, taken, tried}
use Rattle.components.proofs.pairs.turn.Goals as goal

-- a test as a number
byte : (t : Bool) → bool_byte t ≡ cond t 1 0
byte true = refl
byte false = refl

pub returns-then-labels-at : goal.returns-then-labels-at
returns-then-labels-at c = other c.if-labels-at.true refl refl

pub returns-then-claimed-at-ne0 : goal.returns-then-claimed-at-ne0
returns-then-claimed-at-ne0 c = taken c.if-claimed-at-ne0.true refl refl

pub attempt-requires : goal.attempt-requires
attempt-requires c =
    let s = c.requires in
    let w = s.2 in
    (w.tabled, w.first_room, s.0, w.masking _ s.1 c.if-claimed-at-ne0.false, w.table_room, s.3)

pub returns : goal.returns
returns c = tried c.if-claimed-at-ne0.false (ap (set c.args.claimed.now c.args.d) (c.from.ensures ∙ byte c.attempt.result)) c.attempt.ensures
