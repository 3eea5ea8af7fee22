-- `go_on` meets its contract: the step begins, or goes on with a mark for the vertex it leaves.
use Rattle.verify_firm.specs.Marks.{begun, on}
use Rattle.verify_firm.proofs.state.go_on.Goals as goal

pub returns-then-first-row : goal.returns-then-first-row
returns-then-first-row c = begun c.if-first-row.true

pub bounds-left-v : goal.bounds-left-v
bounds-left-v c = c.requires.0

pub bounds-left-v-2 : goal.bounds-left-v-2
bounds-left-v-2 c = c.requires.0

pub returns : goal.returns
returns c = on c.if-first-row.false c.stays_fresh.result c.stays_fresh.ensures
