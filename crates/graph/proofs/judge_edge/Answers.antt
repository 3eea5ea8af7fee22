-- `judge_edge` meets its contract, by its three tests.
use native.Mathlib.Omega.{arith}
use borrow.Author.Tests.{lt-ltb, le-ltb, eq-eqb, ne_eqb}
use Rattle.connectivity.specs.Admission.{edge_number}
use Rattle.graph.proofs.judge_edge.Goals as goal

-- the value of each test from what is known at the return
pub returns-then-vertices-left : goal.returns-then-vertices-left
unfolding edge_number
returns-then-vertices-left c = let a = c.args in rw (le-ltb a.left a.vertices (omega arith))

pub returns-then-vertices-right : goal.returns-then-vertices-right
unfolding edge_number
returns-then-vertices-right c = let a = c.args in
    rw (lt-ltb a.left a.vertices (omega arith), le-ltb a.right a.vertices (omega arith))

pub returns-then-left-right : goal.returns-then-left-right
unfolding edge_number
returns-then-left-right c = let a = c.args in
    rw (lt-ltb a.left a.vertices (omega arith), lt-ltb a.right a.vertices (omega arith), eq-eqb a.left a.right (omega arith))

pub returns-else-left-right : goal.returns-else-left-right
unfolding edge_number
returns-else-left-right c = let a = c.args in
    rw (lt-ltb a.left a.vertices (omega arith), lt-ltb a.right a.vertices (omega arith), ne_eqb a.left a.right (omega arith))
