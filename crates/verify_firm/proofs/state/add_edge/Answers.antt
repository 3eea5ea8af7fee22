-- `add_edge` meets its contract: the ends differ, so each mark goes up by one.
use Prim.Native.Nat.{◌*◌}
use native.Mathlib.Omega.{arith}
use lib.ListN.{get_or}
use Rattle.verify_firm.proofs.Adding.{half_few, edge_added}
use Rattle.verify_firm.proofs.state.add_edge.Goals as goal

pub overflow_cast-l : goal.overflow_cast-l
overflow_cast-l c = omega (arith, c.requires.left, c.requires.long)

pub overflow_cast-r : goal.overflow_cast-r
overflow_cast-r c = omega (arith, c.requires.right, c.requires.long)

pub offset_bounds-degree-l : goal.offset_bounds-degree-l
offset_bounds-degree-l c = omega (arith, c.requires.left, c.requires.long)

pub bounds-degree-l : goal.bounds-degree-l
bounds-degree-l c = omega (arith, c.requires.left, c.requires.long)

pub overflow_add-degree : goal.overflow_add-degree
overflow_add-degree c = omega (arith, c.requires.few (get_or c.args.ends.now (2 * c.args.e) 0))

pub offset_bounds-degree-l-2 : goal.offset_bounds-degree-l-2
offset_bounds-degree-l-2 c = omega (arith, c.requires.left, c.requires.long)

pub bounds-degree-l-2 : goal.bounds-degree-l-2
bounds-degree-l-2 c = omega (arith, c.requires.left, c.requires.long)

pub offset_bounds-degree-r : goal.offset_bounds-degree-r
offset_bounds-degree-r c = omega (arith, c.requires.right, c.requires.long)

pub bounds-degree-r : goal.bounds-degree-r
bounds-degree-r c = omega (arith, c.requires.right, c.requires.long)

pub overflow_add-degree-2 : goal.overflow_add-degree-2
overflow_add-degree-2 c = omega (arith, half_few c.args.degree.now c.args.ends.now c.args.e c.requires)

pub offset_bounds-degree-r-2 : goal.offset_bounds-degree-r-2
offset_bounds-degree-r-2 c = omega (arith, c.requires.right, c.requires.long)

pub bounds-degree-r-2 : goal.bounds-degree-r-2
bounds-degree-r-2 c = omega (arith, c.requires.right, c.requires.long)

pub returns : goal.returns
returns c = edge_added _ _ _ c.requires
