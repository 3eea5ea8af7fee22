-- `counted` meets its contract: the constructor is asked of the front of the table, and of no excluded vertex.
use native.Mathlib.Omega.{arith}
use lib.ListN.{length-take}
use Rattle.drawn.proofs.counted.Goals as goal

pub slice_bounds-new-end : goal.slice_bounds-new-end
slice_bounds-new-end c = simp length-take (omega (arith, c.requires))
