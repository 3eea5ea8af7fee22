-- `write_weak` meets its contract: the list's front has the edges that the cut names.
use native.Mathlib.Omega.{arith}
use lib.ListN.{length-take}
use Rattle.certify_texts.proofs.write_weak.Goals as goal

pub slice_bounds-write_verdict-end : goal.slice_bounds-write_verdict-end
slice_bounds-write_verdict-end c = simp length-take (omega (arith, c.requires))
