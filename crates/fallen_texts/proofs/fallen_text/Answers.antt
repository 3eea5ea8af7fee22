-- `fallen_text` meets its contract: the lines of what is listed are written.
use native.Mathlib.Omega.{arith}
use lib.ListN.{length-take}
use Rattle.fallen_texts.proofs.Answering.{lines_written}
use Rattle.fallen_texts.proofs.fallen_text.Goals as goal

pub slice_bounds-list-end : goal.slice_bounds-list-end
slice_bounds-list-end c = c.list_text-size.ensures.inside

pub slice_bounds-write_lines-end : goal.slice_bounds-write_lines-end
slice_bounds-write_lines-end c = simp length-take (omega (arith, c.list_text-size.ensures.inside))

pub returns : goal.returns
returns c = lines_written c.list_text-size.ensures c.write_lines.ensures
