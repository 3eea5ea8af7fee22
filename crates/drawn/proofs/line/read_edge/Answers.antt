-- `read_edge` meets its contract: what is read of its line is read of the text from there on.
use native.Mathlib.Omega.{arith}
use lib.ListN.{drop}
use Rattle.drawn.specs.Text.{form, edge_size}
use Rattle.drawn.proofs.Lines.{edge_front}
use Rattle.drawn.proofs.line.read_edge.Goals as goal

pub returns : goal.returns
returns c = let a = c.args in edge_front form (drop a.at a.text.now) (edge_size form) (omega arith) c.edge_columns.result (rw c.line_at.ensures at c.edge_columns.ensures)
