-- `read_header` meets its contract: what is read of the first line is read of the text.
use native.Mathlib.Omega.{arith}
use lib.ListN.{length-take}
use Rattle.drawn.specs.Text.{form, header_size}
use Rattle.drawn.proofs.Lines.{header_short, header_front}
use Rattle.drawn.proofs.line.read_header.Goals as goal

pub returns-then-text-lt-HEADER : goal.returns-then-text-lt-HEADER
returns-then-text-lt-HEADER c = header_short form c.args.text.now (omega arith)

pub header_columns-requires : goal.header_columns-requires
header_columns-requires c = rw c.line_at.ensures (omega (arith, length-take (header_size form) c.args.text.now))

pub returns : goal.returns
returns c = header_front form c.args.text.now (header_size form) (omega arith) c.header_columns.result (rw c.line_at.ensures at c.header_columns.ensures)
