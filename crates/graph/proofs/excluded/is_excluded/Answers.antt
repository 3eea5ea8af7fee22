-- `is_excluded` meets its contract: the library's test of a list is the one of the definitions.
use mathlib.Core.Path.{◌∙◌}
use Rattle.graph.proofs.Barring.{mem-any}
use Rattle.graph.proofs.excluded.is_excluded.Goals as goal

pub returns : goal.returns
returns c = c.contains.ensures.value ∙ mem-any c.args.v c.args.excluded.now
